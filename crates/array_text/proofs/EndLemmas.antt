-- At its end each file is accepted or refused.
use Rattle.std.proofs.Common.{◌≡◌, ℕ, zero, suc, ℤ, List, [], ◌∷◌, ◌++◌, refl, sym, ap, ◌∙◌, inl, inr}
use Rattle.std.proofs.Common.{subst, Ok, Err}
use Rattle.std.specs.Prelude.{◌⊎◌, IfErr, IfOk, Result}
use Rattle.array_text.specs.declared.error.DataError.{DataError}
use Rattle.array_text.specs.Sources.{Explains}
use Rattle.std.specs.declared.option.Option.{Option}
use Rattle.std.specs.declared.option.Option.TheVariants.{None, Some}
use Rattle.shapes_core.specs.declared.area.Declared.{Declared}
use Rattle.text_tokens.specs.declared.token.Token.TheVariants as token
use Rattle.text_tokens.specs.Tokens.{inner_tokens, position_past, start}
use Rattle.array_text.specs.Lines.{Lined, lined}
use Rattle.array_text.specs.Outcome.{Came, Head, Outcome, Want, all_of, at_end, at_start, behind_head, head_of, outcome_along, outcome_of, step}
use Rattle.array_text.proofs.GrammarLemmas.{split}
use Rattle.array_text.proofs.PassLemmas.{stays_refused}

-- accepted or refused
abbrev pub IsEnded : Outcome → Type 0
IsEnded outcome = ((arrays : List (List ℤ)) × (outcome ≡ Outcome.Accepted arrays)) ⊎ ((line : ℕ) × (cause : ℕ) × (outcome ≡ Outcome.Refused line cause))

end_ends : (all : Option (List (List ℤ))) (line : ℕ) → IsEnded (at_end all line)
end_ends None line = inr (line, 9, refl)
end_ends (Some arrays) line = inl (arrays, refl)

head_ends : (came : Came) (verdict : Head) (first line : ℕ) → IsEnded (behind_head came verdict first token.End line)
head_ends came (Head.Fails cause) first line = inr (first, cause, refl)
head_ends came (Head.Begins place zero) first line = end_ends _ line
head_ends came (Head.Begins place (suc count)) first line = inr (line, 8, refl)

step_ends : (declared : List Declared) (outcome : Outcome) (line : ℕ) → IsEnded (step declared outcome (token.End, line))
step_ends declared (Outcome.Goes came Want.AnArray) line = end_ends (all_of came) line
step_ends declared (Outcome.Goes came (Want.AName first)) line = inr (line, 3, refl)
step_ends declared (Outcome.Goes came (Want.AnExtent first name shape)) line = head_ends came (head_of declared came name shape) first line
step_ends declared (Outcome.Goes came (Want.AValue place values more)) line = inr (line, 8, refl)
step_ends declared (Outcome.Accepted arrays) line = inl (arrays, refl)
step_ends declared (Outcome.Refused first cause) line = inr (first, cause, refl)

pub along_append : (declared : List Declared) (outcome : Outcome) (front behind : List Lined)
    → outcome_along declared outcome (front ++ behind) ≡ outcome_along declared (outcome_along declared outcome front) behind
along_append declared outcome [] behind = refl
along_append declared outcome (first ∷ others) behind = along_append declared (step declared outcome first) others behind

ended : (one other : Outcome) → one ≡ other → IsEnded other → IsEnded one
ended one other e (inl accepted) = inl (accepted.0, e ∙ accepted.1)
ended one other e (inr refused) = inr (refused.0, refused.1, e ∙ refused.2)

pub text_ends : (declared : List Declared) (text : List ℕ) → IsEnded (outcome_of declared text)
text_ends declared text =
    ended (outcome_of declared text) _
    (ap (outcome_along declared (at_start declared)) (split text)
    ∙ along_append declared (at_start declared) (lined (inner_tokens start text)) ((token.End, (position_past start text).line) ∷ []))
    (step_ends declared (outcome_along declared (at_start declared) (lined (inner_tokens start text))) (position_past start text).line)

pub refused_front : (declared : List Declared) (front behind : List Lined) (line cause : ℕ)
    → outcome_along declared (at_start declared) front ≡ Outcome.Refused line cause
    → outcome_along declared (at_start declared) (front ++ behind) ≡ Outcome.Refused line cause
refused_front declared front behind line cause h =
    along_append declared (at_start declared) front behind ∙ ap (λ o. outcome_along declared o behind) h ∙ stays_refused declared behind line cause

pub same_arrays : (outcome : Outcome) (first second : List (List ℤ)) → outcome ≡ Outcome.Accepted first → outcome ≡ Outcome.Accepted second → first ≡ second
same_arrays outcome first second e g = let h : Outcome.Accepted first ≡ Outcome.Accepted second = sym e ∙ g in cc h

pub same_refusal : (outcome : Outcome) (line other cause why : ℕ) → outcome ≡ Outcome.Refused line cause → outcome ≡ Outcome.Refused other why
    → (line ≡ other) × (cause ≡ why)
same_refusal outcome line other cause why e g = let h : Outcome.Refused line cause ≡ Outcome.Refused other why = sym e ∙ g in (cc h, cc h)

pub never_both : (outcome : Outcome) (arrays : List (List ℤ)) (line cause : ℕ) → outcome ≡ Outcome.Accepted arrays → outcome ≡ Outcome.Refused line cause → ⊥
never_both outcome arrays line cause e g = let h : Outcome.Accepted arrays ≡ Outcome.Refused line cause = sym e ∙ g in absurd (cc h)

pub given_same : (result : Result (List (List ℤ)) DataError) (outcome : Outcome) (arrays : List (List ℤ)) → IfOk result (λ given. outcome ≡ Outcome.Accepted given)
    → outcome ≡ Outcome.Accepted arrays → IfOk result (λ given. given ≡ arrays)
given_same (Ok given) outcome arrays read e = same_arrays outcome given arrays read e
given_same (Err error) outcome arrays read e = tt

pub given_no_refusal : (result : Result (List (List ℤ)) DataError) (outcome : Outcome) (arrays : List (List ℤ)) (line cause : ℕ) → IfErr result (λ error. Explains outcome error)
    → outcome ≡ Outcome.Accepted arrays → result ≡ Err (DataError.Text line cause) → ⊥
given_no_refusal result outcome arrays line cause explains e g =
    let P : Result (List (List ℤ)) DataError → Type 0 = λ r. IfErr r (λ error. Explains outcome error) in
    never_both outcome arrays line cause e (subst P g explains)

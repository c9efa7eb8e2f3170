-- What is wanted behind a front is what the stack says, and what is no lexeme gets stuck.
use Rattle.std.proofs.Common.{◌≡◌, ℕ, Bool, true, false, List, [], ◌∷◌, ◌++◌, refl, ap, ◌∙◌}
use Rattle.std.specs.Prelude.{if◌then◌else◌}
use Rattle.std.proofs.lemmas.List.Sums.{fold-append}
use Rattle.text_tokens.specs.declared.token.Sign.TheVariants as sign
use Rattle.moa_tree.specs.declared.operator.Op.{Op}
use Rattle.moa_tree.specs.Expected.{cause_of}
use Rattle.moa_tree.specs.Refusals.{IsFront, MayFollow, Wants, applies, counts, is_end, takes_name}
use Rattle.moa_tree.specs.Vocabulary.{Lexeme, is_fold}
use Rattle.moa_tree.proofs.WantedLemmas.{Want, wants_after, at_start, next, no_front, stuck}

-- what a front goes on with does not get stuck
pub not_stuck : (front : List Lexeme) (lexeme : Lexeme) → MayFollow front lexeme → next (wants_after at_start front) lexeme ≡ stuck → ⊥
not_stuck front lexeme follows h = no_front (front ++ lexeme ∷ []) (fold-append next at_start front (lexeme ∷ []) ∙ h) follows

at_in : (wants : List Want) (lexeme : Lexeme) → (next wants Lexeme.In ≡ stuck → ⊥) → cause_of wants lexeme ≡ (if is_end lexeme then 6 else 5)
at_in (Want.Items seen ∷ wants) lexeme h = refl
at_in (Want.Extents seen ∷ wants) lexeme h = refl
at_in _ lexeme h = absurd (h refl)

at_equal : (wants : List Want) (lexeme : Lexeme) → (next wants (Lexeme.Sign sign.Equal) ≡ stuck → ⊥) → cause_of wants lexeme ≡ 8
at_equal (Want.AnEqual ∷ wants) lexeme h = refl
at_equal _ lexeme h = absurd (h refl)

at_open : (wants : List Want) (lexeme : Lexeme) → (next wants (Lexeme.Sign sign.Open) ≡ stuck → ⊥) → cause_of wants lexeme ≡ 9
at_open (Want.AnExpr depth ∷ wants) lexeme h = refl
at_open _ lexeme h = absurd (h refl)

at_close : (wants : List Want) (lexeme : Lexeme) → (next wants (Lexeme.Sign sign.Close) ≡ stuck → ⊥) → cause_of wants lexeme ≡ 10
at_close (Want.AClose ∷ wants) lexeme h = refl
at_close _ lexeme h = absurd (h refl)

at_less : (wants : List Want) (lexeme : Lexeme) → (next wants (Lexeme.Sign sign.Less) ≡ stuck → ⊥) → cause_of wants lexeme ≡ 11
at_less (Want.AList ∷ wants) lexeme h = refl
at_less _ lexeme h = absurd (h refl)

at_greater : (wants : List Want) (lexeme : Lexeme) → (next wants (Lexeme.Sign sign.Greater) ≡ stuck → ⊥) → cause_of wants lexeme ≡ 12
at_greater (Want.Entries ∷ wants) lexeme h = refl
at_greater _ lexeme h = absurd (h refl)

past_in : (wants : List Want) (lexeme : Lexeme) → (next wants Lexeme.In ≡ stuck → ⊥) → cause_of (next wants Lexeme.In) lexeme ≡ 7
past_in (Want.Items seen ∷ wants) lexeme h = refl
past_in (Want.Extents seen ∷ wants) lexeme h = refl
past_in _ lexeme h = absurd (h refl)

past_let : (wants : List Want) (lexeme : Lexeme) → (next wants Lexeme.Let ≡ stuck → ⊥) → cause_of (next wants Lexeme.Let) lexeme ≡ 7
past_let (Want.Items seen ∷ wants) lexeme h = refl
past_let (Want.Extents seen ∷ wants) lexeme h = refl
past_let _ lexeme h = absurd (h refl)

past_out : (wants : List Want) (lexeme : Lexeme) → (next wants Lexeme.Out ≡ stuck → ⊥) → cause_of (next wants Lexeme.Out) lexeme ≡ 7
past_out (Want.Items seen ∷ wants) lexeme h = refl
past_out (Want.Extents seen ∷ wants) lexeme h = refl
past_out _ lexeme h = absurd (h refl)

past_names : (word : Lexeme) → takes_name word ≡ true → (wants : List Want) (lexeme : Lexeme) → (next wants word ≡ stuck → ⊥)
    → cause_of (next wants word) lexeme ≡ 7
past_names Lexeme.In h wants lexeme on = past_in wants lexeme on
past_names Lexeme.Let h wants lexeme on = past_let wants lexeme on
past_names Lexeme.Out h wants lexeme on = past_out wants lexeme on
past_names _ h wants lexeme on = absurd (cc h)

past_counts : (word : Lexeme) → counts word ≡ true → (wants : List Want) (lexeme : Lexeme) → (next wants word ≡ stuck → ⊥)
    → cause_of (next wants word) lexeme ≡ 12
past_counts Lexeme.Iota h (Want.AnExpr depth ∷ wants) lexeme on = refl
past_counts Lexeme.Iota h _ lexeme on = absurd (on refl)
past_counts Lexeme.Rotate h (Want.AnExpr depth ∷ wants) lexeme on = refl
past_counts Lexeme.Rotate h _ lexeme on = absurd (on refl)
past_counts _ h wants lexeme on = absurd (cc h)

past_applies : (word : Lexeme) → applies word ≡ true → (wants : List Want) (lexeme : Lexeme) → (next wants word ≡ stuck → ⊥)
    → cause_of (next wants word) lexeme ≡ 13
past_applies Lexeme.Outer h (Want.AnExpr depth ∷ wants) lexeme on = refl
past_applies Lexeme.Outer h _ lexeme on = absurd (on refl)
past_applies Lexeme.Inner h (Want.AnExpr depth ∷ wants) lexeme on = refl
past_applies Lexeme.Inner h _ lexeme on = absurd (on refl)
past_applies Lexeme.Reduce h (Want.AnExpr depth ∷ wants) lexeme on = refl
past_applies Lexeme.Reduce h _ lexeme on = absurd (on refl)
past_applies Lexeme.Scan h (Want.AnExpr depth ∷ wants) lexeme on = refl
past_applies Lexeme.Scan h _ lexeme on = absurd (on refl)
past_applies _ h wants lexeme on = absurd (cc h)

chosen_op : (test : Bool) (wants : List Want) (lexeme : Lexeme) → ((if test then Want.AnOp ∷ wants else stuck) ≡ stuck → ⊥)
    → cause_of (if test then Want.AnOp ∷ wants else stuck) lexeme ≡ 13
chosen_op true wants lexeme on = refl
chosen_op false wants lexeme on = absurd (on refl)

past_inner_fold : (wants : List Want) (op : Op) (lexeme : Lexeme) → (wants_after wants (Lexeme.Inner ∷ Lexeme.Binary op ∷ []) ≡ stuck → ⊥)
    → cause_of (wants_after wants (Lexeme.Inner ∷ Lexeme.Binary op ∷ [])) lexeme ≡ 13
past_inner_fold (Want.AnExpr depth ∷ wants) op lexeme on = chosen_op (is_fold op) _ lexeme on
past_inner_fold _ op lexeme on = absurd (on refl)

pub cause_wanted : (front : List Lexeme) (lexeme : Lexeme) (cause : ℕ) → IsFront front → Wants front lexeme cause → cause_of (wants_after at_start front) lexeme ≡ cause
cause_wanted front lexeme cause f (Wants.version l) = refl
cause_wanted front lexeme cause f (Wants.version_number l) = refl
cause_wanted front lexeme cause f (Wants.statement g l follows h) =
    at_in (wants_after at_start g) l (not_stuck g Lexeme.In follows) ∙ ap (λ test. if test then 6 else 5) h
cause_wanted front lexeme cause f (Wants.output g follows) = at_in (wants_after at_start g) Lexeme.End (not_stuck g Lexeme.In follows)
cause_wanted front lexeme cause f (Wants.name g word l h) =
    ap (λ wants. cause_of wants l) (fold-append next at_start g (word ∷ [])) ∙ past_names word h (wants_after at_start g) l (not_stuck g word f)
cause_wanted front lexeme cause f (Wants.equal g l follows) = at_equal (wants_after at_start g) l (not_stuck g _ follows)
cause_wanted front lexeme cause f (Wants.expression g l follows) = at_open (wants_after at_start g) l (not_stuck g _ follows)
cause_wanted front lexeme cause f (Wants.close g l follows) = at_close (wants_after at_start g) l (not_stuck g _ follows)
cause_wanted front lexeme cause f (Wants.list g l follows) = at_less (wants_after at_start g) l (not_stuck g _ follows)
cause_wanted front lexeme cause f (Wants.number g word l h) =
    ap (λ wants. cause_of wants l) (fold-append next at_start g (word ∷ [])) ∙ past_counts word h (wants_after at_start g) l (not_stuck g word f)
cause_wanted front lexeme cause f (Wants.entry g l follows) = at_greater (wants_after at_start g) l (not_stuck g _ follows)
cause_wanted front lexeme cause f (Wants.operator g word l h) =
    ap (λ wants. cause_of wants l) (fold-append next at_start g (word ∷ [])) ∙ past_applies word h (wants_after at_start g) l (not_stuck g word f)
cause_wanted front lexeme cause f (Wants.second_operator g op l) =
    ap (λ wants. cause_of wants l) (fold-append next at_start g (Lexeme.Inner ∷ Lexeme.Binary op ∷ []))
    ∙ past_inner_fold (wants_after at_start g) op l (λ h. no_front (g ++ Lexeme.Inner ∷ Lexeme.Binary op ∷ [])
    (fold-append next at_start g (Lexeme.Inner ∷ Lexeme.Binary op ∷ []) ∙ h) f)

pub malformed_stuck : (wants : List Want) → next wants Lexeme.Malformed ≡ stuck
malformed_stuck [] = refl
malformed_stuck (Want.Version ∷ wants) = refl
malformed_stuck (_ ∷ wants) = refl

pub out_of_range_stuck : (wants : List Want) → next wants Lexeme.OutOfRange ≡ stuck
out_of_range_stuck [] = refl
out_of_range_stuck (Want.Version ∷ wants) = refl
out_of_range_stuck (_ ∷ wants) = refl

pub long_word_stuck : (wants : List Want) → next wants Lexeme.LongWord ≡ stuck
long_word_stuck [] = refl
long_word_stuck (Want.Version ∷ wants) = refl
long_word_stuck (_ ∷ wants) = refl

-- What becomes of a text is what its readings and refusals say: so each text is read or refused.
use Rattle.std.proofs.Common.{◌≡◌, ℕ, Bool, true, false, List, [], ◌∷◌, ◌++◌, ◌⊎◌, inl, inr, refl, sym, ap, ◌∙◌, subst, append_assoc, arith}
use Rattle.std.specs.Prelude.{◌==◌, not, if◌then◌else◌}
use Rattle.std.specs.declared.option.Option.{Option}
use Rattle.std.specs.declared.option.Option.TheVariants.{None, Some}
use Rattle.std.specs.Cmp.Derive.{both_true}
use Rattle.std.proofs.lemmas.Bool.Decides.{nat_tests}
use Rattle.std.proofs.lemmas.List.{append-nil}
use Rattle.std.proofs.lemmas.List.Sums.{fold-append}
use Rattle.text_tokens.specs.declared.token.Position.{Position}
use Rattle.text_tokens.specs.declared.token.Token.{Token}
use Rattle.text_tokens.specs.declared.token.Token.TheVariants as token
use Rattle.text_tokens.specs.Tokens.{inner_tokens, position_past, start, tokens}
use Rattle.moa_tree.specs.Expected.{cause_of}
use Rattle.moa_tree.specs.declared.tree.Version.{Version}
use Rattle.moa_tree.specs.Expr.{Item, Tree}
use Rattle.moa_tree.specs.Outcome.{Outcome, depth_refusal, is_stuck, outcome_from, outcome_of, refusal, refused_or, tree_in}
use Rattle.moa_tree.specs.Readings.{Reads, ReadsProgram}
use Rattle.moa_tree.specs.Refusals.{Cause, IsFront, IsRefused, IsTooDeep, is_no_lexeme}
use Rattle.moa_tree.specs.Trees.{statements_in}
use Rattle.moa_tree.specs.Vocabulary.{Lexeme, lexeme_of, lexemes, lexemes_of, version_of}
use Rattle.moa_tree.proofs.BehindLemmas.{accepted, deep_begins, ended, is_front, wants_cause}
use Rattle.moa_tree.proofs.CauseLemmas.{cause_wanted, long_word_stuck, malformed_stuck, not_stuck, out_of_range_stuck}
use Rattle.moa_tree.proofs.DeterminedLemmas.{tree_found}
use Rattle.moa_tree.proofs.EndLemmas.{no_program_before}
use Rattle.moa_tree.proofs.LevelLemmas.{level_program}
use Rattle.moa_tree.proofs.ShallowLemmas.{lower_program}
use Rattle.moa_tree.proofs.VersionLemmas.{version_read}
use Rattle.moa_tree.proofs.WantedLemmas.{Want, wants_after, after_program, after_stuck, at_start, both, depth_at, is_shallow, next, no_front, not_at_129, not_deep, not_empty, stuck, wanted_depth}

-- whether nothing can follow
stuck_or : (wants : List Want) → (wants ≡ stuck) ⊎ (wants ≡ stuck → ⊥)
stuck_or (Want.Never ∷ []) = inl refl
stuck_or [] = inr (λ e. cc e)
stuck_or (_ ∷ wants) = inr (λ e. cc e)

not_stuck_test : (wants : List Want) → (wants ≡ stuck → ⊥) → is_stuck wants ≡ false
not_stuck_test (Want.Never ∷ []) on = absurd (on refl)
not_stuck_test wants on = refl

-- what leads on is refused for its depth at most
refusal_on : (wants : List Want) (lexeme : Lexeme) → (next wants lexeme ≡ stuck → ⊥) → refusal wants lexeme ≡ depth_refusal (wanted_depth wants)
refusal_on wants Lexeme.Malformed on = absurd (on (malformed_stuck wants))
refusal_on wants Lexeme.OutOfRange on = absurd (on (out_of_range_stuck wants))
refusal_on wants Lexeme.LongWord on = absurd (on (long_word_stuck wants))
refusal_on wants lexeme on =
    ap (λ test. if test then Some (cause_of wants lexeme) else depth_refusal (wanted_depth wants)) (not_stuck_test (next wants lexeme) on)

-- what is stuck is refused for what is wanted
refusal_stuck : (wants : List Want) (lexeme : Lexeme) → is_no_lexeme lexeme ≡ false → next wants lexeme ≡ stuck → refusal wants lexeme ≡ Some (cause_of wants lexeme)
refusal_stuck wants Lexeme.Malformed one e = absurd (cc one)
refusal_stuck wants Lexeme.OutOfRange one e = absurd (cc one)
refusal_stuck wants Lexeme.LongWord one e = absurd (cc one)
refusal_stuck wants lexeme one e = ap (λ left. if is_stuck left then Some (cause_of wants lexeme) else depth_refusal (wanted_depth wants)) e

-- what is no lexeme is refused
refusal_none : (wants : List Want) (lexeme : Lexeme) → refusal wants lexeme ≡ None → is_no_lexeme lexeme ≡ false
refusal_none wants Lexeme.Malformed e = absurd (cc e)
refusal_none wants Lexeme.OutOfRange e = absurd (cc e)
refusal_none wants Lexeme.LongWord e = absurd (cc e)
refusal_none wants lexeme e = refl

-- whether an expression that begins at this depth is refused
data AtDepth (depth : ℕ) : Option ℕ → Type 0 where
  refused : depth ≡ 129 → AtDepth depth (Some 14)
  passes : not (depth == 129) ≡ true → AtDepth depth None

at_depth : (depth : ℕ) → AtDepth depth (depth_refusal depth)
at_depth depth = tested (depth == 129) refl
  where
    tested : (test : Bool) → (depth == 129) ≡ test → AtDepth depth (if test then Some 14 else None)
    tested true h = AtDepth.refused (grind (arith, nat_tests))
    tested false h = AtDepth.passes (ap not h)

not_refused : (depth : ℕ) (found : Option ℕ) → AtDepth depth found → found ≡ None → not (depth == 129) ≡ true
not_refused depth found (AtDepth.refused h) e = absurd (cc e)
not_refused depth found (AtDepth.passes h) e = h

not_deep_passes : (depth : ℕ) (found : Option ℕ) → AtDepth depth found → not (depth == 129) ≡ true → found ≡ None
not_deep_passes depth found (AtDepth.refused e) h = absurd (not_at_129 depth h e)
not_deep_passes depth found (AtDepth.passes e) h = refl

-- a lexeme that is not refused leads on
goes : (wants : List Want) (lexeme : Lexeme) → refusal wants lexeme ≡ None → (next wants lexeme ≡ stuck → ⊥) × (not (wanted_depth wants == 129) ≡ true)
goes wants lexeme e =
    (on, not_refused (wanted_depth wants) (depth_refusal (wanted_depth wants)) (at_depth (wanted_depth wants)) (sym (refusal_on wants lexeme on) ∙ e))
  where
    on : next wants lexeme ≡ stuck → ⊥
    on h = cc (sym (refusal_stuck wants lexeme (refusal_none wants lexeme e) h) ∙ e)

-- what becomes of these tokens: all lead on, or the first that does not is refused
data Told (wants : List Want) (list : List (Token × Position)) (tree : Tree) : Outcome → Type 0 where
  leads : (wants_after wants (lexemes_of tree.version list) ≡ stuck → ⊥) → is_shallow wants (lexemes_of tree.version list) ≡ true → Told wants list tree (Outcome.Read tree)
  stops : (position : Position) (cause : ℕ) (before : List (Token × Position)) (token : Token) (rest : List (Token × Position))
      → list ≡ before ++ (token, position) ∷ rest → (wants_after wants (lexemes_of tree.version before) ≡ stuck → ⊥) → is_shallow wants (lexemes_of tree.version before) ≡ true
      → refusal (wants_after wants (lexemes_of tree.version before)) (lexeme_of tree.version token) ≡ Some cause → Told wants list tree (Outcome.Refused position cause)

told_more : (wants : List Want) (first : Token × Position) (others : List (Token × Position)) (tree : Tree) (outcome : Outcome)
    → not (wanted_depth wants == 129) ≡ true → Told (next wants (lexeme_of tree.version first.0)) others tree outcome → Told wants (first ∷ others) tree outcome
told_more wants first others tree outcome h (Told.leads on shallow) =
    Told.leads on (both_true h shallow)
told_more wants first others tree outcome h (Told.stops position cause before token rest e on shallow why) =
    Told.stops position cause (first ∷ before) token rest (ap (λ list. first ∷ list) e) on (both_true h shallow) why

told : (tree : Tree) (list : List (Token × Position)) (wants : List Want) → (wants ≡ stuck → ⊥) → Told wants list tree (outcome_from tree wants list)
told tree [] wants on = Told.leads on refl
told tree (first ∷ others) wants on = told_first (refusal wants (lexeme_of tree.version first.0)) refl (told tree others (next wants (lexeme_of tree.version first.0)))
  where
    told_first : (found : Option ℕ) → refusal wants (lexeme_of tree.version first.0) ≡ found
        → ((next wants (lexeme_of tree.version first.0) ≡ stuck → ⊥) → Told (next wants (lexeme_of tree.version first.0)) others tree (outcome_from tree (next wants (lexeme_of tree.version first.0)) others))
        → Told wants (first ∷ others) tree (refused_or found first.1 (outcome_from tree (next wants (lexeme_of tree.version first.0)) others))
    told_first (Some cause) e more = Told.stops first.1 cause [] first.0 others refl on refl e
    told_first None e more =
        let h = goes wants (lexeme_of tree.version first.0) e in
        told_more wants first others tree (outcome_from tree (next wants (lexeme_of tree.version first.0)) others) h.1 (more h.0)

no_lexeme_or : (lexeme : Lexeme) (wants : List Want) (cause : ℕ) → refusal wants lexeme ≡ Some cause → (front : List Lexeme)
    → (is_no_lexeme lexeme ≡ false → Cause front lexeme cause) → Cause front lexeme cause
no_lexeme_or Lexeme.Malformed wants cause e front more = subst (Cause front Lexeme.Malformed) (cc e) Cause.malformed
no_lexeme_or Lexeme.OutOfRange wants cause e front more = subst (Cause front Lexeme.OutOfRange) (cc e) Cause.out_of_range
no_lexeme_or Lexeme.LongWord wants cause e front more = subst (Cause front Lexeme.LongWord) (cc e) Cause.long_word
no_lexeme_or lexeme wants cause e front more = more refl

-- what is refused by the stack has that cause
cause_of_refusal : (front : List Lexeme) → (wants_after at_start front ≡ stuck → ⊥) → (wants_after at_start front ≡ [] → ⊥)
    → (lexeme : Lexeme) (cause : ℕ) → refusal (wants_after at_start front) lexeme ≡ Some cause → Cause front lexeme cause
cause_of_refusal front on some lexeme cause e =
    no_lexeme_or lexeme (wants_after at_start front) cause e front (λ one. found one (stuck_or (next (wants_after at_start front) lexeme)))
  where
    further : wants_after at_start (front ++ lexeme ∷ []) ≡ next (wants_after at_start front) lexeme
    further = fold-append next at_start front (lexeme ∷ [])

    too_deep : (next (wants_after at_start front) lexeme ≡ stuck → ⊥) → (found : Option ℕ) → AtDepth (wanted_depth (wants_after at_start front)) found
        → found ≡ Some cause → Cause front lexeme cause
    too_deep goes_on found (AtDepth.refused h) k =
        subst (Cause front lexeme) (cc k)
        (Cause.too_deep lexeme (is_front (front ++ lexeme ∷ []) (λ sticks. goes_on (sym further ∙ sticks))) (deep_begins 128 front h))
    too_deep goes_on found (AtDepth.passes h) k = absurd (cc k)

    found : is_no_lexeme lexeme ≡ false → (next (wants_after at_start front) lexeme ≡ stuck) ⊎ (next (wants_after at_start front) lexeme ≡ stuck → ⊥) → Cause front lexeme cause
    found one (inl h) =
        subst (Cause front lexeme) (cc (sym (refusal_stuck (wants_after at_start front) lexeme one h) ∙ e))
        (Cause.wanted lexeme (cause_of (wants_after at_start front) lexeme) one (no_front (front ++ lexeme ∷ []) (further ∙ h)) (wants_cause front on some lexeme))
    found one (inr goes_on) =
        too_deep goes_on _ (at_depth (wanted_depth (wants_after at_start front))) (sym (refusal_on (wants_after at_start front) lexeme goes_on) ∙ e)

-- and a cause is what the stack says
refusal_of_cause : (front : List Lexeme) (lexeme : Lexeme) (cause : ℕ) → IsFront front → Cause front lexeme cause → refusal (wants_after at_start front) lexeme ≡ Some cause
refusal_of_cause front lexeme cause begun Cause.malformed = refl
refusal_of_cause front lexeme cause begun Cause.out_of_range = refl
refusal_of_cause front lexeme cause begun Cause.long_word = refl
refusal_of_cause front lexeme cause begun (Cause.wanted l k one never wants) = stopped (stuck_or (next (wants_after at_start front) l))
  where
    stopped : (next (wants_after at_start front) l ≡ stuck) ⊎ (next (wants_after at_start front) l ≡ stuck → ⊥) → refusal (wants_after at_start front) l ≡ Some k
    stopped (inl h) = refusal_stuck (wants_after at_start front) l one h ∙ ap Some (cause_wanted front l k begun wants)
    stopped (inr on) = absurd (never (is_front (front ++ l ∷ []) (λ h. on (sym (fold-append next at_start front (l ∷ [])) ∙ h))))
refusal_of_cause front lexeme cause begun (Cause.too_deep l follows deep) =
    refusal_on (wants_after at_start front) l (not_stuck front l follows) ∙ ap depth_refusal (depth_at 129 front deep)

lexemes_split : (version : Version) (before : List (Token × Position)) (token : Token × Position) (rest : List (Token × Position))
    → lexemes_of version (before ++ token ∷ rest) ≡ lexemes_of version before ++ lexeme_of version token.0 ∷ lexemes_of version rest
lexemes_split version [] token rest = refl
lexemes_split version (first ∷ others) token rest = ap (λ list. lexeme_of version first.0 ∷ list) (lexemes_split version others token rest)

-- the program that a text is read as is the one that is found in it
same_tree : (version : Version) (statements : List Item) (tree : Tree) → version ≡ tree.version → statements ≡ tree.statements
    → record { version = version; statements = statements } ≡ tree
same_tree version statements tree e k =
    ap (λ v. record { version = v; statements = statements }) e ∙ ap (λ items. record { version = tree.version; statements = items }) k

found_in : (text : List ℕ) (tree : Tree) → ReadsProgram 128 (lexemes (version_of text) text) tree → tree_in text ≡ tree
found_in text tree reads =
    let version = version_of text in
    same_tree version (statements_in 128 (lexemes version text)) tree
    (version_read version (tokens start text) 128 (lexemes version text) tree reads refl) (tree_found 128 (lexemes version text) tree reads)

read_in : (text : List ℕ) (tree : Tree) → Reads text tree → tree_in text ≡ tree
read_in text tree reads =
    let same = version_read tree.version (tokens start text) 128 (lexemes tree.version text) tree reads refl in
    found_in text tree (subst (λ version. ReadsProgram 128 (lexemes version text) tree) (sym same) reads)

-- what an outcome says
abbrev pub Says : List ℕ → Outcome → Type 0
Says text (Outcome.Read tree) = Reads text tree
Says text (Outcome.Refused position cause) = IsRefused text position cause

told_says : (text : List ℕ) (outcome : Outcome) → Told at_start (tokens start text) (tree_in text) outcome → Says text outcome
told_says text outcome (Told.leads on shallow) =
    let version = version_of text in
    let split = lexemes_split version (inner_tokens start text) (token.End, position_past start text) [] in
    let whole = ap (wants_after at_start) split ∙ ended (lexemes_of version (inner_tokens start text)) (λ e. on (ap (wants_after at_start) split ∙ e)) in
    let text_read = accepted (lexemes version text) whole in
    let lower = lower_program text_read.0 (lexemes version text) text_read.1 text_read.2 shallow in
    subst (ReadsProgram 128 (lexemes version text)) (sym (found_in text text_read.1 lower)) lower
told_says text outcome (Told.stops position cause before token rest e on shallow why) = record {
  before = before;
  token = token;
  after = rest;
  whole = e;
  front = is_front (lexemes_of (version_of text) before) on;
  shallow = not_deep (lexemes_of (version_of text) before) shallow;
  cause_is = cause_of_refusal (lexemes_of (version_of text) before) on (λ h. complete (accepted (lexemes_of (version_of text) before) h)) (lexeme_of (version_of text) token) cause why;
}
  where
    complete : (levels : ℕ) × (tree : Tree) × ReadsProgram levels (lexemes_of (version_of text) before) tree → ⊥
    complete program = no_program_before (version_of text) text before (token, position) rest e program.0 program.1 program.2

pub says : (text : List ℕ) → Says text (outcome_of text)
says text = told_says text (outcome_of text) (told (tree_in text) (tokens start text) at_start (λ e. cc e))

-- what leads on is passed over
passed_over : (tree : Tree) (before rest : List (Token × Position)) (wants : List Want) → (wants_after wants (lexemes_of tree.version before) ≡ stuck → ⊥)
    → is_shallow wants (lexemes_of tree.version before) ≡ true → outcome_from tree wants (before ++ rest) ≡ outcome_from tree (wants_after wants (lexemes_of tree.version before)) rest
passed_over tree [] rest wants on shallow = refl
passed_over tree (first ∷ others) rest wants on shallow =
    let lexeme = lexeme_of tree.version first.0 in
    let parts = both (not (wanted_depth wants == 129)) (is_shallow (next wants lexeme) (lexemes_of tree.version others)) shallow in
    let leads = λ (e : next wants lexeme ≡ stuck). on (ap (λ w. wants_after w (lexemes_of tree.version others)) e ∙ after_stuck (lexemes_of tree.version others)) in
    ap (λ found. refused_or found first.1 (outcome_from tree (next wants lexeme) (others ++ rest)))
    (refusal_on wants lexeme leads ∙ not_deep_passes (wanted_depth wants) _ (at_depth (wanted_depth wants)) parts.0)
    ∙ passed_over tree others rest (next wants lexeme) on parts.1

-- a text that is read becomes its tree
pub read_computed : (text : List ℕ) (tree : Tree) → Reads text tree → outcome_of text ≡ Outcome.Read tree
read_computed text tree reads =
    let list = lexemes tree.version text in
    let all = after_program 128 list tree reads in
    ap (λ found. outcome_from found at_start (tokens start text)) (read_in text tree reads)
    ∙ ap (outcome_from tree at_start) (sym (append-nil (tokens start text)))
    ∙ passed_over tree (tokens start text) [] at_start (λ e. not_empty (sym e ∙ all)) (level_program 128 list tree reads (omega arith))

-- no depth of 129 is wanted where none is too deep
shallow_front : (list front : List Lexeme)
    → ((earlier : List Lexeme) (lexeme : Lexeme) (later : List Lexeme) → list ≡ earlier ++ lexeme ∷ later → IsTooDeep (front ++ earlier) → ⊥)
    → is_shallow (wants_after at_start front) list ≡ true
shallow_front [] front none = refl
shallow_front (lexeme ∷ others) front none =
    both_true (here _ (at_depth (wanted_depth (wants_after at_start front))))
    (subst (λ wants. is_shallow wants others ≡ true) (fold-append next at_start front (lexeme ∷ []))
    (shallow_front others (front ++ lexeme ∷ []) (λ earlier more later e below. none (lexeme ∷ earlier) more later (ap (λ list. lexeme ∷ list) e)
    (subst IsTooDeep (append_assoc front (lexeme ∷ []) earlier) below))))
  where
    here : (found : Option ℕ) → AtDepth (wanted_depth (wants_after at_start front)) found → not (wanted_depth (wants_after at_start front) == 129) ≡ true
    here found (AtDepth.refused h) = absurd (none [] lexeme others refl (subst IsTooDeep (sym (append-nil front)) (deep_begins 128 front h)))
    here found (AtDepth.passes h) = h

-- a text that is refused becomes its refusal
pub refused_computed : (text : List ℕ) (position : Position) (cause : ℕ) → IsRefused text position cause → outcome_of text ≡ Outcome.Refused position cause
refused_computed text position cause r =
    let version = version_of text in
    let found = tree_in text in
    let front = lexemes_of version r.before in
    ap (outcome_from found at_start) r.whole
    ∙ passed_over found r.before ((r.token, position) ∷ r.after) at_start (λ e. no_front front e r.front) (shallow_front front [] r.shallow)
    ∙ ap (λ cause_found. refused_or cause_found position (outcome_from found (next (wants_after at_start front) (lexeme_of version r.token)) r.after))
    (refusal_of_cause front (lexeme_of version r.token) cause r.front r.cause_is)

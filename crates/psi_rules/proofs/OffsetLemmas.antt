-- What is built of the digits of an offset is what reshapes make.
use Rattle.std.specs.Prelude.{◌≡◌, ◌==◌, ℕ, List, [], ◌∷◌, length, false, IfOk, Result, if◌then◌else◌}
use Rattle.std.specs.Str.{bytes_eq}
use Rattle.std.proofs.Common.{refl, ap, sym, subst, ◌∙◌, arith}
use Rattle.shapes_core.specs.Shape.{span}
use Rattle.normal_form.specs.declared.entry.Entry.{Entry}
use Rattle.normal_form.specs.Formers.{Former, Making, by_offset, digiting, flattening, reshaping, unflattening}
use Rattle.psi_rules.specs.Building.{Built, Builds, digit_by, flat_by, spread_made}
use Rattle.psi_rules.specs.declared.digits.Digited.{Digited}

-- the law of a digit
abbrev pub IsDigit : Digited → Entry → ℕ → ℕ → Type 0
IsDigit digit flat weight n = (rest : Entry → Making) → digiting flat weight n rest ≡ digit_by digit flat weight n rest

-- the law of an offset
abbrev pub IsOffset : Digited → List ℕ → List Entry → Type 0
IsOffset offset shape entries = (rest : Entry → Making) → flattening shape entries rest ≡ flat_by offset shape entries rest

-- what is built of the first digit is built of all
pub spread-done : {E : Type 0} (digit : Digited) (shape axes : List ℕ) (n weight : ℕ) (flat : Entry) (found : List Entry) (of : Former)
    (old new : Built) (result : Result ℕ E) → shape ≡ n ∷ axes → weight ≡ span axes → IsDigit digit flat weight n
    → IfOk result (Builds (digit_by digit flat weight n (λ entry. spread_made axes flat (entry ∷ found) of)) old new)
    → IfOk result (Builds (spread_made shape flat found of) old new)
spread-done digit shape axes n weight flat found of old new result is_shape is_weight law built =
    let rest : Entry → Making = λ entry. spread_made axes flat (entry ∷ found) of in
    subst (λ making. IfOk result (Builds making old new))
    (sym (law rest) ∙ ap (λ w. digiting flat w n rest) is_weight ∙ ap (λ s. spread_made s flat found of) (sym is_shape)) built

-- an operand with no axis, or some, has a digit an axis
digits-made : (shape : List ℕ) (flat : Entry) (of : Former) → (length shape ≡ 1 → ⊥) → spread_made shape flat [] of ≡ unflattening shape flat of
digits-made [] flat of some = refl
digits-made (n ∷ []) flat of some = absurd (some refl)
digits-made (n ∷ m ∷ shape) flat of some = refl

pub unflat-done : {E : Type 0} (shape wanted : List ℕ) (flat : Entry) (of : Former) (old new : Built) (result : Result ℕ E)
    → shape ≡ wanted → (length shape ≡ 1 → ⊥)
    → IfOk result (Builds (spread_made shape flat [] of) old new) → IfOk result (Builds (unflattening wanted flat of) old new)
unflat-done shape wanted flat of old new result e some =
    subst (λ making. IfOk result (Builds making old new)) (digits-made shape flat of some ∙ ap (λ s. unflattening s flat of) e)

-- what is built of an offset is the flattening
pub flat-done : {E : Type 0} (offset : Digited) (shape : List ℕ) (entries : List Entry) (rest : Entry → Making) (old new : Built)
    (result : Result ℕ E)
    → IsOffset offset shape entries
    → IfOk result (Builds (flat_by offset shape entries rest) old new) → IfOk result (Builds (flattening shape entries rest) old new)
flat-done offset shape entries rest old new result law = subst (λ making. IfOk result (Builds making old new)) (sym (law rest))

-- a reshape that changes something goes by offsets
offset-made : (shape operand : List ℕ) (entries : List Entry) (of : Former) → bytes_eq shape operand ≡ false → (length operand == 0) ≡ false
    → flattening shape entries (λ flat. unflattening operand flat of) ≡ reshaping shape operand entries of
offset-made shape [] entries of differ some = grind (arith, some)
offset-made shape (n ∷ operand) entries of differ some =
    ap (λ same. if same then of entries else by_offset shape (n ∷ operand) entries of) (sym differ)

pub reshape-done : {E : Type 0} (shape operand wanted : List ℕ) (entries : List Entry) (of : Former) (old new : Built) (result : Result ℕ E)
    → operand ≡ wanted → bytes_eq shape operand ≡ false → (length operand == 0) ≡ false
    → IfOk result (Builds (flattening shape entries (λ flat. unflattening wanted flat of)) old new)
    → IfOk result (Builds (reshaping shape wanted entries of) old new)
reshape-done shape operand wanted entries of old new result e differ some =
    subst (λ making. IfOk result (Builds making old new))
    (ap (λ s. flattening shape entries (λ flat. unflattening s flat of)) (sym e) ∙ offset-made shape operand entries of differ some
    ∙ ap (λ s. reshaping shape s entries of) e)

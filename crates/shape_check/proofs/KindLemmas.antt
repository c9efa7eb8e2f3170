-- What the kinds of a layout tell of its names and its scans.
use Rattle.std.specs.Prelude.{◌≡◌, ℕ, List, [], ◌∷◌, ◌++◌, map}
use Rattle.std.proofs.Common.{refl, ap, ◌∙◌, sym, ap₂}
use Rattle.shapes_core.specs.declared.area.AreaKind.{AreaKind}
use Rattle.shapes_core.specs.declared.area.AreaKind.TheVariants as area

-- the names of inputs among kinds, those of outputs, and the numbers of scans
abbrev pub ins : List AreaKind → List (List ℕ)
ins [] = []
ins (area.In name ∷ kinds) = name ∷ ins kinds
ins (area.Out name ∷ kinds) = ins kinds
ins (area.Scan number ∷ kinds) = ins kinds

abbrev pub outs : List AreaKind → List (List ℕ)
outs [] = []
outs (area.In name ∷ kinds) = outs kinds
outs (area.Out name ∷ kinds) = name ∷ outs kinds
outs (area.Scan number ∷ kinds) = outs kinds

abbrev pub numbers : List AreaKind → List ℕ
numbers [] = []
numbers (area.In name ∷ kinds) = numbers kinds
numbers (area.Out name ∷ kinds) = numbers kinds
numbers (area.Scan number ∷ kinds) = number ∷ numbers kinds

abbrev pub kinds_of : List (List ℕ) → List (List ℕ) → List ℕ → List AreaKind
kinds_of inputs outputs scans = map area.In inputs ++ map area.Out outputs ++ map area.Scan scans

pub ins-of : (inputs outputs : List (List ℕ)) (scans : List ℕ) → ins (kinds_of inputs outputs scans) ≡ inputs
ins-of [] [] [] = refl
ins-of [] [] (number ∷ scans) = ins-of [] [] scans
ins-of [] (name ∷ outputs) scans = ins-of [] outputs scans
ins-of (name ∷ inputs) outputs scans = ap (λ l. name ∷ l) (ins-of inputs outputs scans)

pub outs-of : (inputs outputs : List (List ℕ)) (scans : List ℕ) → outs (kinds_of inputs outputs scans) ≡ outputs
outs-of [] [] [] = refl
outs-of [] [] (number ∷ scans) = outs-of [] [] scans
outs-of [] (name ∷ outputs) scans = ap (λ l. name ∷ l) (outs-of [] outputs scans)
outs-of (name ∷ inputs) outputs scans = outs-of inputs outputs scans

pub numbers-of : (inputs outputs : List (List ℕ)) (scans : List ℕ) → numbers (kinds_of inputs outputs scans) ≡ scans
numbers-of [] [] [] = refl
numbers-of [] [] (number ∷ scans) = ap (λ l. number ∷ l) (numbers-of [] [] scans)
numbers-of [] (name ∷ outputs) scans = numbers-of [] outputs scans
numbers-of (name ∷ inputs) outputs scans = numbers-of inputs outputs scans

-- so kinds in order are those of their own names and numbers
pub in-order : (kinds : List AreaKind) (inputs outputs : List (List ℕ)) (scans : List ℕ) → kinds ≡ kinds_of inputs outputs scans
    → kinds ≡ kinds_of (ins kinds) (outs kinds) (numbers kinds)
in-order kinds inputs outputs scans e =
    e ∙ sym (
    ap₂ (λ a b. kinds_of a b (numbers kinds)) (ap ins e ∙ ins-of inputs outputs scans) (ap outs e ∙ outs-of inputs outputs scans)
    ∙ ap (kinds_of inputs outputs) (ap numbers e ∙ numbers-of inputs outputs scans)
    )

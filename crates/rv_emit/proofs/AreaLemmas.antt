-- The areas of a layout are areas of a text.
use Rattle.std.specs.Prelude.{◌≡◌, ◌≢◌, ℕ, zero, suc, ◌+◌, List, [], ◌∷◌, ◌++◌, map, AllPairs}
use Rattle.std.specs.List.{AllByRecursion, range_with_len}
use Rattle.std.proofs.Common.{refl, ap, sym, ◌∙◌, subst, append_assoc}
use Rattle.shapes_core.specs.Shape.{total}
use Rattle.shapes_core.specs.declared.area.Area.{Area}
use Rattle.shapes_core.specs.declared.area.AreaKind.TheVariants.{In, Out, Scan}
use Rattle.shape_check.specs.Blocks.{ArePacked as Packs, IsLayout}
use Rattle.rv_line.specs.Fits.{AreAreas, AreInOrder, AreOuts, AreScans, ArePacked, IsArea, area_names}

scans : (number count : ℕ) → AreScans number (map Scan (range_with_len number count))
scans number zero = tt
scans number (suc count) =
    (refl, scans (number + 1) count)

outs : (outputs : List (List ℕ)) (count : ℕ) → AreOuts (map Out outputs ++ map Scan (range_with_len 0 count))
outs [] zero = tt
outs [] (suc count) = scans 0 (suc count)
outs (name ∷ outputs) count = outs outputs count

ins : (inputs outputs : List (List ℕ)) (count : ℕ) → AreInOrder (map In inputs ++ (map Out outputs ++ map Scan (range_with_len 0 count)))
ins [] [] zero = tt
ins [] [] (suc count) = scans 0 (suc count)
ins [] (name ∷ outputs) count = outs (name ∷ outputs) count
ins (name ∷ inputs) outputs count = ins inputs outputs count

no-names : (numbers : List ℕ) → area_names (map Scan numbers) ≡ []
no-names [] = refl
no-names (number ∷ numbers) = no-names numbers

out-names : (outputs : List (List ℕ)) (numbers : List ℕ) → area_names (map Out outputs ++ map Scan numbers) ≡ outputs
out-names [] numbers = no-names numbers
out-names (name ∷ outputs) numbers = ap (λ list. name ∷ list) (out-names outputs numbers)

all-names : (inputs outputs : List (List ℕ)) (numbers : List ℕ) → area_names (map In inputs ++ (map Out outputs ++ map Scan numbers))
    ≡ inputs ++ outputs
all-names [] outputs numbers = out-names outputs numbers
all-names (name ∷ inputs) outputs numbers = ap (λ list. name ∷ list) (all-names inputs outputs numbers)

packs : (start : ℕ) (areas : List Area) → Packs start areas → ArePacked start areas
packs start [] h = tt
packs start (area ∷ areas) h = (h.0, packs (start + total area.shape) areas h.1)

pub areas-fit : (areas : List Area) → IsLayout areas → AllByRecursion IsArea areas → AreAreas areas
areas-fit areas h each =
    let numbers = range_with_len 0 h.scans in
    let kinds : map (λ area. area.kind) areas ≡ map In h.inputs ++ (map Out h.outputs ++ map Scan numbers) =
    h.in_order ∙ append_assoc (map In h.inputs) (map Out h.outputs) (map Scan numbers) in
    record {
      each = each;
      in_order = subst AreInOrder (sym kinds) (ins h.inputs h.outputs h.scans);
      differ = subst (λ list. AllPairs (λ one other. one ≢ other) list) (sym (ap area_names kinds
          ∙ all-names h.inputs h.outputs numbers)) h.differ;
      packed = packs 0 areas h.packed;
    }

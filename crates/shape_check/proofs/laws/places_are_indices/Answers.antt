use Rattle.std.specs.Prelude.{[], ◌∷◌}
use Rattle.std.proofs.Common.{arith}
use Rattle.std.proofs.lemmas.Bool.{eqb-true}
use Rattle.shapes_core.specs.Gamma.{gamma}
use Rattle.shapes_core.specs.Shape.{total}
use Rattle.moa_tree.specs.Axes.{naturals}
use Rattle.shape_check.proofs.JoinLemmas.{cat-first, cat-second, index-split, inner-place, pointwise-place, reduce-place, scan-place}
use Rattle.shape_check.proofs.PlaceLemmas.{drop-place, permute-place, psi-place, reverse-place, rotate-place, take-place, transpose-place}
use Rattle.shape_check.proofs.laws.places_are_indices.Goals as goal

pub returns : goal.returns
returns c =
    let law = c.gamma_laws.ensures in
    record {
      pointwise = pointwise-place;
      psi = λ list s index. psi-place list index s;
      takes = take-place;
      drops = drop-place;
      reverses = reverse-place;
      rotates = rotate-place;
      transposes = transpose-place;
      permutes = permute-place;
      first_part = cat-first;
      second_part = cat-second;
      reshapes = λ list s index same h.
          law.is_index s (gamma index (naturals list)) (omega (arith, law.below index (naturals list) h, eqb-true (total (naturals list)) (total s) same));
      ravels = λ s index h. law.is_index s (gamma index (total s ∷ [])) (omega (arith, law.below index (total s ∷ []) h));
      outer = λ s t index. index-split index s t;
      inner = inner-place;
      reduces = reduce-place;
      scans = scan-place;
    }

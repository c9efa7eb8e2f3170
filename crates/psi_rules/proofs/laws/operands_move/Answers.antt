use Rattle.std.specs.Prelude.{◌-◌, ◌++◌, drop, length, reverse, slice_index}
use Rattle.std.specs.List.{remove}
use Rattle.std.proofs.lemmas.Bool.{eqb-true}
use Rattle.shapes_core.specs.Shape.{total}
use Rattle.moa_tree.specs.Axes.{but_last, common, each_extent, naturals, remaining, selected, taken}
use Rattle.moa_tree.specs.Expr.{One, Two, Psi, Take, Drop, Reverse, Rotate, Transpose, Permute, Cat, Reshape, Ravel, Outer, Inner, Reduce, Scan}
use Rattle.moa_tree.specs.ShapeOf.{shape_of}
use Rattle.psi_rules.proofs.LawLemmas.{join-law, some-axis}
use Rattle.psi_rules.proofs.MoveLemmas.{back-moves, drop-moves, first-moves, front-moves, insert-moves, last-moves, own-moves, permute-moves, psi-moves, reverse-moves, take-moves, transpose-moves}
use Rattle.psi_rules.proofs.laws.operands_move.Goals as goal

pub returns : goal.returns
returns c = λ shapes.
    let known = c.operands_are_accepted.ensures in
    let place = c.places_are_indices.ensures in
    record {
      one = λ op of h. known.unary shapes 0 0 op of (shape_of shapes (One op of)) h;
      two = λ op left right h.
          let s = shape_of shapes left in
          let t = shape_of shapes right in
          let k = known.binary shapes 0 0 op left right (shape_of shapes (Two op left right)) h in (
            k.0,
            k.1,
            own-moves s (common s t) (λ index inside. (place.pointwise s t index k.2 inside).0),
            own-moves t (common s t) (λ index inside. (place.pointwise s t index k.2 inside).1),
          );
      psi = λ list of h.
          let s = shape_of shapes of in
          let k = known.psi shapes 0 0 list of (shape_of shapes (Psi list of)) h in
          (k.0, psi-moves list s k.1 k.2 (λ index. place.psi list s index k.1 k.2));
      takes = λ list of h.
          let s = shape_of shapes of in
          let k = known.takes shapes 0 0 list of (shape_of shapes (Take list of)) h in
          (k.0, take-moves list s (each_extent taken list s) k.2 (λ index. place.takes list s index k.2));
      drops = λ list of h.
          let s = shape_of shapes of in
          let k = known.drops shapes 0 0 list of (shape_of shapes (Drop list of)) h in
          (k.0, drop-moves list s (each_extent remaining list s) k.2 (λ index. place.drops list s index));
      reverses = λ of h.
          let s = shape_of shapes of in
          ((known.reverses shapes 0 0 of (shape_of shapes (Reverse of)) h).0, reverse-moves s (λ index. place.reverses s index));
      rotates = λ by of h.
          let k = known.rotates shapes 0 0 by of (shape_of shapes (Rotate by of)) h in
          (k.0, some-axis (shape_of shapes of) k.1);
      transposes = λ of h.
          let s = shape_of shapes of in
          (known.transposes shapes 0 0 of (shape_of shapes (Transpose of)) h, transpose-moves s (reverse s) (λ index. place.transposes s index));
      permutes = λ list of h.
          let s = shape_of shapes of in
          let k = known.permutes shapes 0 0 list of (shape_of shapes (Permute list of)) h in
          (k.0, permute-moves (naturals list) s (selected (naturals list) s) (λ index. place.permutes list s index k.1 k.2));
      cat = λ left right h.
          let s = shape_of shapes left in
          let t = shape_of shapes right in
          let k = known.cat shapes 0 0 left right (shape_of shapes (Cat left right)) h in
          (k.0, k.1, join-law s t k.3 (λ index. place.first_part s t index) (λ index. place.second_part s t index k.2 k.3 k.4));
      reshapes = λ list of h.
          let k = known.reshapes shapes 0 0 list of (shape_of shapes (Reshape list of)) h in
          (k.0, eqb-true (total (naturals list)) (total (shape_of shapes of)) k.2);
      ravels = λ of h. known.ravels shapes 0 0 of (shape_of shapes (Ravel of)) h;
      outer = λ op left right h.
          let s = shape_of shapes left in
          let t = shape_of shapes right in
          let k = known.outer shapes 0 0 op left right (shape_of shapes (Outer op left right)) h in (
            k.0,
            k.1,
            front-moves (length s) s (s ++ t) (λ index inside. (place.outer s t index inside).0),
            back-moves (length s) t (s ++ t) (λ index inside. (place.outer s t index inside).1),
          );
      inner = λ fold op left right h.
          let s = shape_of shapes left in
          let t = shape_of shapes right in
          let axes = length s - 1 in
          let k = known.inner shapes 0 0 fold op left right (shape_of shapes (Inner fold op left right)) h in (
            k.0,
            k.1,
            last-moves axes (slice_index s axes) s (but_last s ++ drop 1 t) (λ index i inside below. (place.inner s t index i k.3 inside below).0),
            first-moves axes (slice_index s axes) t (but_last s ++ drop 1 t) (λ index i inside below. (place.inner s t index i k.3 inside below).1),
          );
      reduces = λ fold of h.
          let s = shape_of shapes of in (
            (known.reduces shapes 0 0 fold of (shape_of shapes (Reduce fold of)) h).0,
            insert-moves (slice_index s 0) s (remove s 0) (λ index i. place.reduces s index i),
          );
      scans = λ fold of h. (known.scans shapes 0 0 fold of (shape_of shapes (Scan fold of)) h).0;
    }

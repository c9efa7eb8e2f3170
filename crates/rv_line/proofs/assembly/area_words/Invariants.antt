use Rattle.std.proofs.Common.{◌≡◌, ◌≤◌, ◌*◌, take, sum_by}
use Rattle.shapes_core.specs.Limits.{greatest_extent}
use Rattle.shapes_core.specs.Shape.{total}
use Rattle.rv_line.proofs.assembly.area_words.Given as goal

abbrev pub invariant-loop-area : goal.invariant-loop-area
invariant-loop-area l =
    (l.words ≡ sum_by (λ area. total area.shape) (take l.area-index l.areas)) × (l.words ≤ greatest_extent * l.area-index)

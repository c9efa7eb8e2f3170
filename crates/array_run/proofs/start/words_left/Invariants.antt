use Rattle.std.proofs.Common.{◌≡◌, ◌≤◌, ◌*◌, take}
use Rattle.std.specs.List.{sum_by}
use Rattle.shapes_core.specs.Limits.{greatest_extent}
use Rattle.array_run.specs.Starts.{words_left}
use Rattle.array_run.proofs.start.words_left.Given as goal

abbrev pub invariant-loop-area : goal.invariant-loop-area
invariant-loop-area l = record {
  so_far : l.words ≡ sum_by words_left (take l.area-index l.areas);
  small : l.words ≤ greatest_extent * l.area-index;
}

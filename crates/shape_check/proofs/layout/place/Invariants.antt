use Rattle.std.proofs.Common.{◌≡◌, ◌++◌, take, drop}
use Rattle.shape_check.specs.Blocks.{array_words}
use Rattle.shape_check.specs.Layout.{placed}
use Rattle.shape_check.proofs.layout.place.Given as goal

abbrev pub invariant-loop-array : goal.invariant-loop-array
invariant-loop-array l = record {
  start : l.start ≡ array_words (take l.array-index l.arrays);
  areas : l.areas.items ++ placed l.start (drop l.array-index l.arrays) ≡ placed 0 l.arrays;
}

use Rattle.std.proofs.Common.{◌≡◌, take}
use Rattle.shape_check.specs.Blocks.{array_words}
use Rattle.shape_check.specs.Judged.{capped}
use Rattle.shape_check.proofs.layout.array_words.Given as goal

abbrev pub invariant-loop-array : goal.invariant-loop-array
invariant-loop-array l = l.words ≡ capped (array_words (take l.array-index l.arrays))

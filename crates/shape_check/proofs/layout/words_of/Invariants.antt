use Rattle.std.proofs.Common.{◌≡◌, take}
use Rattle.shape_check.specs.Blocks.{words_of}
use Rattle.shape_check.specs.Judged.{capped}
use Rattle.shape_check.proofs.layout.words_of.Given as goal

abbrev pub invariant-loop-area : goal.invariant-loop-area
invariant-loop-area l = l.words ≡ capped (words_of (take l.area-index l.areas))

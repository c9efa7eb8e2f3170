use Rattle.std.proofs.Common.{◌+◌, ◌*◌}
use Rattle.std.specs.Prelude.{max}
use Rattle.stride_form.proofs.writing.+writing.Given as goal

-- an operator stands above its operands, and below the term that it is of
abbrev pub decreases-write : goal.decreases-write
decreases-write l = 2 * l.number + 1

abbrev pub decreases-write_one : goal.decreases-write_one
decreases-write_one l = 2 * l.of + 2

abbrev pub decreases-write_two : goal.decreases-write_two
decreases-write_two l = 2 * max l.left l.right + 2

abbrev pub decreases-write_case : goal.decreases-write_case
decreases-write_case l = 2 * max l.yes l.no + 2

abbrev pub decreases-write_fold : goal.decreases-write_fold
decreases-write_fold l = 2 * l.of + 2

-- a chain stands below the term that it begins with, and above the form that it is over
abbrev pub decreases-write_chain : goal.decreases-write_chain
decreases-write_chain l = 2 * l.number

use Rattle.std.proofs.Common.{◌≡◌, ◌++◌, length}
use Rattle.nest_build.specs.Coding.{plain}
use Rattle.nest_build.specs.Nests.{sets_from}
use Rattle.nest_build.proofs.walks.push_sets.Given as goal

abbrev pub invariant-loop-value : goal.invariant-loop-value
invariant-loop-value l = l.steps.items ++ plain (sets_from l.register l.left) ≡ l.fn.steps.items ++ plain (sets_from l.first l.values)

abbrev pub decreases-loop-value : goal.decreases-loop-value
decreases-loop-value l = length l.left

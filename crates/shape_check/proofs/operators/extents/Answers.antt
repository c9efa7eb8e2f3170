use Rattle.shape_check.proofs.LimitLemmas.{shape-small}
use Rattle.shape_check.proofs.operators.extents.Goals as goal

pub returns-clause-small : goal.returns-clause-small
returns-clause-small c = λ axis. rw c.extents.ensures.value (shape-small c.args.shape.now c.extents.ensures.shape axis)

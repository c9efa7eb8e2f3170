use Rattle.moa_tree.specs.Pool.{tree_at}
use Rattle.shape_check.proofs.OperatedLemmas.{inner-work, reduce-work}
use Rattle.shape_check.proofs.counts.operator_work.Goals as goal

pub returns-in-Reduce : goal.returns-in-Reduce
returns-in-Reduce c =
    rw c.in-Reduce.is (
    λ prices pool trees operator accepted.
    rw (c.folded_work.ensures, c.extent_at.ensures, c.extents.ensures.value, c.saturating_add-operands.ensures)
    (reduce-work prices c.in-Reduce.fold (tree_at trees c.in-Reduce.of) c.args.first.now c.args.second.now accepted)
    )

pub returns-in-Inner : goal.returns-in-Inner
returns-in-Inner c =
    rw c.in-Inner.is (
    λ prices pool trees operator accepted.
    rw (c.folded_work-in-Inner.ensures, c.extent_at-in-Inner.ensures, c.extents-in-Inner.ensures.value, c.saturating_add-operands.ensures)
    (inner-work prices c.in-Inner.fold c.in-Inner.op (tree_at trees c.in-Inner.left) (tree_at trees c.in-Inner.right) c.args.first.now c.args.second.now accepted)
    )

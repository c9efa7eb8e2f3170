use Rattle.std.proofs.Common.{map, vec_len}
use Rattle.loop_ir.specs.Pool.{turned}
use Rattle.loop_ir.proofs.PoolLemmas.{IsTurning}
use Rattle.loop_ir.proofs.lists.turned.Given as goal

abbrev pub invariant-loop-list : goal.invariant-loop-list
invariant-loop-list l = IsTurning l.count (map (λ list. list.items) l.lists.items) (map (λ list. list.items) l.made.items)
    (turned (map (λ list. list.items) l.fn.lists.items))

abbrev pub decreases-loop-list : goal.decreases-loop-list
decreases-loop-list l = vec_len l.lists

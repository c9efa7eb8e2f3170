use Rattle.loop_ir.proofs.PoolLemmas.{turning-named, turning-put, turning-taken}
use Rattle.loop_ir.proofs.lists.turned.Goals as goal

pub renumber-requires : goal.renumber-requires
renumber-requires c =
    turning-named _ _ _ _ _ (turning-taken (λ list. list.items) _ _ _ _ _ _ c.in-Some.ensures.items c.loop-list.invariant)

pub loop-list-preserved : goal.loop-list-preserved
loop-list-preserved c =
    turning-put (λ list. list.items) _ _ _ _ _ _ _ _ c.in-Some.ensures.items c.in_ok-push.ensures.items c.renumber.ensures c.loop-list.invariant

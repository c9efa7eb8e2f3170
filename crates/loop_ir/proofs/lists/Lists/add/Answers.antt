use Rattle.std.specs.Prelude.{length}
use Rattle.std.proofs.Common.{arith, ap}
use Rattle.std.proofs.lemmas.List.{length-map}
use Rattle.loop_ir.proofs.PoolLemmas.{added-making}
use Rattle.loop_ir.proofs.lists.Lists.add.Goals as goal

pub invariant_of-self-2 : goal.invariant_of-self-2
invariant_of-self-2 c =
    added-making (λ list. list.items) _ _ _ _ c.in_ok-push.ensures.items c.self.view_is c.self.invariant
    (omega (arith, ap length c.self.view_is, c.requires.room, length-map c.self.inside.lists.items (λ list. list.items))) c.requires.inner

use Rattle.std.proofs.Common.{arith}
use Rattle.array_text.proofs.SlotLemmas.{none_yet}
use Rattle.array_text.proofs.arrays.Slots.new.Goals as goal

pub loop-place-preserved : goal.loop-place-preserved
loop-place-preserved c = record {
  same = omega (arith, c.in_ok-push.ensures.len, c.in_ok-push-2.ensures.len, c.loop-place.invariant.same);
  none = none_yet (λ list. list.items) _ _ _ _ _ c.loop-place.place c.in_ok-push.ensures.items c.in_ok-push-2.ensures.items
      c.loop-place.invariant.same c.loop-place.invariant.none;
}

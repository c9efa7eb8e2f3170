use Rattle.std.proofs.Common.{arith}
use Rattle.loop_ir.proofs.RenumberLemmas.{halfway-below, halfway-ends, halfway-next}
use Rattle.loop_ir.proofs.lists.renumber.Goals as goal

pub renumbered-requires : goal.renumbered-requires
renumbered-requires c =
    halfway-below _ _ c.loop-step.step-items _ _ (omega (arith, c.loop-step-test.true, c.loop-step.auto.step-items)) c.loop-step.invariant

pub loop-step-preserved : goal.loop-step-preserved
loop-step-preserved c =
    rw c.renumbered.ensures (halfway-next _ _ c.loop-step.step-items _ _
    (omega (arith, c.loop-step-test.true, c.loop-step.auto.step-items)) c.loop-step.invariant)

pub returns : goal.returns
returns c =
    let t = c.loop-step-test.false in
    let a = c.loop-step.auto.step-items in
    let d = c.deref_mut-step-items.ensures.len in
    let k = c.args.list.ok in
    halfway-ends _ _ _ c.loop-step.step-items _ _ (omega (arith, a, d, k)) (omega (arith, a, t)) c.loop-step.invariant

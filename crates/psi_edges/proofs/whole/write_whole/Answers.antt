use Rattle.std.proofs.Common.{◌∙◌, refl, arith}
use Rattle.psi_edges.specs.Calls.AreOffered.{none}
use Rattle.psi_edges.proofs.HeldLemmas.{nothing_put, offered_more, put_more, put_within}
use Rattle.psi_edges.proofs.whole.write_whole.Goals as goal

pub loop-done-init : goal.loop-done-init
loop-done-init g c = record { within = omega arith; offered = none; held = nothing_put _; same = refl }

pub loop-done-preserved : goal.loop-done-preserved
loop-done-preserved g c = record {
  within = put_within _ _ _ c.loop-done.invariant.within c.in-Ok.ensures.within.1;
  offered = offered_more _ _ _ _ _ _ _ c.loop-done.invariant.offered c.in-Ok.ensures.taken;
  held = put_more _ _ _ _ _ _ c.loop-done.invariant.within c.loop-done.invariant.held c.in-Ok.ensures.held;
  same = c.in-Ok.ensures.cause.same ∙ c.loop-done.invariant.same;
}

pub returns-in-Err-clause-offered : goal.returns-in-Err-clause-offered
returns-in-Err-clause-offered g c = (_, offered_more _ _ _ _ _ _ _ c.loop-done.invariant.offered c.in-Err.ensures.taken, tt)

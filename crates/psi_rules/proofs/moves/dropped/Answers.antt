use Rattle.std.proofs.Common.{subst, sym}
use Rattle.psi_rules.specs.Fitting.{AreExtents}
use Rattle.psi_rules.proofs.WithinLemmas.{extents-small}
use Rattle.psi_rules.proofs.moves.dropped.Goals as goal

pub each_remaining-requires-clause-small : goal.each_remaining-requires-clause-small
each_remaining-requires-clause-small c =
    subst AreExtents (sym c.extents.ensures.value) (extents-small c.args.shape.now c.extents.ensures.shape)

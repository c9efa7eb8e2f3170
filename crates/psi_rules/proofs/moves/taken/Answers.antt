use Rattle.std.proofs.Common.{subst, sym}
use Rattle.psi_rules.specs.Fitting.{AreExtents}
use Rattle.psi_rules.proofs.WithinLemmas.{extents-small}
use Rattle.psi_rules.proofs.moves.taken.Goals as goal

pub each_taken-requires-clause-small : goal.each_taken-requires-clause-small
each_taken-requires-clause-small c =
    subst AreExtents (sym c.extents.ensures.value) (extents-small c.args.shape.now c.extents.ensures.shape)

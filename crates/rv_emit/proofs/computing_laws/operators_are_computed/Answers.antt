use Rattle.rv_emit.proofs.ComputingLemmas.{two_computed}
use Rattle.rv_emit.proofs.computing_laws.operators_are_computed.Goals as goal

pub returns : goal.returns
returns c = λ lines base at to left right o x y d count some below l30 r30 l31 r31 f g holds other stands pc.
    two_computed c.machine_is_known.ensures lines base at to left right x y d count some below f g holds other pc o stands

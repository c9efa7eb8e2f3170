use Rattle.rv_emit.proofs.ComputingLemmas.{one_computed}
use Rattle.rv_emit.proofs.computing_laws.unary_operators_are_computed.Goals as goal

pub returns : goal.returns
returns c = λ lines base at to from o x d count some below apart fits holds stands pc.
    one_computed c.machine_is_known.ensures lines base at to from x d count some below apart fits holds pc o stands

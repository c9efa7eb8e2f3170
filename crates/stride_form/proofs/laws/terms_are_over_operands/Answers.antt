use Rattle.stride_form.proofs.PoolLemmas.{over-operands}
use Rattle.stride_form.proofs.laws.terms_are_over_operands.Goals as goal

pub returns : goal.returns
returns c = over-operands

use Rattle.loop_ir.proofs.NeededLemmas.{needed-decides}
use Rattle.loop_ir.proofs.laws.needed_decides.Goals as goal

pub returns : goal.returns
returns c = needed-decides

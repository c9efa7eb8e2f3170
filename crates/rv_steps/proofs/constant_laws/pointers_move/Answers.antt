use Rattle.rv_steps.proofs.PointerLemmas.{leads-stride, step-add, step-addi, step-slli}
use Rattle.rv_steps.proofs.constant_laws.pointers_move.Goals as goal

pub returns : goal.returns
returns c = record { addi = step-addi; add = step-add; slli = step-slli; stride = leads-stride }

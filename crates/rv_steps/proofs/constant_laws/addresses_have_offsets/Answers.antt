use Rattle.rv_steps.proofs.PointerLemmas.{address-place, address-wrapped}
use Rattle.rv_steps.proofs.constant_laws.addresses_have_offsets.Goals as goal

pub returns : goal.returns
returns c = record {
  wrapped = address-wrapped;
  place = λ registers r z imm base place holds small same below. address-place registers r z imm holds small base place same below;
}

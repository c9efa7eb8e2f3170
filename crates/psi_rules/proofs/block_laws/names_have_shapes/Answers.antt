use Rattle.psi_rules.proofs.ScopeLemmas.{names-shapes}
use Rattle.psi_rules.proofs.block_laws.names_have_shapes.Goals as goal

pub returns : goal.returns
returns c = names-shapes

use Rattle.shapes_core.proofs.NameLemmas.{length-IsName}
use Rattle.shapes_core.proofs.laws.names_are_short.Goals as goal

pub returns : goal.returns
returns c = length-IsName

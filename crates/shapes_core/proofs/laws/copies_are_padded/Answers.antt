use Rattle.shapes_core.proofs.PaddedLemmas.{filled}
use Rattle.shapes_core.proofs.laws.copies_are_padded.Goals as goal

pub returns : goal.returns
returns g c = filled

use Rattle.psi_edges.proofs.FilesLemmas.{found, lacking}
use Rattle.psi_edges.proofs.memory_shelf.file_of.Goals as goal

pub returns-in-Some : goal.returns-in-Some
returns-in-Some c = found c.args.entries.now _ _ _ c.as_slice.ensures.value c.in-Some.ensures.value

pub returns-in-None : goal.returns-in-None
returns-in-None c = lacking c.args.entries.now _ c.in-None.ensures.value

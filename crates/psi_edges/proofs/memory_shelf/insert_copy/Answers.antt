use Rattle.psi_edges.proofs.FilesLemmas.{insert_copies}
use Rattle.psi_edges.proofs.memory_shelf.insert_copy.Goals as goal

pub returns-clause-ok : goal.returns-clause-ok
returns-clause-ok c =
    insert_copies c.args.entries.now c.insert.new.self c.in_ok-key.key c.in_ok-file.file _ _
    c.in_ok-key.ensures.ok c.in_ok-file.ensures.items c.in_ok-insert.ensures.updates

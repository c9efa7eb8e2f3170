use Rattle.moa_tree.proofs.ReprintedLemmas.{read_writes}
use Rattle.moa_tree.proofs.reading_laws.reads_again.Goals as goal

pub returns-clause-writable : goal.returns-clause-writable
returns-clause-writable c = λ text tree reads. read_writes c.values_fit.ensures text tree reads

pub returns-clause-again : goal.returns-clause-again
returns-clause-again c = λ text tree reads.
    let writes = read_writes c.values_fit.ensures text tree reads in
    c.canonical_reads.ensures tree writes.0 writes.1

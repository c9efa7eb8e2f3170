use Rattle.moa_tree.proofs.PrintedLemmas.{canonical_reads}
use Rattle.moa_tree.proofs.reading_laws.canonical_reads.Goals as goal

pub returns : goal.returns
returns c = λ tree writable output. canonical_reads c.printed_numbers.ensures.first c.printed_names.ensures.first tree writable output

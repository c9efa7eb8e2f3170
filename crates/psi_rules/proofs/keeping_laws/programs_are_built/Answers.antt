use Rattle.moa_tree.specs.Canonical.{canonical}
use Rattle.moa_tree.specs.Pools.{tree_of}
use Rattle.shape_check.specs.Judged.{items_in}
use Rattle.psi_rules.proofs.KeepJobLemmas.{writable-built}
use Rattle.psi_rules.proofs.keeping_laws.programs_are_built.Goals as goal

pub returns : goal.returns
returns c = λ pools h. writable-built pools.version (items_in pools)
    (c.reads_again.ensures.writable (canonical (tree_of pools)) (tree_of pools) h.reads).0

use Rattle.std.proofs.Common.{[], subst, sym}
use Rattle.moa_tree.specs.Canonical.{canonical}
use Rattle.moa_tree.specs.Pools.{Pools, tree_of}
use Rattle.moa_tree.specs.Readings.{Reads}
use Rattle.moa_reader.specs.Build.{IsOpen}
use Rattle.moa_reader.proofs.BuildLemmas.{closed_program}
use Rattle.moa_reader.proofs.pools.Builder.finish.Goals as goal

pub new-requires : goal.new-requires
new-requires c =
    let e = sym c.self.view_is in
    let ReadsAsIs : Pools → Type 0 = λ pools. Reads (canonical (tree_of pools)) (tree_of pools) in
    closed_program _ (subst (IsOpen [] []) e c.requires.closed) (subst ReadsAsIs e c.requires.reads) c.self.invariant

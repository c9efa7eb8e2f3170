-- What is built when something is added, and that each list is part of it.
use Rattle.std.specs.Prelude.{◌≡◌, ◌+◌, ℤ, [], ◌∷◌, length}
use Rattle.std.proofs.Common.{refl, arith}
use Rattle.std.proofs.lemmas.List.{length-append}
use Rattle.text_tokens.specs.declared.token.Position.{Position}
use Rattle.moa_tree.specs.declared.tree.Node.{Node}
use Rattle.moa_tree.specs.declared.tree.Statement.{Statement}
use Rattle.moa_tree.specs.declared.tree.Version.{Version}
use Rattle.moa_tree.specs.Pools.{Pools}
use Rattle.moa_reader.specs.Build.{no_pools, with_node, with_numbers, with_statement}
use Rattle.moa_reader.specs.Rooms.{built}

pub built_nothing : (version : Version) → built (no_pools version) ≡ 0
unfolding built
built_nothing version = refl

pub built_node : (pools : Pools) (node : Node) (at : Position) → built (with_node pools node at) ≡ 1 + built pools
unfolding built
built_node pools node at = omega (arith, length-append pools.nodes (node ∷ []))

pub built_number : (pools : Pools) (value : ℤ) → built (with_numbers pools (value ∷ [])) ≡ 1 + built pools
unfolding built
built_number pools value = omega (arith, length-append pools.numbers (value ∷ []))

pub built_statement : (pools : Pools) (statement : Statement) → built (with_statement pools statement) ≡ 1 + built pools
unfolding built
built_statement pools statement = omega (arith, length-append pools.statements (statement ∷ []))

pub all_built : (pools : Pools) → built pools ≡ length pools.nodes + length pools.numbers + length pools.statements
unfolding built
all_built pools = refl

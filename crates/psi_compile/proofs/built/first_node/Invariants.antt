use Rattle.std.proofs.Common.{◌≡◌, None, take}
use Rattle.std.specs.List.{flat_map}
use Rattle.moa_tree.specs.Pool.{walk_of}
use Rattle.moa_tree.specs.Pools.{nodes_of}
use Rattle.psi_compile.specs.Unbuilt.{first_in}
use Rattle.psi_compile.proofs.built.first_node.Given as goal

abbrev pub invariant-loop-statement : goal.invariant-loop-statement
invariant-loop-statement l =
    first_in l.program (flat_map (λ s. flat_map (walk_of l.program.nodes) (nodes_of s)) (take l.statement-index l.statement-items)) ≡ None

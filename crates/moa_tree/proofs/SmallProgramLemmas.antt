-- The small pools of the worked examples are a program.
use Rattle.std.proofs.Common.{◌≡◌, ℕ, arith, refl, zero, suc, ◌<◌, ◌≤◌, ◌==◌, length}
use Rattle.std.specs.Prelude.{All, IsTrue}
use Rattle.std.specs.List.{AllByRecursion, count_by}
use Rattle.std.proofs.lemmas.Bool.Decides.{nat_tests}
use Rattle.moa_tree.specs.Canonical.{IsWritable, canonical}
use Rattle.moa_tree.specs.Expr.{Tree}
use Rattle.moa_tree.specs.Pool.{IsOrdered}
use Rattle.moa_tree.specs.PoolExamples.{small}
use Rattle.moa_tree.specs.Pools.{AreThere, IsProgram, all_lists, covers, extents_of, lists_of, nodes_of, references, tree_of}
use Rattle.moa_tree.specs.Readings.{Reads, has_output}

operands_there : IsOrdered small.nodes
operands_there zero other h = tt
operands_there (suc zero) other h = (omega arith, tt)
operands_there (suc (suc k)) other h = absurd (omega arith)

lists_there : All (λ n. AllByRecursion (AreThere small.numbers) (lists_of n)) small.nodes
lists_there zero other h = tt
lists_there (suc zero) other h = (omega arith, tt)
lists_there (suc (suc k)) other h = absurd (omega arith)

nodes_there : All (λ s. AllByRecursion (λ number. number < length small.nodes) (nodes_of s)) small.statements
nodes_there zero other h = tt
nodes_there (suc zero) other h = (omega arith, tt)
nodes_there (suc (suc k)) other h = absurd (omega arith)

extents_there : All (λ s. AllByRecursion (AreThere small.numbers) (extents_of s)) small.statements
extents_there zero other h = (omega arith, tt)
extents_there (suc zero) other h = tt
extents_there (suc (suc k)) other h = absurd (omega arith)

each_once : (number : ℕ) → number < length small.nodes → count_by (λ other. other == number) (references small) ≡ 1
each_once zero h = refl
each_once (suc zero) h = refl
each_once (suc (suc k)) h = absurd (omega arith)

lists_apart : (place : ℕ) → count_by (λ list. covers list place) (all_lists small) ≤ 1
lists_apart zero = omega arith
lists_apart (suc zero) = omega arith
lists_apart (suc (suc k)) = grind (arith, nat_tests)

pub small_is_program : ((tree : Tree) → AllByRecursion (IsWritable tree.version) tree.statements → IsTrue (has_output tree.statements) → Reads (canonical tree) tree)
    → IsProgram small
small_is_program law = record {
  placed = refl;
  ordered = operands_there;
  lists_there = lists_there;
  nodes_there = nodes_there;
  extents_there = extents_there;
  each_once = each_once;
  lists_apart = lists_apart;
  reads = law (tree_of small) (
    record { built = tt; spelled = (tt, (refl, (record { sfits = omega arith }, tt))) },
    (record { built = tt; spelled = (tt, (refl, (tt, (tt, (tt, (record { sfits = omega arith }, (tt, (refl, tt)))))))) }, tt),
  ) refl;
  few = omega arith;
}

-- What is ready at a node is ready at its operands.
use Rattle.std.specs.Prelude.{◌≡◌, ℕ, ◌<◌, List, [], ◌∷◌, length}
use Rattle.std.specs.List.{AllByRecursion, flat_map}
use Rattle.std.proofs.Common.{subst}
use Rattle.moa_tree.specs.declared.tree.Node.{Node}
use Rattle.moa_tree.specs.Pool.{operands, walk_of}
use Rattle.shape_check.specs.Kept.{Checking}
use Rattle.shape_check.specs.Scans.{node_at}
use Rattle.psi_rules.specs.Rules.{Names}
use Rattle.psi_rules.specs.Tables.{AreReady, HasShape, IsReady, IsScope, Tables}
use Rattle.psi_rules.proofs.ListLemmas.{each-cut}

module _ (checking : Checking) (tables : Tables) (statement : ℕ) (names : Names)
    (walks : (number : ℕ) → number < length checking.pools.nodes
    → walk_of checking.pools.nodes number ≡ number ∷ flat_map (walk_of checking.pools.nodes) (operands (node_at checking.pools.nodes number))) where
  these-ready : IsScope checking tables statement names → (bound : ℕ) (list : List ℕ)
      → AllByRecursion (λ of. (of < bound) × (of < length checking.pools.nodes)) list
      → AllByRecursion (HasShape checking names) (flat_map (walk_of checking.pools.nodes) list) → AreReady checking tables statement names list
  these-ready scope bound [] there shapes = tt
  these-ready scope bound (of ∷ others) there shapes =
      let parts = each-cut (HasShape checking names) (walk_of checking.pools.nodes of) (flat_map (walk_of checking.pools.nodes) others) shapes in
      let first = subst (AllByRecursion (HasShape checking names)) (walks of there.0.1) parts.0 in (
        record { nodes = record { there = there.0.1; shape = first.0; shapes = parts.0 }; scope = scope },
        these-ready scope bound others there.1 parts.1,
      )

  pub operands-ready : (number : ℕ) (n : Node) → node_at checking.pools.nodes number ≡ n
      → AllByRecursion (λ of. (of < number) × (of < length checking.pools.nodes)) (operands n)
      → IsReady checking tables statement names number → AreReady checking tables statement names (operands n)
  operands-ready number n same there ready =
      let all = subst (AllByRecursion (HasShape checking names)) (walks number ready.nodes.there) ready.nodes.shapes in
      these-ready ready.scope number (operands n) there
      (subst (λ m. AllByRecursion (HasShape checking names) (flat_map (walk_of checking.pools.nodes) (operands m))) same all.1)

-- The scans of a program's pools, as they are found along a walk, and what they give to its jobs and its block. This project's own.
use Rattle.std.specs.Prelude.{◌≡◌, ℕ, suc, ◌+◌, ◌*◌, ◌<◌, pos, List, [], ◌∷◌, ◌++◌, length, map, reverse, slice_index_or, Some}
use Rattle.std.specs.List.{flat_map, sum_by}
use Rattle.shapes_core.specs.Shape.{total}
use Rattle.moa_tree.specs.declared.tree.Job.{Job}
use Rattle.moa_tree.specs.declared.tree.Node.{Node}
use Rattle.moa_tree.specs.declared.tree.Node.TheVariants as node
use Rattle.moa_tree.specs.Pool.{walk_of}
use Rattle.moa_tree.specs.Pools.{Pools}
use Rattle.shape_check.specs.declared.inventory.Inventory.{Inventory}
use Rattle.shape_check.specs.declared.progress.Progress.{Progress}
use Rattle.shape_check.specs.declared.scans.PoolScan.{PoolScan}
use Rattle.shape_check.specs.declared.totals.Totals.{Totals}
use Rattle.shape_check.specs.Costs.{Prices, element_work, nodes, shape_in}
use Rattle.shape_check.specs.Uses.{HasShapes}
use Rattle.shape_check.specs.Judged.{capped, node_tree}
use Rattle.shape_check.specs.Layout.{numbered}

-- the scan that a node is, if it is one
abbrev pub scan_of : Node → List PoolScan
scan_of (node.Scan fold of) = record { fold = fold; node = of } ∷ []
scan_of _ = []

abbrev pub node_at : List Node → ℕ → Node
node_at nodes number = slice_index_or nodes number (node.Iota (pos 0))

-- the scans among these nodes
abbrev pub scans_at : List Node → List ℕ → List PoolScan
scans_at nodes numbers = flat_map (λ number. scan_of (node_at nodes number)) numbers

-- their jobs, whose areas are numbered from here on
abbrev pub numbered_jobs : ℕ → List PoolScan → List Job
numbered_jobs area [] = []
numbered_jobs area (scan ∷ scans) = record { area = area; node = scan.node; fold = Some scan.fold } ∷ numbered_jobs (suc area) scans

-- what the job of a scan adds to the size and to the work
abbrev pub scan_size : Pools → Prices → PoolScan → ℕ
scan_size pools prices scan = 2 + (1 + nodes prices (node_tree pools scan.node))

abbrev pub scan_work : Pools → Prices → PoolScan → ℕ
scan_work pools prices scan =
    (1 + total (shape_in prices (node_tree pools scan.node))) * (1 + (1 + element_work prices (node_tree pools scan.node)))

-- the table has the shapes of all nodes of what is scanned
pub record IsShaped (pools : Pools) (prices : Prices) (shapes : List (List ℕ)) (scan : PoolScan) : Type 0 where
  pub there : scan.node < length pools.nodes
  pub shaped : HasShapes pools prices shapes (walk_of pools.nodes scan.node)

-- a size and a work are added, as far as 64 bits go
pub record IsWith (more_size more_work : ℕ) (old new : Totals) : Type 0 where
  pub size : (more : ℕ) → capped (new.size + more) ≡ capped (old.size + (more_size + more))
  pub work : (more : ℕ) → capped (new.work + more) ≡ capped (old.work + (more_work + more))

-- the scans of the expression of a node are added
pub record AddsScans (pools : Pools) (inventory : Inventory) (prices : Prices) (number : ℕ) (old new : Progress) : Type 0 where
  pub jobs : new.jobs.items
      ≡ old.jobs.items ++ reverse (numbered_jobs (inventory.inputs + inventory.outputs + length old.scans.items) (scans_at pools.nodes (walk_of pools.nodes number)))
  pub scans : new.scans.items ≡ old.scans.items
      ++ numbered (length old.scans.items) (map (λ scan. shape_in prices (node_tree pools scan.node)) (scans_at pools.nodes (walk_of pools.nodes number)))
  pub totals : IsWith (sum_by (scan_size pools prices) (scans_at pools.nodes (walk_of pools.nodes number)))
      (sum_by (scan_work pools prices) (scans_at pools.nodes (walk_of pools.nodes number))) old.totals new.totals

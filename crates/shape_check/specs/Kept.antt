-- What a checked program keeps: its verdict, and what the verdict gives for each node, statement and job of its pools. This project's own.
use Rattle.std.specs.Prelude.{◌≡◌, ℕ, List, [], length, map, slice_index, slice_index_or, Err, IsOk, ⊤}
use Rattle.shapes_core.specs.declared.area.Area.{Area}
use Rattle.moa_tree.specs.declared.tree.Job.{Job}
use Rattle.moa_tree.specs.Pools.{Pools, walk}
use Rattle.shape_check.specs.Judged.{items_in}
use Rattle.shape_check.specs.declared.error.CheckError.{CheckError}
use Rattle.shape_check.specs.declared.error.CheckError.TheVariants as error
use Rattle.shape_check.specs.Costs.{size, work}
use Rattle.shape_check.specs.Judged.{error_in}
use Rattle.shape_check.specs.Jobs.{TreeJob, jobs}
use Rattle.shape_check.specs.Layout.{areas, node_shapes, statement_shapes}
use Rattle.shape_check.specs.Rules.{Failure}
use Rattle.shape_check.specs.Statements.{verdict_of}

-- the shapes of some nodes
abbrev pub shapes_at : List (List ℕ) → List ℕ → List (List ℕ)
shapes_at shapes numbers = map (λ number. slice_index_or shapes number []) numbers

-- a job by the number of its node in the pool
abbrev pub pooled : List ℕ → TreeJob → Job
pooled walk tree_job = record { area = tree_job.job.area; node = slice_index walk tree_job.job.node; fold = tree_job.job.fold }

-- a program with its shapes, its jobs, its areas and its costs
pub record Checking : Type 0 where
  pub pools : Pools
  pub shapes : List (List ℕ)
  pub statement_shapes : List (List ℕ)
  pub jobs : List Job
  pub areas : List Area
  pub size : ℕ
  pub work : ℕ

-- The program is accepted, and the other parts are those of the definitions
pub record IsChecked (c : Checking) : Type 0 where
  pub accepted : IsOk (verdict_of (items_in c.pools))
  pub each : length c.shapes ≡ length c.pools.nodes
  pub shapes_of_nodes : shapes_at c.shapes (walk c.pools) ≡ node_shapes (items_in c.pools)
  pub shapes_of_statements : c.statement_shapes ≡ statement_shapes (items_in c.pools)
  pub jobs_in_order : c.jobs ≡ map (pooled (walk c.pools)) (jobs (items_in c.pools))
  pub laid_out : c.areas ≡ areas (items_in c.pools)
  pub sized : c.size ≡ size (items_in c.pools)
  pub worked : c.work ≡ work (items_in c.pools)

-- what is answered on a program that is refused: what its verdict is, at the position of its place
pub record IsRefusedSo (pools : Pools) (error : CheckError) : Type 0 where
  pub failure : Failure
  pub refused : verdict_of (items_in pools) ≡ Err failure
  pub answered : error ≡ error_in pools (walk pools) failure

-- an error says how the program is refused; want of memory says nothing
abbrev pub Explains : Pools → CheckError → Type 0
Explains pools (error.Rule at rule) = IsRefusedSo pools (error.Rule at rule)
Explains pools (error.Limit at which value) = IsRefusedSo pools (error.Limit at which value)
Explains pools error.Memory = ⊤

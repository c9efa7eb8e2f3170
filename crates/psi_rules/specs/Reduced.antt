-- What a job is among the statements of its program, and what its reduction gives. This project's own.
use Rattle.std.specs.Prelude.{◌≡◌, ℕ, map, slice_get, Some}
use Rattle.moa_tree.specs.declared.tree.Job.{Job}
use Rattle.shape_check.specs.Jobs.{TreeJob, jobs}
use Rattle.shape_check.specs.Judged.{items_in, node_tree}
use Rattle.shape_check.specs.Kept.{Checking}
use Rattle.normal_form.specs.Kept.{Parts, form_in}
use Rattle.psi_rules.specs.Jobs.{forms}
use Rattle.psi_rules.specs.Scopes.{Owned, first_scan, job_shapes, names_at, owned}
use Rattle.psi_rules.specs.Tables.{HasShapes, Tables, owner_at, scan_at}

-- the parts of a reduced job: the job of this number, the expression at its node, the shape of its array, the box of all its index vectors, and
-- the form that the index rules give
pub record IsReduced (checking : Checking) (number : ℕ) (parts : Parts) : Type 0 where
  pub job : slice_get checking.jobs number ≡ Some parts.job
  pub node : slice_get (map (λ tree_job. tree_job.of) (jobs (items_in checking.pools))) number ≡ Some (node_tree checking.pools parts.job.node)
  pub shape : slice_get (job_shapes (items_in checking.pools)) number ≡ Some parts.shape
  pub whole : parts.region ≡ map (λ n. (0, n)) parts.shape
  pub form : slice_get (forms (items_in checking.pools)) number ≡ Some (form_in parts.terms)

-- a job of the pools is a job of the tree and has a task: its statement, the area of the first scan in what it gives, and its expression, each
-- node of which has its shape
pub record JobFacts (checking : Checking) (tables : Tables) (number : ℕ) (job : Job) : Type 0 where
  pub tree_job : TreeJob
  pub listed : slice_get (jobs (items_in checking.pools)) number ≡ Some tree_job
  pub area : job.area ≡ tree_job.job.area
  pub fold : job.fold ≡ tree_job.job.fold
  pub owner : Owned
  pub owned_here : slice_get (owned (items_in checking.pools)) number ≡ Some owner
  pub statement : owner_at tables number ≡ owner.statement
  pub scan : first_scan (scan_at tables (owner_at tables number)) job.area job.fold ≡ owner.task.1
  pub tree : node_tree checking.pools job.node ≡ owner.task.0
  pub shaped : HasShapes checking (names_at (items_in checking.pools) (owner_at tables number)) job.node

-- What becomes of a surveyed program by the limits of the whole program. This project's own.
use Rattle.std.specs.Prelude.{◌≡◌, ◌<◌, ◌^◌, ℕ, List, None}
use Rattle.shapes_core.specs.Limits.{most_words}
use Rattle.shapes_core.specs.declared.area.Area.{Area}
use Rattle.moa_tree.specs.Pools.{Pools}
use Rattle.shape_check.specs.Blocks.{array_words}
use Rattle.shape_check.specs.Judged.{capped}
use Rattle.shape_check.specs.Kept.{Checking}
use Rattle.shape_check.specs.Layout.{Array}
use Rattle.shape_check.specs.declared.error.CheckError.{CheckError}
use Rattle.shape_check.specs.declared.error.CheckError.TheVariants as error
use Rattle.shape_check.specs.declared.progress.Progress.{Progress}

-- a surveyed program with the layout of its block
abbrev pub checking_of : Pools → Progress → List Area → Checking
checking_of pools progress layout = record {
  pools = pools;
  shapes = progress.shapes.items;
  statement_shapes = progress.statement_shapes.items;
  jobs = progress.jobs.items;
  areas = layout;
  size = progress.totals.size;
  work = progress.totals.work;
}

-- why there is no layout of arrays: they have more words than a block may, or memory was wanted
pub data IsBlockRefused (all : List Array) : CheckError → Type 0 where
  too_many : {value : ℕ} → value ≡ capped (array_words all) → most_words < value → value < 2 ^ 64 → IsBlockRefused all (error.Limit None 7 value)
  no_memory : IsBlockRefused all error.Memory

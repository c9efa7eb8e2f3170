-- The small pools as a checked program, for the worked examples. This project's own.
use Rattle.std.specs.Prelude.{None, [], ◌∷◌, codes}
use Rattle.shapes_core.specs.declared.area.AreaKind.TheVariants as area
use Rattle.moa_tree.specs.PoolExamples.{small}
use Rattle.shape_check.specs.Kept.{Checking}

abbrev pub small_checked : Checking
small_checked = record {
  pools = small;
  shapes = (2 ∷ []) ∷ (1 ∷ []) ∷ [];
  statement_shapes = (2 ∷ []) ∷ (1 ∷ []) ∷ [];
  jobs = record { area = 1; node = 1; fold = None } ∷ [];
  areas = record { kind = area.In (codes "A"); shape = 2 ∷ []; start = 0 } ∷ record { kind = area.Out (codes "C"); shape = 1 ∷ []; start = 2 } ∷ [];
  size = 4;
  work = 6;
}

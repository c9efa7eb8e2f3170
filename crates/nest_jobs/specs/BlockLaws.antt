-- What is known of the block of a program: how its areas stand, with their shapes and their lists, and which shapes names, arrays and jobs
-- have. This project's own.
use Rattle.std.specs.Prelude.{◌≡◌, ◌+◌, List, [], ◌∷◌, length, map}
use Rattle.std.specs.List.{flat_map, fold}
use Rattle.moa_tree.specs.Denotation.{Store as Lists, denote_from, denote_scans_from, env_after_all}
use Rattle.moa_tree.specs.Expr.{Item}
use Rattle.moa_tree.specs.Values.{Env, shapes_of as env_shapes}
use Rattle.shape_check.specs.Layout.{areas, gathered, scan_shapes, shapes_after}
use Rattle.psi_rules.specs.Areas.{area_lists, given, input_list}
use Rattle.psi_rules.specs.Blocks.{StandInOrder, input_shapes, lists_of, output_shapes}
use Rattle.psi_rules.specs.Jobs.{Next, first, named}
use Rattle.psi_rules.specs.Rules.{Names, shapes_of}
use Rattle.psi_rules.specs.Scopes.{job_shapes}

pub record BlockLaws : Type 0 where
  pub areas_shaped : (items : List Item) → StandInOrder (map (λ area. area.shape) (areas items)) (first items)
      (gathered input_shapes [] items) (gathered output_shapes [] items) (gathered scan_shapes [] items)
  pub areas_listed : (inputs : Lists) (items : List Item) → StandInOrder (area_lists inputs items) (first items)
      (flat_map (input_list inputs) items) (lists_of (denote_from inputs [] items)) (denote_scans_from inputs [] items)
  pub inputs_counted : (inputs : Lists) (items : List Item) → length (flat_map (input_list inputs) items) ≡ (first items).output
  pub areas_counted : (items : List Item) → length (areas items) ≡ (first items).scan + length (gathered scan_shapes [] items)
  pub names_shaped : (names : Names) (next : Next) (item : Item)
      → shapes_of (named names next item ∷ names) ≡ shapes_after (shapes_of names) item
  pub arrays_shaped : (inputs : Lists) (env : Env) (items : List Item)
      → env_shapes (env_after_all inputs env items) ≡ fold shapes_after (env_shapes env) items
  pub jobs_shaped : (inputs : Lists) (items : List Item) → map (λ array. array.shape) (given inputs items) ≡ job_shapes items

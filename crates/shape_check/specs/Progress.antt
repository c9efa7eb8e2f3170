-- How far the check of a program has come: what was found of the statements so far, and that what is left gives the rest. This project's own.
use Rattle.std.specs.Prelude.{◌≡◌, ℕ, suc, ◌+◌, ◌*◌, ◌≤◌, ◌⊎◌, true, false, List, [], ◌∷◌, ◌++◌, drop, length, map, take, None, Some, Err, Ok, Result, MatchResult, ⊤}
use Rattle.std.specs.List.{flat_map, sum_by}
use Rattle.shapes_core.specs.Limits.{most_items}
use Rattle.shapes_core.specs.Shape.{total}
use Rattle.shapes_core.specs.declared.area.AreaKind.TheVariants as area
use Rattle.text_tokens.specs.declared.token.Position.{Position}
use Rattle.moa_tree.specs.Expr.{Item}
use Rattle.moa_tree.specs.Pool.{item_of, trees, walk_of}
use Rattle.moa_tree.specs.Pools.{Pools, nodes_of, walk}
use Rattle.shape_check.specs.Judged.{items_in}
use Rattle.moa_tree.specs.ShapeOf.{Shapes, shape_of}
use Rattle.moa_tree.specs.Subexpressions.{subexpressions_of}
use Rattle.shape_check.specs.declared.broken.Broken.{Broken}
use Rattle.shape_check.specs.declared.broken.Broken.TheVariants as broken
use Rattle.shape_check.specs.declared.error.CheckError.{CheckError}
use Rattle.shape_check.specs.declared.error.CheckError.TheVariants as error
use Rattle.shape_check.specs.declared.inventory.Inventory.{Inventory}
use Rattle.shape_check.specs.declared.known.Known.{Known}
use Rattle.shape_check.specs.declared.progress.Progress.{Progress}
use Rattle.shape_check.specs.Costs.{Prices, job_size, job_work, prices_after, shapes_of, size, stored, sum_over, work}
use Rattle.shape_check.specs.Jobs.{jobs, jobs_from, jobs_of}
use Rattle.shape_check.specs.Judged.{AreNames, FailsSo, IsAccepted, StandsFor, capped, error_in}
use Rattle.shape_check.specs.Kept.{pooled, shapes_at}
use Rattle.shape_check.specs.Layout.{arrays, gathered, input_of, node_shapes, numbered, output_of, scan_shapes, shape_of_item, statement_shapes}
use Rattle.shape_check.specs.Rules.{Failure, Place, is_declared}
use Rattle.shape_check.specs.Scans.{IsWith}
use Rattle.shape_check.specs.Statements.{verdict_from, verdict_on}

-- the statements that are left after so many, and the nodes of those before them in prefix order
abbrev pub left_of : Pools → ℕ → List Item
left_of pools count = map (item_of pools.numbers (trees pools.numbers pools.nodes)) (drop count pools.statements)

abbrev pub walked : Pools → ℕ → List ℕ
walked pools count = flat_map (walk_of pools.nodes) (flat_map nodes_of (take count pools.statements))

-- the shape of each node, and of the statement itself
abbrev pub nodes_shapes : Shapes → Item → List (List ℕ)
nodes_shapes shapes item = map (shape_of shapes) (subexpressions_of item)

abbrev pub own_shape : Shapes → Item → List (List ℕ)
own_shape shapes item = shape_of_item shapes item ∷ []

-- the areas of the next output and the next scan
abbrev pub next_output : Inventory → Progress → ℕ
next_output inventory progress = inventory.inputs + length progress.outputs.items

abbrev pub next_scan : Inventory → Progress → ℕ
next_scan inventory progress = inventory.inputs + inventory.outputs + length progress.scans.items

-- What is found so far, with what the statements that are left add to it, is what the program has.
pub record IsReached (pools : Pools) (inventory : Inventory) (count : ℕ) (progress : Progress) (prices : Prices) : Type 0 where
  pub names : AreNames progress.names prices
  pub sized : length progress.shapes.items ≡ length pools.nodes
  pub few_outputs : length progress.outputs.items ≤ count
  pub few_scans : length progress.scans.items ≤ length (walked pools count)
  pub verdict : verdict_from [] 0 0 (items_in pools) ≡ verdict_from (shapes_of prices) count (length (walked pools count)) (left_of pools count)
  pub nodes : shapes_at progress.shapes.items (walked pools count) ++ gathered nodes_shapes (shapes_of prices) (left_of pools count) ≡ node_shapes (items_in pools)
  pub statements : progress.statement_shapes.items ++ gathered own_shape (shapes_of prices) (left_of pools count) ≡ statement_shapes (items_in pools)
  pub jobs : progress.jobs.items
      ++ map (pooled (walk pools)) (jobs_from (next_output inventory progress) (next_scan inventory progress) (length (walked pools count)) (left_of pools count))
      ≡ map (pooled (walk pools)) (jobs_from inventory.inputs (inventory.inputs + inventory.outputs) 0 (items_in pools))
  pub inputs : progress.inputs.items ++ gathered input_of (shapes_of prices) (left_of pools count) ≡ gathered input_of [] (items_in pools)
  pub outputs : progress.outputs.items ++ gathered output_of (shapes_of prices) (left_of pools count) ≡ gathered output_of [] (items_in pools)
  pub scans : progress.scans.items ++ numbered (length progress.scans.items) (gathered scan_shapes (shapes_of prices) (left_of pools count))
      ≡ numbered 0 (gathered scan_shapes [] (items_in pools))
  pub size : capped (progress.totals.size + sum_over job_size prices (left_of pools count)) ≡ capped (size (items_in pools))
  pub work : capped (progress.totals.work + sum_over job_work prices (left_of pools count)) ≡ capped (work (items_in pools))

-- some prices are those of the statements so far
abbrev pub Reached : Pools → Inventory → ℕ → Progress → Type 0
Reached pools inventory count progress = (prices : Prices) × IsReached pools inventory count progress prices

-- what a statement adds
pub record Adds (pools : Pools) (inventory : Inventory) (prices : Prices) (count : ℕ) (item : Item) (old new : Progress) : Type 0 where
  pub accepted : verdict_on (shapes_of prices) count (length (walked pools count)) item ≡ Ok (shape_of_item (shapes_of prices) item)
  pub names : AreNames new.names (prices_after prices item)
  pub sized : length new.shapes.items ≡ length old.shapes.items
  pub nodes : shapes_at new.shapes.items (walked pools (suc count)) ≡ shapes_at old.shapes.items (walked pools count) ++ nodes_shapes (shapes_of prices) item
  pub statement : new.statement_shapes.items ≡ old.statement_shapes.items ++ own_shape (shapes_of prices) item
  pub jobs : new.jobs.items ≡ old.jobs.items
      ++ map (pooled (walk pools)) (jobs_of (next_output inventory old) (next_scan inventory old) (length (walked pools count)) item)
  pub inputs : new.inputs.items ≡ old.inputs.items ++ input_of (shapes_of prices) item
  pub outputs : new.outputs.items ≡ old.outputs.items ++ output_of (shapes_of prices) item
  pub scans : new.scans.items ≡ old.scans.items ++ numbered (length old.scans.items) (scan_shapes (shapes_of prices) item)
  pub size : (more : ℕ) → capped (new.totals.size + more) ≡ capped (old.totals.size + (sum_by (job_size prices) (jobs_of 0 0 0 item) + more))
  pub work : (more : ℕ) → capped (new.totals.work + more) ≡ capped (old.totals.work + (sum_by (job_work prices) (jobs_of 0 0 0 item) + more))

-- what is answered for a rule or a limit that is broken at a position, and the failure at the name of a statement
abbrev pub answered : Position → Broken → CheckError
answered at (broken.Rule rule) = error.Rule at rule
answered at (broken.Limit which value) = error.Limit (Some at) which value

abbrev pub failure_of : ℕ → Broken → Failure
failure_of statement (broken.Rule rule) = Failure.Rule (Place.Name statement) rule
failure_of statement (broken.Limit which value) = Failure.Limit (Some (Place.Name statement)) which value

abbrev pub named_verdict : {A : Type 0} → ℕ → Result A Broken → Result A Failure
named_verdict statement (Ok made) = Ok made
named_verdict statement (Err found) = Err (failure_of statement found)

-- a statement fails so; want of memory says nothing of it
abbrev pub FailsAt : Pools → Prices → ℕ → Item → CheckError → Type 0
FailsAt pools prices count item error =
    (failure : Failure) × (verdict_on (shapes_of prices) count (length (walked pools count)) item ≡ Err failure) × (error ≡ error_in pools (walk pools) failure)

abbrev pub Fails : Pools → Prices → ℕ → Item → CheckError → Type 0
Fails pools prices count item (error.Rule at rule) = FailsAt pools prices count item (error.Rule at rule)
Fails pools prices count item (error.Limit at which value) = FailsAt pools prices count item (error.Limit at which value)
Fails pools prices count item error.Memory = ⊤

-- the name of a statement is new and its expression accepted, or one of both fails
abbrev pub IsAnswered : Pools → Prices → List ℕ → Position → ℕ → Result Known CheckError → Type 0
IsAnswered pools prices name at number result =
    MatchResult result
    (λ known. (is_declared (shapes_of prices) name ≡ false) × IsAccepted pools prices number known)
    (λ wrong.
    ((is_declared (shapes_of prices) name ≡ true) × (wrong ≡ error.Rule at 1))
    ⊎ ((is_declared (shapes_of prices) name ≡ false) × FailsSo pools prices number wrong))

-- what the scans of an expression leave as it was
pub record KeepsOthers (old new : Progress) : Type 0 where
  pub names : new.names ≡ old.names
  pub shapes : new.shapes.items ≡ old.shapes.items
  pub statement_shapes : new.statement_shapes.items ≡ old.statement_shapes.items
  pub inputs : new.inputs.items ≡ old.inputs.items
  pub outputs : new.outputs.items ≡ old.outputs.items

-- an output is added, with the job that stores it
pub record AddsOutput (inventory : Inventory) (name : List ℕ) (number : ℕ) (known : Known) (old new : Progress) : Type 0 where
  pub names : (kept : Known) × StandsFor kept (stored known.shape) × (new.names ≡ old.names ++ (name, kept) ∷ [])
  pub shapes : new.shapes.items ≡ old.shapes.items
  pub statement_shapes : new.statement_shapes.items ≡ old.statement_shapes.items ++ known.shape ∷ []
  pub jobs : new.jobs.items ≡ old.jobs.items ++ record { area = inventory.inputs + length old.outputs.items; node = number; fold = None } ∷ []
  pub inputs : new.inputs.items ≡ old.inputs.items
  pub outputs : new.outputs.items ≡ old.outputs.items ++ (area.Out name, known.shape) ∷ []
  pub scans : new.scans.items ≡ old.scans.items
  pub totals : (exact_nodes exact_work : ℕ) → known.nodes ≡ capped exact_nodes → known.work ≡ capped exact_work
      → IsWith (2 + (0 + exact_nodes)) ((1 + total known.shape) * (1 + (0 + exact_work))) old.totals new.totals

-- All of a program is found: its verdict rests on its limits, which its totals tell
pub record Surveyed (pools : Pools) (progress : Progress) : Type 0 where
  pub shapes : Shapes
  pub verdict : verdict_from [] 0 0 (items_in pools) ≡ Ok shapes
  pub sized : length progress.shapes.items ≡ length pools.nodes
  pub nodes : shapes_at progress.shapes.items (walk pools) ≡ node_shapes (items_in pools)
  pub statements : progress.statement_shapes.items ≡ statement_shapes (items_in pools)
  pub jobs_in_order : progress.jobs.items ≡ map (pooled (walk pools)) (jobs (items_in pools))
  pub few : length (arrays (items_in pools)) ≤ most_items
  pub arrays : progress.inputs.items ++ progress.outputs.items ++ progress.scans.items ≡ arrays (items_in pools)
  pub size : capped progress.totals.size ≡ capped (size (items_in pools))
  pub work : capped progress.totals.work ≡ capped (work (items_in pools))

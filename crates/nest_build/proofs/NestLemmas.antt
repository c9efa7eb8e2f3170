-- The whole of a nest, from what the code makes of its parts.
use Rattle.std.specs.Prelude.{◌≡◌, ℕ, ◌+◌, ℤ, List, [], ◌∷◌, ◌++◌, length, map}
use Rattle.std.proofs.Common.{refl, ap, sym, ◌∙◌, subst}
use Rattle.shapes_core.specs.declared.area.Area.{Area}
use Rattle.stride_form.specs.Operational.{Operational}
use Rattle.loop_ir.specs.declared.step.Step.{Step}
use Rattle.loop_ir.specs.Pool.{tree_at, trees}
use Rattle.loop_ir.specs.Steps.{Action, Place, Steps, Write, joined}
use Rattle.nest_build.specs.Coding.{plain}
use Rattle.nest_build.specs.Nests.{Spot as ASpot, all_loops, listed, made_of, nest_of, own_access, sets_from, spots_from}
use Rattle.nest_build.specs.Parts.{Loop, accesses, literals, loops_from, low_of, values_of}
use Rattle.nest_build.specs.Standing.{Stands, tree_in}
use Rattle.nest_build.proofs.StandLemmas.{led-by, plain-tree}

-- one turn of all loops
abbrev pub turn_of : List (ℕ × ℕ) → ℕ → Operational → List Loop → ℕ → ℕ → ℕ → List Action
turn_of region own form loops literal free place =
    let made = made_of loops (low_of region) free literal place form in
    made.steps ++ Write own (place + length (accesses form)) made.value ∷ []

-- a nest of these parts
abbrev nest_with : List (ℕ × ℕ) → ℕ → Operational → List Loop → List ℤ → ℕ → ℕ → ℕ → List ASpot → Steps
nest_with region own form loops values literal free place spots =
    joined (listed (sets_from literal values))
    (joined (listed (map (λ spot. Place spot.place spot.word) spots))
    (all_loops spots loops (listed (turn_of region own form loops literal free place))))

module _ (areas : List Area) (own : ℕ) (shape : List ℕ) (region : List (ℕ × ℕ)) (form : Operational) where
  same-nest : (loops : List Loop) (values : List ℤ) (literal free place : ℕ) (spots : List ASpot)
      → spots ≡ spots_from areas region place (accesses form ++ own_access own shape ∷ []) → place ≡ free + values_of form
      → free ≡ literal + length values → literal ≡ length loops → values ≡ literals form → loops ≡ loops_from 0 0 region
      → nest_with region own form loops values literal free place spots ≡ nest_of areas own shape region form
  same-nest loops values literal free place spots es ep ef el ev eo = rw (es, ep, ef, el, ev, eo) refl

  pub all-stands : (loops : List Loop) (values : List ℤ) (literal free place : ℕ) (spots : List ASpot)
      → spots ≡ spots_from areas region place (accesses form ++ own_access own shape ∷ []) → place ≡ free + values_of form
      → free ≡ literal + length values → literal ≡ length loops → values ≡ literals form → loops ≡ loops_from 0 0 region
      → (before lists : List (List Step)) (body around steps : List Step)
      → body ≡ plain (turn_of region own form loops literal free place)
      → Stands lists around (all_loops spots loops (tree_in before body))
      → steps ≡ plain (sets_from literal values) ++ (plain (map (λ spot. Place spot.place spot.word) spots) ++ around)
      → Stands lists steps (nest_of areas own shape region form)
  all-stands loops values literal free place spots es ep ef el ev eo before lists body around steps made looped whole =
      let turn = turn_of region own form loops literal free place in
      let tree : tree_in before body ≡ listed turn = ap (tree_in before) made ∙ plain-tree (tree_at (trees before)) turn in
      let inside : Stands lists around (all_loops spots loops (listed turn)) =
      subst (λ t. Stands lists around (all_loops spots loops t)) tree looped in
      let placed = led-by lists (map (λ spot. Place spot.place spot.word) spots) around (all_loops spots loops (listed turn)) inside in
      subst (Stands lists steps) (same-nest loops values literal free place spots es ep ef el ev eo)
      (subst (λ l. Stands lists l (nest_with region own form loops values literal free place spots)) (sym whole)
      (led-by lists (sets_from literal values) (plain (map (λ spot. Place spot.place spot.word) spots) ++ around) _ placed))

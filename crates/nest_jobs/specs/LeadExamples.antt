-- Programs as they stand in a text, with what their nests do, computed. This project's own.
use Rattle.std.specs.Prelude.{ℕ, Bool, ℤ, pos, List, [], ◌∷◌, map}
use Rattle.std.specs.List.{flat_map, list_all}
use Rattle.moa_tree.specs.Subexpressions.{subexpressions_of}
use Rattle.shape_check.specs.Examples.{statements}
use Rattle.shape_check.specs.Layout.{areas}
use Rattle.psi_rules.specs.Areas.{given}
use Rattle.psi_rules.specs.Jobs.{forms}
use Rattle.loop_ir.specs.NestExamples.{fresh}
use Rattle.loop_ir.specs.Running.{State, run_all}
use Rattle.nest_jobs.specs.Leads.{area_values, nests}
use Rattle.nest_jobs.specs.Plain.{is_plain}
use Rattle.nest_jobs.specs.Sizes.{form_sizes, form_works}
use Prim.Native.String.{String}

-- whether each expression of a text is plain
abbrev pub plain_in : String → Bool
plain_in text = list_all is_plain (flat_map subexpressions_of (statements text))

-- the sizes of its forms, and their works
abbrev pub sizes_in : String → ℕ × ℕ
sizes_in text = (form_sizes (forms (statements text)), form_works (forms (statements text)) (given [] (statements text)))

-- the state to which the nests of a text lead from these words, where all registers and places hold something else
abbrev pub state_after : String → List ℤ → State
state_after text words = run_all (nests (statements text)) (fresh words)

-- what each area holds then
abbrev pub areas_after : String → List ℤ → List (List ℤ)
areas_after text words = map (area_values (state_after text words).words) (areas (statements text))

-- a name for an expression, used twice, and an output that is used
abbrev pub squares : String
squares = "in A 3 let b = sub A 1 out C = mul b b out D = add C reverse A"

abbrev pub squares_words : List ℤ
squares_words = pos 4 ∷ pos 5 ∷ pos 6 ∷ pos 0 ∷ pos 0 ∷ pos 0 ∷ pos 0 ∷ pos 0 ∷ pos 0 ∷ []

-- an output without an element, which has no nest, between others
abbrev pub empty_between : String
empty_between = "in A 2 out C = neg A in B 0 out D = neg B out E = transpose outer sub A abs C"

abbrev pub empty_words : List ℤ
empty_words = pos 1 ∷ pos 5 ∷ pos 7 ∷ pos 7 ∷ pos 7 ∷ pos 7 ∷ pos 7 ∷ pos 7 ∷ []

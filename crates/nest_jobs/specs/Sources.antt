-- What forms take from the source of a program, operators and numbers; and the nests of its jobs, each with its form. This project's own.
use Rattle.std.specs.Prelude.{◌≡◌, ℕ, Bool, true, ◌&&◌, ℤ, List, [], ◌∷◌, map, ⊤}
use Rattle.std.specs.List.{AllByRecursion, flat_map}
use Rattle.std.specs.declared.option.Option.{Option}
use Rattle.std.specs.declared.option.Option.TheVariants.{None, Some}
use Rattle.shapes_core.specs.declared.area.Area.{Area}
use Rattle.moa_tree.specs.declared.operator.Op.{Op}
use Rattle.moa_tree.specs.Expr.{Expr, Number, Two, Outer, Item}
use Rattle.moa_tree.specs.Subexpressions.{subexpressions_of}
use Rattle.normal_form.specs.Forms.{Lit, Un, Bin, Case, Fold, Let, Normal}
use Rattle.psi_rules.specs.Areas.{Given}
use Rattle.stride_form.specs.Operational.{Operational, operational}
use Rattle.loop_ir.specs.Steps.{Steps, End}
use Rattle.nest_build.specs.Gives.{IsBuildable}
use Rattle.nest_build.specs.Nests.{nest_of}

-- ---- operators and numbers

-- the operator on elements at the top of an expression passes a test, or its number another one, where it has one
abbrev pub passes : (Op → Bool) → (ℤ → Bool) → Expr → Bool
passes op_test number_test (Number value) = number_test value
passes op_test number_test (Two op left right) = op_test op
passes op_test number_test (Outer op left right) = op_test op
passes op_test number_test _ = true

-- so do all expressions that stand in these statements
abbrev pub EachPasses : (Op → Bool) → (ℤ → Bool) → List Item → Type 0
EachPasses op_test number_test items = AllByRecursion (λ expr. passes op_test number_test expr ≡ true) (flat_map subexpressions_of items)

-- and all operators and literals of a form
abbrev pub form_passes : (Op → Bool) → (ℤ → Bool) → Operational → Bool
form_passes op_test number_test (Lit value) = number_test value
form_passes op_test number_test (Un op of) = form_passes op_test number_test of
form_passes op_test number_test (Bin op left right) =
    op_test op && (form_passes op_test number_test left && form_passes op_test number_test right)
form_passes op_test number_test (Case entry below first second) =
    form_passes op_test number_test first && form_passes op_test number_test second
form_passes op_test number_test (Fold op var low high of) = op_test op && form_passes op_test number_test of
form_passes op_test number_test (Let var bind of) = form_passes op_test number_test of
form_passes op_test number_test _ = true

-- ---- nests with their forms

-- the nest of a form that can be built, on the whole of an array of this shape; and no step where there is no form
abbrev pub IsNestOf : List Area → Option Normal → List ℕ → Steps → Type 0
IsNestOf areas None shape nest = nest ≡ End
IsNestOf areas (Some form) shape nest =
    (own : ℕ) × (nest ≡ nest_of areas own shape (map (λ n. (0, n)) shape) (operational form))
    × IsBuildable areas own shape (map (λ n. (0, n)) shape) (operational form)

-- the nests of these forms and arrays, in order
abbrev pub AreNestsOf : List Area → List (Option Normal) → List Given → List Steps → Type 0
AreNestsOf areas [] [] [] = ⊤
AreNestsOf areas (form ∷ forms) (array ∷ arrays) (nest ∷ nests) =
    IsNestOf areas form array.shape nest × AreNestsOf areas forms arrays nests
AreNestsOf areas _ _ _ = ⊥

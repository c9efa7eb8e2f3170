-- A state, nests and areas that examples compute on. This project's own.
use Rattle.std.specs.Prelude.{ℕ, ◌*◌, ℤ, pos, negsuc, List, [], ◌∷◌, codes, unsigned_abs}
use Rattle.moa_tree.specs.declared.operator.Op.TheVariants.{Add, Mul}
use Rattle.shapes_core.specs.declared.area.Area.{Area}
use Rattle.shapes_core.specs.declared.area.AreaKind.TheVariants.{In, Out}
use Rattle.loop_ir.specs.Costs.{Prices}
use Rattle.loop_ir.specs.Running.{Key, Register, Pointer, ReadsWord, State}
use Rattle.loop_ir.specs.Steps.{Set, Two, Place, Walk, Read, Write, Steps, End, Then, For}
use Rattle.loop_ir.specs.declared.step.Step.{Step}
use Rattle.loop_ir.specs.declared.step.Step.TheVariants as step

-- register n holds 10 * n, and place n holds n
abbrev pub numbered_key : Key → ℤ
numbered_key (Register number) = pos (10 * number)
numbered_key (Pointer number) = pos number

-- over three words, after one access
abbrev pub numbered : State
numbered = record {
  held = numbered_key;
  words = pos 5 ∷ pos 6 ∷ pos 7 ∷ [];
  trace = ReadsWord 0 (pos 0) ∷ [];
}

-- all registers and places hold 99, over these words, before any access
abbrev pub fresh : List ℤ → State
fresh words = record { held = λ key. pos 99; words = words; trace = [] }

-- ---- the sum of two vectors of three elements

abbrev pub vector_areas : List Area
vector_areas =
    record { kind = In (codes "A"); shape = 3 ∷ []; start = 0 }
    ∷ record { kind = In (codes "B"); shape = 3 ∷ []; start = 3 }
    ∷ record { kind = Out (codes "C"); shape = 3 ∷ []; start = 6 }
    ∷ []

abbrev pub sum_nest : List (List Step)
sum_nest =
    (step.Place 3 (pos 0) ∷ step.Place 4 (pos 3) ∷ step.Place 5 (pos 6) ∷ step.For 0 3 1 ∷ [])
    ∷ (
    step.Read 1 0 3 ∷ step.Read 2 1 4 ∷ step.Two Add 1 1 2 ∷ step.Write 2 5 1
    ∷ step.Walk 3 (pos 1) ∷ step.Walk 4 (pos 1) ∷ step.Walk 5 (pos 1) ∷ []
    )
    ∷ []

abbrev pub sum_body : Steps
sum_body =
    Then (Read 1 0 3) (Then (Read 2 1 4) (Then (Two Add 1 1 2) (Then (Write 2 5 1)
    (Then (Walk 3 (pos 1)) (Then (Walk 4 (pos 1)) (Then (Walk 5 (pos 1)) End))))))

abbrev pub sum_tree : Steps
sum_tree = Then (Place 3 (pos 0)) (Then (Place 4 (pos 3)) (Then (Place 5 (pos 6)) (For 0 3 sum_body End)))

abbrev pub sum_start : State
sum_start = fresh (pos 1 ∷ pos 2 ∷ pos 3 ∷ pos 10 ∷ pos 20 ∷ pos 30 ∷ pos 0 ∷ pos 0 ∷ pos 0 ∷ [])

-- ---- the product of two matrices of 2 by 2, with A at 0, B at 4 and C at 8

abbrev pub matrix_areas : List Area
matrix_areas =
    record { kind = In (codes "A"); shape = 2 ∷ 2 ∷ []; start = 0 }
    ∷ record { kind = In (codes "B"); shape = 2 ∷ 2 ∷ []; start = 4 }
    ∷ record { kind = Out (codes "C"); shape = 2 ∷ 2 ∷ []; start = 8 }
    ∷ []

-- the steps of its lists, each over the number of the list that it names

abbrev pub product_whole : ℕ → List Step
product_whole rows = step.Place 6 (pos 0) ∷ step.Place 7 (pos 4) ∷ step.Place 8 (pos 8) ∷ step.For 0 2 rows ∷ []

abbrev pub product_row : ℕ → List Step
product_row columns =
    step.For 1 2 columns ∷ step.Walk 7 (negsuc 1) ∷ step.Walk 8 (negsuc 1) ∷ step.Walk 6 (pos 2) ∷ step.Walk 8 (pos 2) ∷ []

abbrev pub product_element : ℕ → List Step
product_element terms =
    step.Set 2 (pos 0) ∷ step.For 3 2 terms ∷ step.Walk 6 (negsuc 1) ∷ step.Walk 7 (negsuc 3)
    ∷ step.Write 2 8 2 ∷ step.Walk 7 (pos 1) ∷ step.Walk 8 (pos 1) ∷ []

abbrev pub product_term : List Step
product_term =
    step.Read 4 0 6 ∷ step.Read 5 1 7 ∷ step.Two Mul 4 4 5 ∷ step.Two Add 2 2 4 ∷ step.Walk 6 (pos 1) ∷ step.Walk 7 (pos 2) ∷ []

abbrev pub product_nest : List (List Step)
product_nest = product_whole 1 ∷ product_row 2 ∷ product_element 3 ∷ product_term ∷ []

-- the same lists in the order in which they are made
abbrev pub product_making : List (List Step)
product_making = product_term ∷ product_element 0 ∷ product_row 1 ∷ product_whole 2 ∷ []

abbrev pub term_tree : Steps
term_tree =
    Then (Read 4 0 6) (Then (Read 5 1 7) (Then (Two Mul 4 4 5) (Then (Two Add 2 2 4)
    (Then (Walk 6 (pos 1)) (Then (Walk 7 (pos 2)) End)))))

abbrev pub element_tree : Steps
element_tree =
    Then (Set 2 (pos 0)) (For 3 2 term_tree (Then (Walk 6 (negsuc 1)) (Then (Walk 7 (negsuc 3))
    (Then (Write 2 8 2) (Then (Walk 7 (pos 1)) (Then (Walk 8 (pos 1)) End))))))

abbrev pub row_tree : Steps
row_tree =
    For 1 2 element_tree (Then (Walk 7 (negsuc 1)) (Then (Walk 8 (negsuc 1)) (Then (Walk 6 (pos 2)) (Then (Walk 8 (pos 2)) End))))

abbrev pub product_tree : Steps
product_tree = Then (Place 6 (pos 0)) (Then (Place 7 (pos 4)) (Then (Place 8 (pos 8)) (For 0 2 row_tree End)))

abbrev pub product_start : State
product_start =
    fresh (pos 1 ∷ pos 2 ∷ pos 3 ∷ pos 4 ∷ pos 5 ∷ pos 6 ∷ pos 7 ∷ pos 8 ∷ pos 0 ∷ pos 0 ∷ pos 0 ∷ pos 0 ∷ [])

-- the registers and places that it names
abbrev pub product_keys : List Key
product_keys =
    Register 0 ∷ Register 1 ∷ Register 2 ∷ Register 3 ∷ Register 4 ∷ Register 5 ∷ Pointer 6 ∷ Pointer 7 ∷ Pointer 8 ∷ []

-- ---- prices

-- each number takes a line, and each register and place lies in a machine register
abbrev pub near : Prices
near = record { lines = λ value. 1; width = λ key. 0 }

-- each number takes a line, and each register and place lies in a near spill word
abbrev pub spilled : Prices
spilled = record { lines = λ value. 1; width = λ key. 1 }

-- a number takes as many lines as it is far from 0, register n is n wide, and place n is 100 * n wide
abbrev pub weighed_key : Key → ℕ
weighed_key (Register number) = number
weighed_key (Pointer number) = 100 * number

abbrev pub weighed : Prices
weighed = record { lines = unsigned_abs; width = weighed_key }

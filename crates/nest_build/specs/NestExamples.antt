-- Areas, forms, words and nests that examples compute on. This project's own.
use Rattle.std.specs.Prelude.{ℕ, ℤ, pos, negsuc, List, [], ◌∷◌, ◌++◌, codes, map}
use Rattle.std.specs.List.{range_with_len, repeat}
use Rattle.shapes_core.specs.declared.area.Area.{Area}
use Rattle.shapes_core.specs.declared.area.AreaKind.TheVariants.{In, Out}
use Rattle.moa_tree.specs.declared.operator.Op.TheVariants.{Add, Mul, Sub}
use Rattle.moa_tree.specs.declared.operator.Unary.TheVariants.{Neg}
use Rattle.normal_form.specs.declared.entry.Entry.TheVariants.{Minus}
use Rattle.normal_form.specs.declared.term.Bind.TheVariants.{Turn}
use Rattle.normal_form.specs.Forms.{Lit, Index, Get, Un, Bin, Case, Fold, Let}
use Rattle.normal_form.specs.Moves.{variable}
use Rattle.stride_form.specs.Operational.{Operational}
use Rattle.loop_ir.specs.Steps.{Action, Set, One, Two, Place, Walk, Read, Write, Steps, End, Then, For}
use Rattle.nest_build.specs.Nests.{Spot, nest_of}
use Rattle.nest_build.specs.Parts.{Loop}

-- ---- areas and elements

abbrev pub input : List ℕ → List ℕ → ℕ → Area
input name shape start = record { kind = In name; shape = shape; start = start }

abbrev pub output : List ℕ → List ℕ → ℕ → Area
output name shape start = record { kind = Out name; shape = shape; start = start }

-- the element of an area at a start and strides
abbrev pub element : ℕ → ℤ → List (ℕ × ℤ) → Operational
element area start strides = Get (record { area = area; start = start; strides = strides })

-- ---- parts

abbrev pub loop_over : ℕ → ℕ → ℕ → Loop
loop_over counter var turns = record { counter = counter; var = var; turns = turns }

-- an element of a vector
abbrev pub vector : Operational
vector = element 0 (pos 0) ((0, pos 1) ∷ [])

-- sub (mul 3 (add B iota)) (neg (add (sub 3 A) (mul 4 (reverse iota))))
abbrev pub mixed_form : Operational
mixed_form =
    Bin Sub (Bin Mul (Lit (pos 3)) (Bin Add (element 1 (pos 2) []) (Index (variable 1))))
    (Un Neg (Bin Add (Bin Sub (Lit (pos 3)) vector) (Bin Mul (Lit (pos 4)) (Index (Minus 0 (pos 5))))))

-- its steps, where registers are free from 9 on, literals stand from 4 on, places have numbers from 12 on, and variable 1 begins at 2
abbrev pub mixed_steps : List Action
mixed_steps =
    Read 9 1 12 ∷ Set 10 (pos 2) ∷ Two Add 10 10 1 ∷ Two Add 9 9 10 ∷ Two Mul 9 4 9
    ∷ Read 10 0 13 ∷ Two Sub 10 5 10 ∷ Set 11 (pos 5) ∷ Two Sub 11 11 0 ∷ Two Mul 11 6 11 ∷ Two Add 10 10 11 ∷ One Neg 10 10
    ∷ Two Sub 9 9 10 ∷ []

-- forms that are not straight
abbrev pub bent_forms : List Operational
bent_forms = Case (variable 0) (pos 2) vector vector ∷ Fold Add 1 0 3 vector ∷ Let 1 (Turn (variable 0) 1 3) vector ∷ []

abbrev pub two_spots : List Spot
two_spots =
    record { place = 6; word = pos 23; strides = (0, pos 5) ∷ (1, negsuc 1) ∷ [] }
    ∷ record { place = 8; word = pos 4; strides = (1, pos 1) ∷ [] }
    ∷ []

-- ---- add mul 3 A B, where A is 4 by 5 and B is a scalar

abbrev pub scaled_areas : List Area
scaled_areas = input (codes "A") (4 ∷ 5 ∷ []) 0 ∷ input (codes "B") [] 20 ∷ output (codes "C") (4 ∷ 5 ∷ []) 21 ∷ []

abbrev pub scaled_form : Operational
scaled_form = Bin Add (Bin Mul (Lit (pos 3)) (element 0 (pos 0) ((0, pos 5) ∷ (1, pos 1) ∷ []))) (element 1 (pos 0) [])

abbrev pub scaled_nest : Steps
scaled_nest =
    Then (Set 2 (pos 3)) (Then (Place 5 (pos 0)) (Then (Place 6 (pos 20)) (Then (Place 7 (pos 21))
    (For 0 4
    (For 1 5
    (Then (Read 3 0 5) (Then (Two Mul 3 2 3) (Then (Read 4 1 6) (Then (Two Add 3 3 4) (Then (Write 2 7 3)
    (Then (Walk 5 (pos 1)) (Then (Walk 7 (pos 1)) End)))))))
    (Then (Walk 5 (negsuc 4)) (Then (Walk 7 (negsuc 4)) (Then (Walk 5 (pos 5)) (Then (Walk 7 (pos 5)) End)))))
    End))))

-- ---- outer mul A B, of 4 and 5 elements

abbrev pub outer_areas : List Area
outer_areas = input (codes "A") (4 ∷ []) 0 ∷ input (codes "B") (5 ∷ []) 4 ∷ output (codes "C") (4 ∷ 5 ∷ []) 9 ∷ []

abbrev pub outer_form : Operational
outer_form = Bin Mul (element 0 (pos 0) ((0, pos 1) ∷ [])) (element 1 (pos 0) ((1, pos 1) ∷ []))

abbrev pub outer_nest : Steps
outer_nest =
    Then (Place 4 (pos 0)) (Then (Place 5 (pos 4)) (Then (Place 6 (pos 9))
    (For 0 4
    (For 1 5
    (Then (Read 2 0 4) (Then (Read 3 1 5) (Then (Two Mul 2 2 3) (Then (Write 2 6 2)
    (Then (Walk 5 (pos 1)) (Then (Walk 6 (pos 1)) End))))))
    (Then (Walk 5 (negsuc 4)) (Then (Walk 6 (negsuc 4)) (Then (Walk 4 (pos 1)) (Then (Walk 6 (pos 5)) End)))))
    End)))

abbrev pub outer_words : List ℤ
outer_words = map pos (1 ∷ 2 ∷ 3 ∷ 4 ∷ 10 ∷ 20 ∷ 30 ∷ 40 ∷ 50 ∷ []) ++ repeat 20 (pos 7 ∷ [])

-- ---- permute <2 0 1> A, where A is 2 by 3 by 4

abbrev pub permuted_areas : List Area
permuted_areas = input (codes "A") (2 ∷ 3 ∷ 4 ∷ []) 0 ∷ output (codes "C") (4 ∷ 2 ∷ 3 ∷ []) 24 ∷ []

abbrev pub permuted_form : Operational
permuted_form = element 0 (pos 0) ((0, pos 1) ∷ (1, pos 12) ∷ (2, pos 4) ∷ [])

abbrev pub permuted_nest : Steps
permuted_nest =
    Then (Place 4 (pos 0)) (Then (Place 5 (pos 24))
    (For 0 4
    (For 1 2
    (For 2 3
    (Then (Read 3 0 4) (Then (Write 1 5 3) (Then (Walk 4 (pos 4)) (Then (Walk 5 (pos 1)) End))))
    (Then (Walk 4 (negsuc 11)) (Then (Walk 5 (negsuc 2)) (Then (Walk 4 (pos 12)) (Then (Walk 5 (pos 3)) End)))))
    (Then (Walk 4 (negsuc 23)) (Then (Walk 5 (negsuc 5)) (Then (Walk 4 (pos 1)) (Then (Walk 5 (pos 6)) End)))))
    End))

abbrev pub permuted_words : List ℤ
permuted_words = map pos (range_with_len 0 48)

-- ---- take <-2> (reverse A), where A has 4 elements

abbrev pub reversed_areas : List Area
reversed_areas = input (codes "A") (4 ∷ []) 0 ∷ output (codes "C") (2 ∷ []) 4 ∷ []

abbrev pub reversed_form : Operational
reversed_form = element 0 (pos 1) ((0, negsuc 0) ∷ [])

abbrev pub reversed_nest : Steps
reversed_nest =
    Then (Place 2 (pos 1)) (Then (Place 3 (pos 4))
    (For 0 2 (Then (Read 1 0 2) (Then (Write 1 3 1) (Then (Walk 2 (negsuc 0)) (Then (Walk 3 (pos 1)) End)))) End))

-- ---- add 1 (mul 2 iota 6)

abbrev pub counted_areas : List Area
counted_areas = output (codes "C") (6 ∷ []) 0 ∷ []

abbrev pub counted_form : Operational
counted_form = Bin Add (Lit (pos 1)) (Bin Mul (Lit (pos 2)) (Index (variable 0)))

abbrev pub counted_nest : Steps
counted_nest =
    Then (Set 1 (pos 1)) (Then (Set 2 (pos 2)) (Then (Place 4 (pos 0))
    (For 0 6
    (Then (Set 3 (pos 0)) (Then (Two Add 3 3 0) (Then (Two Mul 3 2 3) (Then (Two Add 3 1 3) (Then (Write 0 4 3)
    (Then (Walk 4 (pos 1)) End))))))
    End)))

-- ---- add A B of two scalars

abbrev pub scalar_areas : List Area
scalar_areas = input (codes "A") [] 0 ∷ input (codes "B") [] 1 ∷ output (codes "C") [] 2 ∷ []

abbrev pub scalar_form : Operational
scalar_form = Bin Add (element 0 (pos 0) []) (element 1 (pos 0) [])

abbrev pub scalar_nest : Steps
scalar_nest =
    Then (Place 2 (pos 0)) (Then (Place 3 (pos 1)) (Then (Place 4 (pos 2))
    (Then (Read 0 0 2) (Then (Read 1 1 3) (Then (Two Add 0 0 1) (Then (Write 2 4 0) End))))))

-- ---- add (reverse A) iota 5 on the elements 1 and 2 of 5

abbrev pub part_areas : List Area
part_areas = input (codes "A") (5 ∷ []) 0 ∷ output (codes "C") (5 ∷ []) 5 ∷ []

abbrev pub part_form : Operational
part_form = Bin Add (element 0 (pos 4) ((0, negsuc 0) ∷ [])) (Index (variable 0))

abbrev pub part_nest : Steps
part_nest =
    Then (Place 3 (pos 3)) (Then (Place 4 (pos 6))
    (For 0 2
    (Then (Read 1 0 3) (Then (Set 2 (pos 1)) (Then (Two Add 2 2 0) (Then (Two Add 1 1 2) (Then (Write 1 4 1)
    (Then (Walk 3 (negsuc 0)) (Then (Walk 4 (pos 1)) End)))))))
    End))

abbrev pub part_words : List ℤ
part_words = map pos (10 ∷ 20 ∷ 30 ∷ 40 ∷ 50 ∷ 7 ∷ 7 ∷ 7 ∷ 7 ∷ 7 ∷ [])

-- ---- the elements 1 to 3 of the last row of A plus the products of their indices, where A is 2 by 4

abbrev pub row_areas : List Area
row_areas = input (codes "A") (2 ∷ 4 ∷ []) 0 ∷ output (codes "C") (2 ∷ 4 ∷ []) 8 ∷ []

abbrev pub row_form : Operational
row_form = Bin Add (element 0 (pos 0) ((0, pos 4) ∷ (1, pos 1) ∷ [])) (Bin Mul (Index (variable 0)) (Index (variable 1)))

abbrev pub row_nest : Steps
row_nest =
    Then (Place 4 (pos 5)) (Then (Place 5 (pos 13))
    (For 0 3
    (Then (Read 1 0 4) (Then (Set 2 (pos 1)) (Then (Set 3 (pos 1)) (Then (Two Add 3 3 0) (Then (Two Mul 2 2 3) (Then (Two Add 1 1 2)
    (Then (Write 1 5 1) (Then (Walk 4 (pos 1)) (Then (Walk 5 (pos 1)) End)))))))))
    End))

abbrev pub row_words : List ℤ
row_words = map pos (10 ∷ 20 ∷ 30 ∷ 40 ∷ 50 ∷ 60 ∷ 70 ∷ 80 ∷ 7 ∷ 7 ∷ 7 ∷ 7 ∷ 7 ∷ 7 ∷ 7 ∷ 7 ∷ [])

-- ---- the sum of two vectors of 4096 elements

abbrev pub long_areas : List Area
long_areas = input (codes "A") (4096 ∷ []) 0 ∷ input (codes "B") (4096 ∷ []) 4096 ∷ output (codes "C") (4096 ∷ []) 8192 ∷ []

abbrev pub long_form : Operational
long_form = Bin Add (element 0 (pos 0) ((0, pos 1) ∷ [])) (element 1 (pos 0) ((0, pos 1) ∷ []))

abbrev pub long_nest : Steps
long_nest = nest_of long_areas 2 (4096 ∷ []) ((0, 4096) ∷ []) long_form

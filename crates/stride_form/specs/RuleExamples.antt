-- Forms on which the four rules are shown. This project's own.
use Rattle.std.specs.Prelude.{ℕ, pos, List, [], ◌∷◌}
use Rattle.normal_form.specs.declared.entry.Entry.{Entry}
use Rattle.normal_form.specs.declared.term.Bind.TheVariants.{Flat, Digit}
use Rattle.normal_form.specs.Forms.{Get, Let, Normal}
use Rattle.normal_form.specs.Moves.{variable}
use Rattle.stride_form.specs.Accesses.{Steps}
use Rattle.stride_form.specs.Operational.{Operational}

-- a load of area 0, and an access to it
abbrev pub load : List ℕ → List Entry → Normal
load shape at = Get (record { area = 0; shape = shape; at = at })

abbrev pub access : ℕ → Steps → Operational
access start strides = Get (record { area = 0; start = pos start; strides = strides })

-- the whole of a shape
abbrev pub whole : List ℕ → List (ℕ × ℕ)
whole [] = []
whole (n ∷ shape) = (0, n) ∷ whole shape

-- the digits of a number in the shape 2 3, as v5 and v6
abbrev pub in_digits : Entry → Normal → Normal
in_digits of form = Let 5 (Digit of 3 2) (Let 6 (Digit of 1 3) form)

-- `reshape <2 3> A` with A of shape 3 2
abbrev pub reshaped : Normal
reshaped = Let 2 (Flat (variable 0 ∷ variable 1 ∷ []) (2 ∷ 3 ∷ []))
    (Let 3 (Digit (variable 2) 2 3) (Let 4 (Digit (variable 2) 1 2) (load (3 ∷ 2 ∷ []) (variable 3 ∷ variable 4 ∷ []))))

-- `reshape <4> (reshape <2 2> A)` with A of shape 4
abbrev pub reshaped_twice : Normal
reshaped_twice = Let 1 (Digit (variable 0) 2 2) (Let 2 (Digit (variable 0) 1 2)
    (Let 3 (Flat (variable 1 ∷ variable 2 ∷ []) (2 ∷ 2 ∷ [])) (load (4 ∷ []) (variable 3 ∷ []))))

-- an element of an array of shape 2 3 at the digits of v0 in this shape
abbrev pub taken : Normal
taken = in_digits (variable 0) (load (2 ∷ 3 ∷ []) (variable 5 ∷ variable 6 ∷ []))

-- the offset of two entries in the shape 2 3, loaded from 6 elements
abbrev pub offset_of : Entry → Entry → Normal
offset_of first second = Let 7 (Flat (first ∷ second ∷ []) (2 ∷ 3 ∷ [])) (load (6 ∷ []) (variable 7 ∷ []))

-- The parts of a form from which its nest is made: the loops of its region, and its literals, accesses and values in order. This project's own.
use Rattle.std.specs.Prelude.{ℕ, suc, ◌+◌, ◌-◌, ◌==◌, max, Bool, true, false, ◌&&◌, ℤ, List, [], ◌∷◌, ◌++◌}
use Rattle.std.specs.Prelude.{slice_index_or, Option, None, Some, if◌then◌else◌}
use Rattle.normal_form.specs.declared.entry.Entry.{Entry}
use Rattle.normal_form.specs.Forms.{Lit, Index, Get, Un, Bin}
use Rattle.stride_form.specs.declared.access.Access.{Access}
use Rattle.stride_form.specs.Operational.{Operational}

-- ---- loops

-- a loop over an axis: the register that counts it, the variable of the axis, and its turns
pub record Loop : Type 0 where
  pub counter : ℕ
  pub var : ℕ
  pub turns : ℕ

-- the loops of axes, of which the first has this variable and the first that is a loop this counter: an axis with one place has none
abbrev pub loops_from : ℕ → ℕ → List (ℕ × ℕ) → List Loop
loops_from counter var [] = []
loops_from counter var (pair ∷ pairs) =
    let turns = pair.1 - pair.0 in
    if turns == 1 then loops_from counter (suc var) pairs
    else record { counter = counter; var = var; turns = turns } ∷ loops_from (suc counter) (suc var) pairs

-- the least number of a variable in a region
abbrev pub low_of : List (ℕ × ℕ) → ℕ → ℕ
low_of region var = (slice_index_or region var (0, 0)).0

-- the register that counts up from the least number of a variable, where there is a loop over it
abbrev pub counter_of : List Loop → ℕ → Option ℕ
counter_of [] var = None
counter_of (loop ∷ loops) var = if loop.var == var then Some loop.counter else counter_of loops var

-- ---- what stands in a form, from the left

-- whether a form has no choice, no fold and no binding
abbrev pub is_straight : Operational → Bool
is_straight (Lit value) = true
is_straight (Index entry) = true
is_straight (Get access) = true
is_straight (Un op of) = is_straight of
is_straight (Bin op left right) = is_straight left && is_straight right
is_straight _ = false

abbrev pub literals : Operational → List ℤ
literals (Lit value) = value ∷ []
literals (Un op of) = literals of
literals (Bin op left right) = literals left ++ literals right
literals _ = []

abbrev pub accesses : Operational → List Access
accesses (Get access) = access ∷ []
accesses (Un op of) = accesses of
accesses (Bin op left right) = accesses left ++ accesses right
accesses _ = []

-- the entries whose numbers it takes
abbrev pub entries : Operational → List Entry
entries (Index entry) = entry ∷ []
entries (Un op of) = entries of
entries (Bin op left right) = entries left ++ entries right
entries _ = []

-- the first register behind the value of an operand: a literal has one of its own
abbrev pub behind_value : ℕ → Operational → ℕ
behind_value free (Lit value) = free
behind_value free _ = suc free

-- how many registers its values take, beside those of its literals
abbrev pub values_of : Operational → ℕ
values_of (Lit value) = 0
values_of (Un op of) = max 1 (values_of of)
values_of (Bin op left right) = max 1 (max (values_of left) (behind_value 0 left + values_of right))
values_of _ = 1

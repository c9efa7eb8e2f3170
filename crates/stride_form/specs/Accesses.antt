-- Loads by a start and a stride for each variable: the row-major offset of entries, collected by variables. After Mullin (1988), whose offset is
-- gamma, and Mullin and Thibault (1994).
use Rattle.std.specs.Prelude.{ℕ, ◌≤◌, ◌==◌, ℤ, pos, ◌+ℤ◌, ◌-ℤ◌, ◌*ℤ◌, List, [], ◌∷◌, nat_lt, unsigned_abs, if◌then◌else◌}
use Rattle.std.specs.Int.{int_wrap, w64}
use Rattle.std.specs.List.{AllByRecursion}
use Rattle.shapes_core.specs.Shape.{total}
use Rattle.normal_form.specs.declared.entry.Entry.{Entry}
use Rattle.normal_form.specs.declared.entry.Entry.TheVariants.{At, Plus, Minus}
use Rattle.normal_form.specs.Assignments.{Assignment}
use Rattle.normal_form.specs.Forms.{Element}
use Rattle.normal_form.specs.Meaning.{Store}
use Rattle.stride_form.specs.declared.access.Access.{Access}
use Rattle.stride_form.specs.declared.walk.Walk.{Walk}

-- the strides of variables, by rising variable
abbrev pub Steps : Type 0
Steps = List (ℕ × ℤ)

-- the strides with one more of a variable
abbrev pub with_stride : ℕ → ℤ → Steps → Steps
with_stride var stride [] = (var, stride) ∷ []
with_stride var stride (first ∷ others) =
    if var == first.0 then (var, first.1 +ℤ stride) ∷ others
    else (if nat_lt var first.0 then (var, stride) ∷ first ∷ others
    else first ∷ with_stride var stride others)

-- the constant of an entry, beside a variable or alone
abbrev pub constant_of : Entry → ℤ
constant_of (At constant) = constant
constant_of (Plus var add) = add
constant_of (Minus var add) = add

-- the strides with an entry more, on an axis of this weight
abbrev pub strides_with : ℤ → Entry → Steps → Steps
strides_with weight (At constant) steps = steps
strides_with weight (Plus var add) steps = with_stride var weight steps
strides_with weight (Minus var add) steps = with_stride var (pos 0 -ℤ weight) steps

-- and a walk
abbrev pub with_entry : ℤ → Entry → Walk → Walk
with_entry weight entry walk = record { start = walk.start +ℤ weight *ℤ constant_of entry; strides = strides_with weight entry walk.strides }

-- the row-major offset of entries in a shape
abbrev pub walk_of : List Entry → List ℕ → Walk
walk_of [] shape = record { start = pos 0; strides = [] }
walk_of (entry ∷ entries) [] = record { start = pos 0; strides = [] }
walk_of (entry ∷ entries) (n ∷ shape) = with_entry (pos (total shape)) entry (walk_of entries shape)

-- the access that a load is
abbrev pub access_of : Element → Access
access_of element =
    let walk = walk_of element.at element.shape in
    record { area = element.area; start = walk.start; strides = walk.strides }

-- the same with its start as 64 bits hold it, which changes no start of a form
abbrev pub word_access : Element → Access
word_access element =
    let walk = walk_of element.at element.shape in
    record { area = element.area; start = int_wrap w64 walk.start; strides = walk.strides }

-- strides that are at most so great
abbrev pub AreNear : ℕ → Steps → Type 0
AreNear most steps = AllByRecursion (λ step. unsigned_abs step.1 ≤ most) steps

-- the sum of strides times variables
abbrev pub walked : Assignment → Steps → ℤ
walked m [] = pos 0
walked m (first ∷ others) = first.1 *ℤ pos (m first.0) +ℤ walked m others

-- the place of an access in its area, which is no negative number wherever it is reached, and its value
abbrev pub place_of : Assignment → Access → ℤ
place_of m access = access.start +ℤ walked m access.strides

abbrev pub access_value : Store → Assignment → Access → ℤ
access_value store m access = store access.area (unsigned_abs (place_of m access))

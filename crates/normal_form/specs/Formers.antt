-- Forms in the making: what each kind of rule makes of the forms of its operands. A variable is numbered as its rule is applied, the left operand
-- before the right. After Mullin (1988), and Mullin and Thibault (1994).
use Rattle.std.specs.Prelude.{ℕ, zero, suc, pos, int_lt, List, [], ◌∷◌, slice_index_or, unsigned_abs, if◌then◌else◌}
use Rattle.std.specs.declared.option.Option.{Option}
use Rattle.std.specs.declared.option.Option.TheVariants.{None, Some}
use Rattle.std.specs.Option.{option_map}
use Rattle.std.specs.Str.{bytes_eq}
use Rattle.shapes_core.specs.Gamma.{digit, gamma}
use Rattle.shapes_core.specs.Shape.{span}
use Rattle.moa_tree.specs.declared.operator.Op.{Op}
use Rattle.moa_tree.specs.Folds.{none_folded}
use Rattle.moa_tree.specs.Operators.{identity}
use Rattle.normal_form.specs.declared.entry.Entry.{Entry}
use Rattle.normal_form.specs.declared.entry.Entry.TheVariants.{At}
use Rattle.normal_form.specs.declared.term.Bind.{Bind}
use Rattle.normal_form.specs.declared.term.Bind.TheVariants.{Turn, Flat, Digit}
use Rattle.normal_form.specs.Forms.{Lit, Case, Fold, Let, Normal}
use Rattle.normal_form.specs.Moves.{turned_constant, variable}

-- a form, and the next variable behind it
abbrev pub Made : Type 0
Made = Normal × ℕ

-- what is made from a variable on
abbrev pub Making : Type 0
Making = ℕ → Made

-- the form of an expression at entries
abbrev pub Former : Type 0
Former = List Entry → Making

-- a form without a variable of its own
abbrev pub just : Normal → Making
just form next = (form, next)

abbrev pub with_form : (Normal → Normal) → Made → Made
with_form f made = (f made.0, made.1)

abbrev pub on_one : (Normal → Normal) → Making → Making
on_one f of next = with_form f (of next)

abbrev pub on_both : (Normal → Normal → Normal) → Making → Making → Making
on_both f left right next = with_form (f (left next).0) (right (left next).1)

-- the next variable is bound, and stands in what follows
abbrev pub binding : Bind → (Entry → Making) → Making
binding bind rest next = with_form (Let next bind) (rest (variable next) (suc next))

-- ---- turns

-- an entry of an axis of n items, turned by a number below n
abbrev pub turning : ℕ → ℕ → Entry → (Entry → Making) → Making
turning zero n entry rest = rest entry
turning (suc by) n (At constant) rest = rest (At (turned_constant (suc by) n constant))
turning (suc by) n entry rest = binding (Turn entry (suc by) n) rest

-- ---- joins

-- one of two parts by an entry of an axis, on which the first has n items and the second m
abbrev pub joining : ℕ → ℕ → Entry → Making → Making → Making
joining zero m entry first second = second
joining (suc n) zero entry first second = first
joining (suc n) (suc m) (At constant) first second = if int_lt constant (pos (suc n)) then first else second
joining (suc n) (suc m) entry first second = on_both (Case entry (pos (suc n))) first second

-- ---- reshapes

-- the constants that entries are, if all are constants
abbrev pub with_constant : Entry → Option (List ℕ) → Option (List ℕ)
with_constant (At constant) others = option_map (λ list. unsigned_abs constant ∷ list) others
with_constant entry others = None

abbrev pub constants : List Entry → Option (List ℕ)
constants [] = Some []
constants (entry ∷ entries) = with_constant entry (constants entries)

-- the row-major offset of entries of a shape
abbrev pub offset : Option (List ℕ) → List ℕ → List Entry → (Entry → Making) → Making
offset (Some list) shape entries rest = rest (At (pos (gamma list shape)))
offset None shape entries rest = binding (Flat entries shape) rest

abbrev pub flattening : List ℕ → List Entry → (Entry → Making) → Making
flattening (n ∷ []) entries rest = rest (slice_index_or entries 0 (At (pos 0)))
flattening shape entries rest = offset (constants entries) shape entries rest

-- the digit of an offset at an axis of this weight and extent
abbrev pub varying : Entry → ℕ → ℕ → (Entry → Making) → Making
varying (At constant) weight n rest = rest (At (pos (digit (unsigned_abs constant) weight n)))
varying flat weight n rest = binding (Digit flat weight n) rest

abbrev pub digiting : Entry → ℕ → ℕ → (Entry → Making) → Making
digiting flat weight (suc zero) rest = rest (At (pos 0))
digiting flat weight n rest = varying flat weight n rest

-- the entries of the index vector of an offset
abbrev pub spreading : List ℕ → Entry → (List Entry → Making) → Making
spreading [] flat rest = rest []
spreading (n ∷ shape) flat rest = digiting flat (span shape) n (λ entry. spreading shape flat (λ entries. rest (entry ∷ entries)))

-- the entries of an operand's shape for the offset
abbrev pub unflattening : List ℕ → Entry → (List Entry → Making) → Making
unflattening (n ∷ []) flat rest = rest (flat ∷ [])
unflattening shape flat rest = spreading shape flat rest

-- another shape of the same total: nothing changes, or the operand is a scalar, or its entries are found from the offset
abbrev pub by_offset : List ℕ → List ℕ → List Entry → Former → Making
by_offset shape [] entries of = of []
by_offset shape operand entries of = flattening shape entries (λ flat. unflattening operand flat of)

abbrev pub reshaping : List ℕ → List ℕ → List Entry → Former → Making
reshaping shape operand entries of = if bytes_eq shape operand then of entries else by_offset shape operand entries of

-- ---- folds

-- a fold over n items, each at the next variable
abbrev pub folding : Op → ℕ → (Entry → Making) → Making
folding op zero item = just (Lit (none_folded (identity op)))
folding op (suc n) item = λ next. with_form (Fold op next 0 (suc n)) (item (variable next) (suc next))

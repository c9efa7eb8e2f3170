-- The numbers of entries, and those that are bound, where variables stand for numbers. This project's own.
use Rattle.std.specs.Prelude.{ℕ, ◌==◌, ℤ, pos, ◌+ℤ◌, ◌-ℤ◌, List, map, slice_index_or, unsigned_abs, if◌then◌else◌}
use Rattle.shapes_core.specs.Gamma.{digit, gamma}
use Rattle.moa_tree.specs.Axes.{turned}
use Rattle.normal_form.specs.declared.entry.Entry.{Entry}
use Rattle.normal_form.specs.declared.entry.Entry.TheVariants.{At, Plus, Minus}
use Rattle.normal_form.specs.declared.term.Bind.{Bind}
use Rattle.normal_form.specs.declared.term.Bind.TheVariants.{Turn, Flat, Digit}

-- what each variable stands for
abbrev pub Assignment : Type 0
Assignment = ℕ → ℕ

-- the variables of a job are those of an index vector, one an axis
abbrev pub assigned : List ℕ → Assignment
assigned index var = slice_index_or index var 0

-- the same with one variable bound
abbrev pub bound : Assignment → ℕ → ℕ → Assignment
bound m var number other = if other == var then number else m other

-- the number of an entry
abbrev pub number : Assignment → Entry → ℤ
number m (At constant) = constant
number m (Plus var add) = pos (m var) +ℤ add
number m (Minus var add) = add -ℤ pos (m var)

-- the places of entries, which are no negative numbers wherever they are reached
abbrev pub place : Assignment → Entry → ℕ
place m entry = unsigned_abs (number m entry)

abbrev pub places : Assignment → List Entry → List ℕ
places m entries = map (place m) entries

-- the number that is bound
abbrev pub bound_to : Assignment → Bind → ℕ
bound_to m (Turn of by extent) = turned (pos by) extent (place m of)
bound_to m (Flat of shape) = gamma (places m of) shape
bound_to m (Digit of weight extent) = digit (place m of) weight extent

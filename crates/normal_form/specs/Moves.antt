-- What is done to entries. Each is what the operator of this name does to places (`moa_tree` Axes), on entries. This project's own.
use Rattle.std.specs.Prelude.{ℕ, ℤ, pos, negsuc, ◌+ℤ◌, ◌-ℤ◌, List, map, unsigned_abs}
use Rattle.std.specs.Int.{int_rem_euclid}
use Rattle.std.specs.List.{range_with_len}
use Rattle.normal_form.specs.declared.entry.Entry.{Entry}
use Rattle.normal_form.specs.declared.entry.Entry.TheVariants.{At, Plus, Minus}

-- an entry and a number
abbrev pub raised : ℤ → Entry → Entry
raised by (At constant) = At (constant +ℤ by)
raised by (Plus var add) = Plus var (add +ℤ by)
raised by (Minus var add) = Minus var (add +ℤ by)

-- a number minus an entry
abbrev pub minus_entry : ℤ → Entry → Entry
minus_entry from (At constant) = At (from -ℤ constant)
minus_entry from (Plus var add) = Minus var (from -ℤ add)
minus_entry from (Minus var add) = Plus var (from -ℤ add)

-- a variable alone
abbrev pub variable : ℕ → Entry
variable var = Plus var (pos 0)

-- the entries of a job, a variable an axis
abbrev pub variables : ℕ → List Entry
variables axes = map variable (range_with_len 0 axes)

abbrev pub taken_entry : ℤ → ℕ → Entry → Entry
taken_entry (pos k) n entry = entry
taken_entry (negsuc k) n entry = raised (pos n -ℤ pos (unsigned_abs (negsuc k))) entry

abbrev pub remaining_entry : ℤ → ℕ → Entry → Entry
remaining_entry (pos k) n entry = raised (pos k) entry
remaining_entry (negsuc k) n entry = entry

abbrev pub mirrored_entry : ℕ → Entry → Entry
mirrored_entry n entry = minus_entry (pos n -ℤ pos 1) entry

abbrev pub behind_entry : ℕ → Entry → Entry
behind_entry n entry = raised (pos 0 -ℤ pos n) entry

-- (constant + by) mod n, never negative
abbrev pub turned_constant : ℕ → ℕ → ℤ → ℤ
turned_constant by n constant = int_rem_euclid (constant +ℤ pos by) (pos n)

-- What is known of each variable where the four rules are applied, and of entries by it. This project's own.
use Rattle.std.specs.Prelude.{ℕ, zero, suc, ◌==◌, ◌&&◌, Bool, false, ℤ, pos, negsuc, ◌+ℤ◌, ◌-ℤ◌, int_le, int_lt, List, [], ◌∷◌, if◌then◌else◌}
use Rattle.std.specs.declared.option.Option.{Option}
use Rattle.std.specs.declared.option.Option.TheVariants.{None, Some}
use Rattle.shapes_core.specs.Shape.{span, total}
use Rattle.normal_form.specs.declared.entry.Entry.{Entry}
use Rattle.normal_form.specs.declared.entry.Entry.TheVariants.{At, Plus, Minus}
use Rattle.normal_form.specs.declared.term.Bind.{Bind}
use Rattle.normal_form.specs.declared.term.Bind.TheVariants.{Turn, Flat, Digit}
use Rattle.normal_form.specs.Moves.{minus_entry, raised, variable}
use Rattle.stride_form.specs.declared.facts.Fact.{Fact}
use Rattle.stride_form.specs.declared.facts.Fact.TheVariants.{Range, Alias, Offset, DigitOf}
use Rattle.stride_form.specs.declared.facts.Number.{Number}
use Rattle.stride_form.specs.declared.walk.Walk.{Walk}
use Rattle.stride_form.specs.Accesses.{walk_of, with_entry}

-- what is known of each variable
abbrev pub Facts : Type 0
Facts = ℕ → Fact

-- the same with what is known of one more
abbrev pub knowing : Facts → ℕ → Fact → Facts
knowing facts var fact other = if other == var then fact else facts other

-- the variables of a job run over its region
abbrev pub starting : List (ℕ × ℕ) → Facts
starting [] var = Range 0 0
starting (pair ∷ region) zero = Range pair.0 pair.1
starting (pair ∷ region) (suc var) = starting region var

-- ---- entries

-- an entry over a variable, with what the variable stands for in its place: constants are added and signs multiplied
abbrev pub in_plus : Fact → ℕ → ℤ → Entry
in_plus (Range low high) var add = Plus var add
in_plus (Alias entry) var add = raised add entry
in_plus (Offset total walk) var add = Plus var add
in_plus (DigitOf of weight extent) var add = Plus var add

abbrev pub in_minus : Fact → ℕ → ℤ → Entry
in_minus (Range low high) var add = Minus var add
in_minus (Alias entry) var add = minus_entry add entry
in_minus (Offset total walk) var add = Minus var add
in_minus (DigitOf of weight extent) var add = Minus var add

abbrev pub resolved : Facts → Entry → Entry
resolved facts (At constant) = At constant
resolved facts (Plus var add) = in_plus (facts var) var add
resolved facts (Minus var add) = in_minus (facts var) var add

-- ---- numbers

-- the range of a variable, its upper end excluded
abbrev pub low_of : Fact → ℕ
low_of (Range low high) = low
low_of (Alias entry) = 0
low_of (Offset total walk) = 0
low_of (DigitOf of weight extent) = 0

abbrev pub high_of : Fact → ℕ
high_of (Range low high) = high
high_of (Alias entry) = 0
high_of (Offset total walk) = total
high_of (DigitOf of weight extent) = extent

-- the least and the greatest number that an entry may be
abbrev pub least_of : Facts → Entry → ℤ
least_of facts (At constant) = constant
least_of facts (Plus var add) = pos (low_of (facts var)) +ℤ add
least_of facts (Minus var add) = add -ℤ (pos (high_of (facts var)) -ℤ pos 1)

abbrev pub greatest_of : Facts → Entry → ℤ
greatest_of facts (At constant) = constant
greatest_of facts (Plus var add) = (pos (high_of (facts var)) -ℤ pos 1) +ℤ add
greatest_of facts (Minus var add) = add -ℤ pos (low_of (facts var))

-- the offset of a load of one axis at an entry: that of an offset that is kept, or the entry itself
abbrev pub own_walk : Entry → Walk
own_walk entry = with_entry (pos 1) entry (record { start = pos 0; strides = [] })

abbrev pub plain_walk : Fact → ℕ → Walk
plain_walk (Range low high) var = own_walk (variable var)
plain_walk (Alias entry) var = own_walk (variable var)
plain_walk (Offset total walk) var = walk
plain_walk (DigitOf of weight extent) var = own_walk (variable var)

abbrev pub walk_at : Facts → Entry → Walk
walk_at facts (At constant) = own_walk (At constant)
walk_at facts (Plus var (pos zero)) = plain_walk (facts var) var
walk_at facts (Plus var (pos (suc add))) = own_walk (Plus var (pos (suc add)))
walk_at facts (Plus var (negsuc add)) = own_walk (Plus var (negsuc add))
walk_at facts (Minus var add) = own_walk (Minus var add)

abbrev pub number_of : Facts → Entry → Number
number_of facts entry = record { entry = entry; least = least_of facts entry; greatest = greatest_of facts entry; walk = walk_at facts entry }

-- ---- the digits of a number

-- the number of which an entry, a variable alone, is the digit of this weight and extent
abbrev pub digit_in : Fact → ℕ → ℕ → Option Number
digit_in (Range low high) at n = None
digit_in (Alias entry) at n = None
digit_in (Offset total walk) at n = None
digit_in (DigitOf of weight extent) at n = if weight == at && extent == n then Some of else None

abbrev pub digit_of : Facts → Entry → ℕ → ℕ → Option Number
digit_of facts (At constant) at n = None
digit_of facts (Plus var (pos zero)) at n = digit_in (facts var) at n
digit_of facts (Plus var (pos (suc add))) at n = None
digit_of facts (Plus var (negsuc add)) at n = None
digit_of facts (Minus var add) at n = None

abbrev pub int_equal : ℤ → ℤ → Bool
int_equal a b = int_le a b && int_le b a

abbrev pub same_entry : Entry → Entry → Bool
same_entry (At constant) (At other) = int_equal constant other
same_entry (Plus var add) (Plus other more) = var == other && int_equal add more
same_entry (Minus var add) (Minus other more) = var == other && int_equal add more
same_entry _ _ = false

-- the one number of which all axes have digits, if they have one
abbrev pub agreed : Number → Option Number → Option (Option Number)
agreed number None = Some (Some number)
agreed number (Some other) = if same_entry number.entry other.entry then Some (Some number) else None

abbrev pub joined : Option Number → Option (Option Number) → Option (Option Number)
joined None others = None
joined (Some number) None = None
joined (Some number) (Some others) = agreed number others

-- an axis with one item has the constant 0
abbrev pub at_zero : Entry → Option (Option Number) → Option (Option Number)
at_zero (At (pos zero)) others = others
at_zero (At (pos (suc constant))) others = None
at_zero (At (negsuc constant)) others = None
at_zero (Plus var add) others = None
at_zero (Minus var add) others = None

-- no answer where these are not the digits of one number; none of a number where each axis has one item
abbrev pub common : Facts → List Entry → List ℕ → Option (Option Number)
common facts [] shape = Some None
common facts (entry ∷ entries) [] = Some None
common facts (entry ∷ entries) (n ∷ shape) =
    if n == 1 then at_zero entry (common facts entries shape) else joined (digit_of facts entry (span shape) n) (common facts entries shape)

-- a number lies in a shape of this total
abbrev pub lies : Number → ℕ → Bool
lies number total = int_le (pos 0) number.least && int_lt number.greatest (pos total)

abbrev pub lying : ℕ → Option (Option Number) → Option Number
lying total None = None
lying total (Some None) = None
lying total (Some (Some number)) = if lies number total then Some number else None

-- the number whose digits in a shape these entries are
abbrev pub digits_of : Facts → List Entry → List ℕ → Option Number
digits_of facts entries shape = lying (total shape) (common facts entries shape)

-- ---- bindings

-- a digit of a constant is only a number below the extent
abbrev pub digit_fact : Facts → Entry → ℕ → ℕ → Fact
digit_fact facts (At constant) weight extent = Range 0 extent
digit_fact facts (Plus var add) weight extent = DigitOf (number_of facts (Plus var add)) weight extent
digit_fact facts (Minus var add) weight extent = DigitOf (number_of facts (Minus var add)) weight extent

-- an offset of the digits of a number is this number
abbrev pub offset_fact : Option Number → List Entry → List ℕ → Fact
offset_fact (Some number) entries shape = Alias number.entry
offset_fact None entries shape = Offset (total shape) (walk_of entries shape)

-- what is known of a variable that is bound so
abbrev pub fact_of : Facts → Bind → Fact
fact_of facts (Turn of by extent) = Range 0 extent
fact_of facts (Flat of shape) = offset_fact (digits_of facts of shape) of shape
fact_of facts (Digit of weight extent) = digit_fact facts of weight extent

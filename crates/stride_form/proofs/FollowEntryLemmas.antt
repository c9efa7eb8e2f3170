-- What is known may be put in the place of variables before a move of an entry or behind it.
use Rattle.std.specs.Prelude.{◌≡◌, ℕ, ℤ, pos, negsuc, ◌+ℤ◌, ◌-ℤ◌, unsigned_abs}
use Rattle.std.proofs.Common.{refl, ap, arith}
use Rattle.std.proofs.lemmas.Int.{ints}
use Rattle.normal_form.specs.declared.entry.Entry.{Entry}
use Rattle.normal_form.specs.declared.entry.Entry.TheVariants.{At, Plus, Minus}
use Rattle.normal_form.specs.Moves.{behind_entry, minus_entry, mirrored_entry, raised, remaining_entry, taken_entry}
use Rattle.normal_form.specs.Stands.{uses_below}
use Rattle.stride_form.specs.declared.facts.Fact.{Fact}
use Rattle.stride_form.specs.declared.facts.Fact.TheVariants.{Range, Alias, Offset, DigitOf}
use Rattle.stride_form.specs.Facts.{Facts, in_minus, in_plus, resolved}
use Rattle.stride_form.specs.Follows.{CommutesAt}

-- ---- two moves are one

sum-sum : (a b c : ℤ) → a +ℤ (b +ℤ c) ≡ (a +ℤ b) +ℤ c
sum-sum a b c = omega (arith, ints)

difference-sum : (a b c : ℤ) → (b +ℤ c) -ℤ a ≡ (b -ℤ a) +ℤ c
difference-sum a b c = omega (arith, ints)

difference-less : (a b c : ℤ) → (c -ℤ b) -ℤ a ≡ c -ℤ (a +ℤ b)
difference-less a b c = omega (arith, ints)

difference-more : (a b c : ℤ) → a +ℤ (c -ℤ b) ≡ c -ℤ (b -ℤ a)
difference-more a b c = omega (arith, ints)

raised-raised : (add by : ℤ) (entry : Entry) → raised (add +ℤ by) entry ≡ raised by (raised add entry)
raised-raised add by (At constant) = ap At (sum-sum constant add by)
raised-raised add by (Plus var more) = ap (Plus var) (sum-sum more add by)
raised-raised add by (Minus var more) = ap (Minus var) (sum-sum more add by)

minus-raised : (add by : ℤ) (entry : Entry) → minus_entry (add +ℤ by) entry ≡ raised by (minus_entry add entry)
minus-raised add by (At constant) = ap At (difference-sum constant add by)
minus-raised add by (Plus var more) = ap (Minus var) (difference-sum more add by)
minus-raised add by (Minus var more) = ap (Plus var) (difference-sum more add by)

raised-minus : (add from : ℤ) (entry : Entry) → minus_entry (from -ℤ add) entry ≡ minus_entry from (raised add entry)
raised-minus add from (At constant) = ap At (difference-less constant add from)
raised-minus add from (Plus var more) = ap (Minus var) (difference-less more add from)
raised-minus add from (Minus var more) = ap (Plus var) (difference-less more add from)

minus-minus : (add from : ℤ) (entry : Entry) → raised (from -ℤ add) entry ≡ minus_entry from (minus_entry add entry)
minus-minus add from (At constant) = ap At (difference-more constant add from)
minus-minus add from (Plus var more) = ap (Plus var) (difference-more more add from)
minus-minus add from (Minus var more) = ap (Minus var) (difference-more more add from)

-- ---- by what is known of the variable

plus-raised : (fact : Fact) (var : ℕ) (add by : ℤ) → in_plus fact var (add +ℤ by) ≡ raised by (in_plus fact var add)
plus-raised (Range low high) var add by = refl
plus-raised (Alias entry) var add by = raised-raised add by entry
plus-raised (Offset total walk) var add by = refl
plus-raised (DigitOf of weight extent) var add by = refl

less-raised : (fact : Fact) (var : ℕ) (add by : ℤ) → in_minus fact var (add +ℤ by) ≡ raised by (in_minus fact var add)
less-raised (Range low high) var add by = refl
less-raised (Alias entry) var add by = minus-raised add by entry
less-raised (Offset total walk) var add by = refl
less-raised (DigitOf of weight extent) var add by = refl

plus-minus : (fact : Fact) (var : ℕ) (add from : ℤ) → in_minus fact var (from -ℤ add) ≡ minus_entry from (in_plus fact var add)
plus-minus (Range low high) var add from = refl
plus-minus (Alias entry) var add from = raised-minus add from entry
plus-minus (Offset total walk) var add from = refl
plus-minus (DigitOf of weight extent) var add from = refl

less-minus : (fact : Fact) (var : ℕ) (add from : ℤ) → in_plus fact var (from -ℤ add) ≡ minus_entry from (in_minus fact var add)
less-minus (Range low high) var add from = refl
less-minus (Alias entry) var add from = minus-minus add from entry
less-minus (Offset total walk) var add from = refl
less-minus (DigitOf of weight extent) var add from = refl

-- ---- moves

resolved-raised : (by : ℤ) (facts : Facts) (entry : Entry) → resolved facts (raised by entry) ≡ raised by (resolved facts entry)
resolved-raised by facts (At constant) = refl
resolved-raised by facts (Plus var add) = plus-raised (facts var) var add by
resolved-raised by facts (Minus var add) = less-raised (facts var) var add by

resolved-minus : (from : ℤ) (facts : Facts) (entry : Entry) → resolved facts (minus_entry from entry) ≡ minus_entry from (resolved facts entry)
resolved-minus from facts (At constant) = refl
resolved-minus from facts (Plus var add) = plus-minus (facts var) var add from
resolved-minus from facts (Minus var add) = less-minus (facts var) var add from

raised-below : (by : ℤ) (entry : Entry) (next : ℕ) → uses_below next entry → uses_below next (raised by entry)
raised-below by (At constant) next h = h
raised-below by (Plus var add) next h = h
raised-below by (Minus var add) next h = h

minus-below : (from : ℤ) (entry : Entry) (next : ℕ) → uses_below next entry → uses_below next (minus_entry from entry)
minus-below from (At constant) next h = h
minus-below from (Plus var add) next h = h
minus-below from (Minus var add) next h = h

pub raised-commutes : (by : ℤ) → CommutesAt (raised by)
raised-commutes by = record { commutes = resolved-raised by; below = raised-below by }

pub minus-commutes : (from : ℤ) → CommutesAt (minus_entry from)
minus-commutes from = record { commutes = resolved-minus from; below = minus-below from }

pub same-commutes : CommutesAt (λ entry. entry)
same-commutes = record { commutes = λ facts entry. refl; below = λ entry next h. h }

pub taken-commutes : (k : ℤ) (n : ℕ) → CommutesAt (taken_entry k n)
taken-commutes (pos k) n = same-commutes
taken-commutes (negsuc k) n = raised-commutes (pos n -ℤ pos (unsigned_abs (negsuc k)))

pub remaining-commutes : (k : ℤ) (n : ℕ) → CommutesAt (remaining_entry k n)
remaining-commutes (pos k) n = raised-commutes (pos k)
remaining-commutes (negsuc k) n = same-commutes

pub mirrored-commutes : (n : ℕ) → CommutesAt (mirrored_entry n)
mirrored-commutes n = minus-commutes (pos n -ℤ pos 1)

pub behind-commutes : (n : ℕ) → CommutesAt (behind_entry n)
behind-commutes n = raised-commutes (pos 0 -ℤ pos n)

-- An entry with what is known in the place of its variable is the same number, and the offset of a load of one axis at it is this number.
use Rattle.std.specs.Prelude.{◌≡◌, ℕ, zero, suc, ℤ, pos, negsuc, ◌+ℤ◌, ◌-ℤ◌, List, [], ◌∷◌, map, unsigned_abs}
use Rattle.std.specs.List.{AllByRecursion, Contains}
use Rattle.std.proofs.Common.{refl, ap, ap₂, ◌∙◌, arith}
use Rattle.std.proofs.lemmas.Int.{ints}
use Rattle.normal_form.specs.declared.entry.Entry.{Entry}
use Rattle.normal_form.specs.declared.entry.Entry.TheVariants.{At, Plus, Minus}
use Rattle.normal_form.specs.Assignments.{Assignment, number, places}
use Rattle.normal_form.specs.Kept.{AreEntries, IsEntry}
use Rattle.normal_form.specs.Stands.{AreIndex}
use Rattle.normal_form.specs.Moves.{minus_entry, raised}
use Rattle.stride_form.specs.declared.facts.Fact.{Fact}
use Rattle.stride_form.specs.declared.facts.Fact.TheVariants.{Range, Alias, Offset, DigitOf}
use Rattle.stride_form.specs.Exact.{AreTrue, ComesTo, IsAmongThese, IsTrue}
use Rattle.stride_form.specs.Facts.{Facts, in_minus, in_plus, own_walk, plain_walk, resolved, walk_at}

raised-number : (m : Assignment) (by : ℤ) (entry : Entry) → number m (raised by entry) ≡ number m entry +ℤ by
raised-number m by (At constant) = refl
raised-number m by (Plus var add) = omega (arith, ints)
raised-number m by (Minus var add) = omega (arith, ints)

minus-number : (m : Assignment) (from : ℤ) (entry : Entry) → number m (minus_entry from entry) ≡ from -ℤ number m entry
minus-number m from (At constant) = refl
minus-number m from (Plus var add) = omega (arith, ints)
minus-number m from (Minus var add) = omega (arith, ints)

in-plus-number : (m : Assignment) (known : List ℕ) (var : ℕ) (add : ℤ) (fact : Fact) → IsTrue m known var fact
    → number m (in_plus fact var add) ≡ pos (m var) +ℤ add
in-plus-number m known var add (Range low high) h = refl
in-plus-number m known var add (Alias entry) h = raised-number m add entry ∙ ap (λ z. z +ℤ add) h.1
in-plus-number m known var add (Offset count walk) h = refl
in-plus-number m known var add (DigitOf of weight extent) h = refl

in-minus-number : (m : Assignment) (known : List ℕ) (var : ℕ) (add : ℤ) (fact : Fact) → IsTrue m known var fact
    → number m (in_minus fact var add) ≡ add -ℤ pos (m var)
in-minus-number m known var add (Range low high) h = refl
in-minus-number m known var add (Alias entry) h = minus-number m add entry ∙ ap (λ z. add -ℤ z) h.1
in-minus-number m known var add (Offset count walk) h = refl
in-minus-number m known var add (DigitOf of weight extent) h = refl

pub entry-same : (m : Assignment) (known : List ℕ) (facts : Facts) (entry : Entry) → AreTrue m known facts → IsAmongThese known entry
    → number m (resolved facts entry) ≡ number m entry
entry-same m known facts (At constant) exact h = refl
entry-same m known facts (Plus var add) exact h = in-plus-number m known var add (facts var) (exact var h)
entry-same m known facts (Minus var add) exact h = in-minus-number m known var add (facts var) (exact var h)

raised-over : (known : List ℕ) (by : ℤ) (entry : Entry) → IsAmongThese known entry → IsAmongThese known (raised by entry)
raised-over known by (At constant) h = tt
raised-over known by (Plus var add) h = h
raised-over known by (Minus var add) h = h

minus-over : (known : List ℕ) (from : ℤ) (entry : Entry) → IsAmongThese known entry → IsAmongThese known (minus_entry from entry)
minus-over known from (At constant) h = tt
minus-over known from (Plus var add) h = h
minus-over known from (Minus var add) h = h

in-plus-over : (m : Assignment) (known : List ℕ) (var : ℕ) (add : ℤ) (fact : Fact) → Contains known var → IsTrue m known var fact
    → IsAmongThese known (in_plus fact var add)
in-plus-over m known var add (Range low high) here h = here
in-plus-over m known var add (Alias entry) here h = raised-over known add entry h.0
in-plus-over m known var add (Offset count walk) here h = here
in-plus-over m known var add (DigitOf of weight extent) here h = here

in-minus-over : (m : Assignment) (known : List ℕ) (var : ℕ) (add : ℤ) (fact : Fact) → Contains known var → IsTrue m known var fact
    → IsAmongThese known (in_minus fact var add)
in-minus-over m known var add (Range low high) here h = here
in-minus-over m known var add (Alias entry) here h = minus-over known add entry h.0
in-minus-over m known var add (Offset count walk) here h = here
in-minus-over m known var add (DigitOf of weight extent) here h = here

pub entry-over : (m : Assignment) (known : List ℕ) (facts : Facts) (entry : Entry) → AreTrue m known facts → IsAmongThese known entry
    → IsAmongThese known (resolved facts entry)
entry-over m known facts (At constant) exact h = tt
entry-over m known facts (Plus var add) exact h = in-plus-over m known var add (facts var) h (exact var h)
entry-over m known facts (Minus var add) exact h = in-minus-over m known var add (facts var) h (exact var h)

own-comes : (m : Assignment) (entry : Entry) → ComesTo m (own_walk entry) (number m entry)
own-comes m (At constant) = omega (arith, ints)
own-comes m (Plus var add) = omega (arith, ints)
own-comes m (Minus var add) = omega (arith, ints)

plain-comes : (m : Assignment) (known : List ℕ) (var : ℕ) (fact : Fact) → IsTrue m known var fact
    → ComesTo m (plain_walk fact var) (pos (m var) +ℤ pos 0)
plain-comes m known var (Range low high) h = own-comes m (Plus var (pos 0))
plain-comes m known var (Alias entry) h = own-comes m (Plus var (pos 0))
plain-comes m known var (Offset count walk) h = h.1.1 ∙ (let e : pos (m var) ≡ pos (m var) +ℤ pos 0 = omega (arith, ints) in e)
plain-comes m known var (DigitOf of weight extent) h = own-comes m (Plus var (pos 0))

pub entry-comes : (m : Assignment) (known : List ℕ) (facts : Facts) (entry : Entry) → AreTrue m known facts → IsAmongThese known entry
    → ComesTo m (walk_at facts entry) (number m entry)
entry-comes m known facts (At constant) exact h = own-comes m (At constant)
entry-comes m known facts (Plus var (pos zero)) exact h = plain-comes m known var (facts var) (exact var h)
entry-comes m known facts (Plus var (pos (suc add))) exact h = own-comes m (Plus var (pos (suc add)))
entry-comes m known facts (Plus var (negsuc add)) exact h = own-comes m (Plus var (negsuc add))
entry-comes m known facts (Minus var add) exact h = own-comes m (Minus var add)

-- ---- entries of an index

pub entry-among : (known : List ℕ) (entry : Entry) (n : ℕ) → IsEntry known entry n → IsAmongThese known entry
entry-among known (At constant) n h = tt
entry-among known (Plus var add) n h = h.0
entry-among known (Minus var add) n h = h.0

pub entries-among : (known : List ℕ) (entries : List Entry) (shape : List ℕ) → AreEntries known entries shape
    → AllByRecursion (IsAmongThese known) entries
entries-among known [] [] h = tt
entries-among known [] (n ∷ shape) h = absurd h
entries-among known (entry ∷ entries) [] h = absurd h
entries-among known (entry ∷ entries) (n ∷ shape) h = (entry-among known entry n h.0, entries-among known entries shape h.1)

pub resolved-all : (m : Assignment) (known : List ℕ) (facts : Facts) (entries : List Entry) → AreTrue m known facts
    → AllByRecursion (IsAmongThese known) entries → AllByRecursion (IsAmongThese known) (map (resolved facts) entries)
resolved-all m known facts [] exact h = tt
resolved-all m known facts (entry ∷ entries) exact h =
    (entry-over m known facts entry exact h.0, resolved-all m known facts entries exact h.1)

pub numbers-resolved : (m : Assignment) (known : List ℕ) (facts : Facts) (entries : List Entry) → AreTrue m known facts
    → AllByRecursion (IsAmongThese known) entries → map (number m) (map (resolved facts) entries) ≡ map (number m) entries
numbers-resolved m known facts [] exact h = refl
numbers-resolved m known facts (entry ∷ entries) exact h =
    ap₂ (λ front back. front ∷ back) (entry-same m known facts entry exact h.0) (numbers-resolved m known facts entries exact h.1)

pub places-resolved : (m : Assignment) (known : List ℕ) (facts : Facts) (entries : List Entry) → AreTrue m known facts
    → AllByRecursion (IsAmongThese known) entries → places m (map (resolved facts) entries) ≡ places m entries
places-resolved m known facts [] exact h = refl
places-resolved m known facts (entry ∷ entries) exact h =
    ap₂ (λ front back. front ∷ back) (ap unsigned_abs (entry-same m known facts entry exact h.0))
    (places-resolved m known facts entries exact h.1)

pub index-resolved : (m : Assignment) (known : List ℕ) (facts : Facts) (entries : List Entry) (shape : List ℕ)
    → AreTrue m known facts → AllByRecursion (IsAmongThese known) entries → AreIndex m entries shape
    → AreIndex m (map (resolved facts) entries) shape
index-resolved m known facts entries shape exact h fine =
    record { index = fine.index; stand = numbers-resolved m known facts entries exact h ∙ fine.stand; within = fine.within }

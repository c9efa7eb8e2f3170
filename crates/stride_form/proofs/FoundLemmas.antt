-- Entries that are found to be the digits of a number are its digits, and the access of a load is at the offset of its entries.
use Rattle.std.specs.Prelude.{◌≡◌, ℕ, zero, suc, ◌+◌, ◌*◌, ◌/◌, ◌<◌, ◌==◌, ◌&&◌, Bool, true, false, ℤ, pos, negsuc, ◌+ℤ◌, ◌≤ℤ◌, List, [], ◌∷◌, map}
use Rattle.std.specs.Prelude.{int_le, int_lt, unsigned_abs, if◌then◌else◌, ⊤}
use Rattle.std.specs.List.{AllByRecursion}
use Rattle.std.specs.declared.option.Option.{Option}
use Rattle.std.specs.declared.option.Option.TheVariants.{None, Some}
use Rattle.std.proofs.Common.{refl, sym, ap, ap₂, subst, ◌∙◌, arith}
use Rattle.std.proofs.Math.Nat.{mod-one}
use Rattle.std.proofs.lemmas.Int.{ints}
use Rattle.shapes_core.specs.Gamma.{IsIndex, digit, digits, gamma}
use Rattle.shapes_core.specs.Shape.{span, total}
use Rattle.shapes_core.proofs.DigitLemmas.{gamma-digits}
use Rattle.normal_form.specs.declared.entry.Entry.{Entry}
use Rattle.normal_form.specs.declared.entry.Entry.TheVariants.{At, Plus, Minus}
use Rattle.normal_form.specs.Assignments.{Assignment, number, place, places}
use Rattle.normal_form.specs.Forms.{Element}
use Rattle.normal_form.specs.Stands.{AreIndex, StandFor}
use Rattle.normal_form.specs.Kept.{AreEntries}
use Rattle.stride_form.specs.declared.facts.Fact.{Fact}
use Rattle.stride_form.specs.declared.facts.Fact.TheVariants.{Range, Alias, Offset, DigitOf}
use Rattle.stride_form.specs.declared.facts.Number.{Number}
use Rattle.stride_form.specs.Exact.{AreTrue, ComesTo, IsAmongThese, IsTrue, IsTrueNumber}
use Rattle.stride_form.specs.Facts.{Facts, at_zero, common, digit_in, digit_of, digits_of, int_equal, joined, lies, lying, resolved, same_entry}
use Rattle.stride_form.specs.Rules.{access_in, found_walk, load_walk}
use Rattle.stride_form.specs.Accesses.{place_of, walk_of}
use Rattle.stride_form.proofs.EntryLemmas.{entries-among, entry-comes, index-resolved, places-resolved, resolved-all}
use Rattle.stride_form.proofs.NeededLemmas.{same-variable}
use Rattle.stride_form.proofs.PlaceLemmas.{are-places, place-offset}

-- ---- tests

both-true : (a b : Bool) → (a && b) ≡ true → (a ≡ true) × (b ≡ true)
both-true true b h = (refl, h)
both-true false b h = absurd (cc)

at-most : (a b : ℤ) → int_le a b ≡ true → a ≤ℤ b
at-most a b h = grind (arith, ints, h)

less : (a b : ℤ) → int_lt a b ≡ true → (a +ℤ pos 1) ≤ℤ b
less a b h = grind (arith, ints, h)

equal-numbers : (a b : ℤ) → int_equal a b ≡ true → a ≡ b
equal-numbers a b h =
    let tests = both-true (int_le a b) (int_le b a) h in
    let low = at-most a b tests.0 in
    let high = at-most b a tests.1 in
    omega (arith, ints, low, high)

equal-entries : (one other : Entry) → same_entry one other ≡ true → one ≡ other
equal-entries (At constant) (At other) h = ap At (equal-numbers constant other h)
equal-entries (Plus var add) (Plus other more) h =
    let tests = both-true (var == other) (int_equal add more) h in
    ap₂ Plus (same-variable var other tests.0) (equal-numbers add more tests.1)
equal-entries (Minus var add) (Minus other more) h =
    let tests = both-true (var == other) (int_equal add more) h in
    ap₂ Minus (same-variable var other tests.0) (equal-numbers add more tests.1)
equal-entries (At constant) (Plus other more) h = absurd (cc)
equal-entries (At constant) (Minus other more) h = absurd (cc)
equal-entries (Plus var add) (At other) h = absurd (cc)
equal-entries (Plus var add) (Minus other more) h = absurd (cc)
equal-entries (Minus var add) (At other) h = absurd (cc)
equal-entries (Minus var add) (Plus other more) h = absurd (cc)

-- ---- the number that is found

-- a place is the digit of a true number
abbrev DigitFound : Assignment → List ℕ → ℕ → ℕ → ℕ → Option Number → Type 0
DigitFound m known k at n None = ⊤
DigitFound m known k at n (Some one) = IsTrueNumber m known one × (k ≡ digit (place m one.entry) at n)

-- places are the digits of a true number, or of any
abbrev Found : Assignment → List ℕ → List ℕ → List ℕ → Option (Option Number) → Type 0
Found m known index shape None = ⊤
Found m known index shape (Some None) = (k : ℕ) → index ≡ digits shape k
Found m known index shape (Some (Some one)) = IsTrueNumber m known one × (index ≡ digits shape (place m one.entry))

digit-choice : (m : Assignment) (known : List ℕ) (k at n : ℕ) (test : Bool) (one : Number)
    → (test ≡ true → DigitFound m known k at n (Some one)) → DigitFound m known k at n (if test then Some one else None)
digit-choice m known k at n true one h = h refl
digit-choice m known k at n false one h = tt

digit-in-found : (m : Assignment) (known : List ℕ) (var : ℕ) (fact : Fact) (at n : ℕ) → IsTrue m known var fact
    → DigitFound m known (m var) at n (digit_in fact at n)
digit-in-found m known var (Range low high) at n h = tt
digit-in-found m known var (Alias entry) at n h = tt
digit-in-found m known var (Offset count walk) at n h = tt
digit-in-found m known var (DigitOf of weight extent) at n h =
    digit-choice m known (m var) at n (weight == at && extent == n) of
    (λ same. let tests = both-true (weight == at) (extent == n) same in
    (h.0, h.1.0 ∙ ap₂ (digit (place m of.entry)) (same-variable weight at tests.0) (same-variable extent n tests.1)))

variable-place : (m : Assignment) (var : ℕ) → m var ≡ place m (Plus var (pos 0))
variable-place m var = let e : pos (m var) ≡ pos (m var) +ℤ pos 0 = omega (arith, ints) in ap unsigned_abs e

digit-found : (m : Assignment) (known : List ℕ) (facts : Facts) (entry : Entry) (at n : ℕ) → AreTrue m known facts → IsAmongThese known entry
    → DigitFound m known (place m entry) at n (digit_of facts entry at n)
digit-found m known facts (At constant) at n exact h = tt
digit-found m known facts (Plus var (pos zero)) at n exact h =
    subst (λ k. DigitFound m known k at n (digit_in (facts var) at n)) (variable-place m var)
    (digit-in-found m known var (facts var) at n (exact var h))
digit-found m known facts (Plus var (pos (suc add))) at n exact h = tt
digit-found m known facts (Plus var (negsuc add)) at n exact h = tt
digit-found m known facts (Minus var add) at n exact h = tt

-- on an axis with one item
zero-digit : (k weight n : ℕ) → (n == 1) ≡ true → 0 ≡ digit k weight n
zero-digit k weight n h = sym (ap (digit k weight) (same-variable n 1 h) ∙ mod-one (k / weight))

zero-found : (m : Assignment) (known index shape : List ℕ) (entry : Entry) (n : ℕ) (others : Option (Option Number)) → (n == 1) ≡ true
    → Found m known index shape others → Found m known (place m entry ∷ index) (n ∷ shape) (at_zero entry others)
zero-found m known index shape (At (pos zero)) n None one h = tt
zero-found m known index shape (At (pos zero)) n (Some None) one h =
    λ k. ap₂ (λ front back. front ∷ back) (zero-digit k (span shape) n one) (h k)
zero-found m known index shape (At (pos zero)) n (Some (Some number)) one h =
    (h.0, ap₂ (λ front back. front ∷ back) (zero-digit (place m number.entry) (span shape) n one) h.1)
zero-found m known index shape (At (pos (suc constant))) n others one h = tt
zero-found m known index shape (At (negsuc constant)) n others one h = tt
zero-found m known index shape (Plus var add) n others one h = tt
zero-found m known index shape (Minus var add) n others one h = tt

-- on another axis
agreed-found : (m : Assignment) (known index shape : List ℕ) (test : Bool) (number : Number)
    → (test ≡ true → Found m known index shape (Some (Some number)))
    → Found m known index shape (if test then Some (Some number) else None)
agreed-found m known index shape true number h = h refl
agreed-found m known index shape false number h = tt

joined-found : (m : Assignment) (known index shape : List ℕ) (k n : ℕ) (one : Option Number) (others : Option (Option Number))
    → DigitFound m known k (span shape) n one → Found m known index shape others → Found m known (k ∷ index) (n ∷ shape) (joined one others)
joined-found m known index shape k n None others h rest = tt
joined-found m known index shape k n (Some number) None h rest = tt
joined-found m known index shape k n (Some number) (Some None) h rest =
    (h.0, ap₂ (λ front back. front ∷ back) h.1 (rest (place m number.entry)))
joined-found m known index shape k n (Some number) (Some (Some other)) h rest =
    agreed-found m known (k ∷ index) (n ∷ shape) (same_entry number.entry other.entry) number
    (λ same. let e = equal-entries number.entry other.entry same in
    (h.0, ap₂ (λ front back. front ∷ back) h.1 (rest.1 ∙ ap (λ entry. digits shape (place m entry)) (sym e))))

found-choice : (m : Assignment) (known index shape : List ℕ) (test : Bool) (one other : Option (Option Number))
    → (test ≡ true → Found m known index shape one) → Found m known index shape other → Found m known index shape (if test then one else other)
found-choice m known index shape true one other h k = h refl
found-choice m known index shape false one other h k = k

common-found : (m : Assignment) (known : List ℕ) (facts : Facts) (entries : List Entry) (shape : List ℕ) → AreTrue m known facts
    → AllByRecursion (IsAmongThese known) entries → IsIndex (places m entries) shape
    → Found m known (places m entries) shape (common facts entries shape)
common-found m known facts [] [] exact h within = λ k. refl
common-found m known facts [] (n ∷ shape) exact h within = absurd within
common-found m known facts (entry ∷ entries) [] exact h within = absurd within
common-found m known facts (entry ∷ entries) (n ∷ shape) exact h within =
    found-choice m known (places m (entry ∷ entries)) (n ∷ shape) (n == 1) (at_zero entry (common facts entries shape))
    (joined (digit_of facts entry (span shape) n) (common facts entries shape))
    (λ one. zero-found m known (places m entries) shape entry n (common facts entries shape) one
    (common-found m known facts entries shape exact h.1 within.1))
    (joined-found m known (places m entries) shape (place m entry) n (digit_of facts entry (span shape) n) (common facts entries shape)
    (digit-found m known facts entry (span shape) n exact h.0) (common-found m known facts entries shape exact h.1 within.1))

-- a number that lies in the shape
chosen-number : (test : Bool) (number one : Number) → (if test then Some number else None) ≡ Some one → (test ≡ true) × (number ≡ one)
chosen-number true number one h = (refl, cc)
chosen-number false number one h = absurd (cc)

lying-found : (m : Assignment) (known index shape : List ℕ) (found : Option (Option Number)) (one : Number)
    → Found m known index shape found → lying (total shape) found ≡ Some one
    → Found m known index shape (Some (Some one)) × (lies one (total shape) ≡ true)
lying-found m known index shape None one h e = absurd (cc)
lying-found m known index shape (Some None) one h e = absurd (cc)
lying-found m known index shape (Some (Some number)) one h e =
    let r = chosen-number (lies number (total shape)) number one e in
    (subst (λ other. Found m known index shape (Some (Some other))) r.1 h, subst (λ other. lies other (total shape) ≡ true) r.1 r.0)

place-within : (m : Assignment) (known : List ℕ) (one : Number) (count : ℕ) → IsTrueNumber m known one → lies one count ≡ true
    → (number m one.entry ≡ pos (place m one.entry)) × (place m one.entry < count)
place-within m known one count h inside =
    let k = h.place.place in
    let stands : number m one.entry ≡ pos k = h.place.stands in
    let same : place m one.entry ≡ k = ap unsigned_abs stands in
    let tests = both-true (int_le (pos 0) one.least) (int_lt one.greatest (pos count)) inside in
    let top = less one.greatest (pos count) tests.1 in
    let most : pos k ≤ℤ one.greatest = subst (λ z. z ≤ℤ one.greatest) stands h.greatest in
    (stands ∙ ap pos (sym same), omega (arith, ints, same, top, most))

pub digits-number : (m : Assignment) (known : List ℕ) (facts : Facts) (entries : List Entry) (shape : List ℕ) (one : Number)
    → AreTrue m known facts → AllByRecursion (IsAmongThese known) entries → digits_of facts entries shape ≡ Some one
    → AreIndex m entries shape → IsTrueNumber m known one × (number m one.entry ≡ pos (gamma (places m entries) shape))
digits-number m known facts entries shape one exact among e fine =
    let element : Element = record { area = 0; shape = shape; at = entries } in
    let r = lying-found m known (places m entries) shape (common facts entries shape) one
    (common-found m known facts entries shape exact among (are-places m element fine)) e in
    let inside = place-within m known one (total shape) r.0.0 r.1 in
    (r.0.0, inside.0 ∙ ap pos (sym (ap (λ index. gamma index shape) r.0.1 ∙ gamma-digits shape (place m one.entry) inside.1)))

-- ---- loads

-- a place on one axis
one-axis : (k n : ℕ) → pos k ≡ pos (gamma (k ∷ []) (n ∷ []))
one-axis k n = let e : k ≡ k * 1 + 0 = omega arith in ap pos e

row-comes : (m : Assignment) (entries : List Entry) (shape : List ℕ) → AreIndex m entries shape
    → ComesTo m (walk_of entries shape) (pos (gamma (places m entries) shape))
row-comes m entries shape fine = let element : Element = record { area = 0; shape = shape; at = entries } in place-offset m element fine

first-place : (m : Assignment) (entry : Entry) (n : ℕ) → AreIndex m (entry ∷ []) (n ∷ []) → number m entry ≡ pos (place m entry)
first-place m entry n fine = stands-first fine.index fine.stand
  where
    stands-first : (index : List ℕ) → StandFor m (entry ∷ []) index → number m entry ≡ pos (place m entry)
    stands-first [] h = absurd (cc)
    stands-first (k ∷ index) h = let first : number m entry ≡ pos k = cc in first ∙ ap pos (sym (ap unsigned_abs first))

load-comes : (m : Assignment) (known : List ℕ) (facts : Facts) (entries : List Entry) (shape : List ℕ) → AreTrue m known facts
    → AllByRecursion (IsAmongThese known) entries → AreIndex m entries shape
    → ComesTo m (load_walk facts entries shape) (pos (gamma (places m entries) shape))
load-comes m known facts entries [] exact among fine = row-comes m entries [] fine
load-comes m known facts [] (n ∷ []) exact among fine =
    let element : Element = record { area = 0; shape = n ∷ []; at = [] } in absurd (are-places m element fine)
load-comes m known facts (entry ∷ []) (n ∷ []) exact among fine =
    entry-comes m known facts entry exact among.0 ∙ first-place m entry n fine ∙ one-axis (place m entry) n
load-comes m known facts (entry ∷ other ∷ entries) (n ∷ []) exact among fine =
    let element : Element = record { area = 0; shape = n ∷ []; at = entry ∷ other ∷ entries } in absurd ((are-places m element fine).1)
load-comes m known facts entries (n ∷ second ∷ shape) exact among fine = row-comes m entries (n ∷ second ∷ shape) fine

found-comes : (m : Assignment) (known : List ℕ) (facts : Facts) (entries : List Entry) (shape : List ℕ) (found : Option Number)
    → AreTrue m known facts → AllByRecursion (IsAmongThese known) entries → AreIndex m entries shape → digits_of facts entries shape ≡ found
    → ComesTo m (found_walk found (load_walk facts entries shape)) (pos (gamma (places m entries) shape))
found-comes m known facts entries shape None exact among fine e = load-comes m known facts entries shape exact among fine
found-comes m known facts entries shape (Some one) exact among fine e =
    let r = digits-number m known facts entries shape one exact among e fine in r.0.walk ∙ r.1

pub access-offset : (m : Assignment) (known : List ℕ) (facts : Facts) (element : Element) → AreTrue m known facts
    → AreEntries known element.at element.shape → AreIndex m element.at element.shape
    → place_of m (access_in facts element) ≡ pos (gamma (places m element.at) element.shape)
access-offset m known facts element exact kept fine =
    let among = entries-among known element.at element.shape kept in
    found-comes m known facts (map (resolved facts) element.at) element.shape
    (digits_of facts (map (resolved facts) element.at) element.shape) exact (resolved-all m known facts element.at exact among)
    (index-resolved m known facts element.at element.shape exact among fine) refl
    ∙ ap (λ index. pos (gamma index element.shape)) (places-resolved m known facts element.at exact among)

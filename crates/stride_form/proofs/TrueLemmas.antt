-- What is known of variables stays true under bindings, and what is known of a variable that is bound is true.
use Rattle.std.specs.Prelude.{◌≡◌, ℕ, zero, suc, ◌+◌, ◌<◌, ◌≤◌, ◌==◌, ◌&&◌, ◌/◌, Bool, true, false, ℤ, pos, negsuc, ◌+ℤ◌, ◌-ℤ◌, ◌*ℤ◌, ◌≤ℤ◌, List, []}
use Rattle.std.specs.Prelude.{◌∷◌, length, map, slice_index_or, unsigned_abs, if◌then◌else◌, nat_lt, ⊤}
use Rattle.std.specs.List.{AllByRecursion, Contains, range_with_len}
use Rattle.std.specs.declared.option.Option.{Option}
use Rattle.std.specs.declared.option.Option.TheVariants.{None, Some}
use Rattle.std.proofs.Common.{refl, sym, ap, ap₂, subst, ◌∙◌, arith, mod-lt}
use Rattle.std.proofs.lemmas.Int.{ints}
use Rattle.std.proofs.lemmas.List.Elements.{All-contains, All-from_recursion}
use Rattle.shapes_core.specs.Gamma.{digit, gamma}
use Rattle.shapes_core.specs.Limits.{greatest_extent}
use Rattle.shapes_core.specs.Shape.{span, total}
use Rattle.shapes_core.proofs.GammaLemmas.{gamma-below}
use Rattle.moa_tree.specs.Axes.{turned}
use Rattle.normal_form.specs.declared.entry.Entry.{Entry}
use Rattle.normal_form.specs.declared.entry.Entry.TheVariants.{At, Plus, Minus}
use Rattle.normal_form.specs.declared.term.Bind.{Bind}
use Rattle.normal_form.specs.declared.term.Bind.TheVariants.{Turn, Flat, Digit}
use Rattle.normal_form.specs.Assignments.{Assignment, assigned, bound, bound_to, number, place, places}
use Rattle.normal_form.specs.Forms.{Element}
use Rattle.normal_form.specs.Kept.{IsBinding, IsBox, IsInBox, job_variables}
use Rattle.normal_form.specs.Moves.{minus_entry, raised}
use Rattle.normal_form.specs.Stands.{AreIndex, IsFineBinding, IsPlace}
use Rattle.stride_form.specs.declared.facts.Fact.{Fact}
use Rattle.stride_form.specs.declared.facts.Fact.TheVariants.{Range, Alias, Offset, DigitOf}
use Rattle.stride_form.specs.declared.facts.Number.{Number}
use Rattle.stride_form.specs.declared.walk.Walk.{Walk}
use Rattle.stride_form.specs.Accesses.{Steps, walk_of, walked, with_stride}
use Rattle.stride_form.specs.Exact.{AreTrue, ComesTo, IsAmongThese, IsTrue, IsTrueNumber}
use Rattle.stride_form.specs.Facts.{Facts, at_zero, common, digit_fact, digit_in, digit_of, digits_of, fact_of, greatest_of, high_of, in_minus}
use Rattle.stride_form.specs.Facts.{in_plus, joined, knowing, least_of, lies, low_of, lying, number_of, offset_fact, plain_walk, resolved, same_entry}
use Rattle.stride_form.specs.Facts.{starting, walk_at}
use Rattle.stride_form.specs.Kept.{AreSteps}
use Rattle.stride_form.specs.Rules.{resolved_bind}
use Rattle.stride_form.proofs.EntryLemmas.{entries-among, entry-among, entry-comes, entry-same, index-resolved, places-resolved, resolved-all}
use Rattle.stride_form.proofs.FoundLemmas.{digits-number}
use Rattle.stride_form.proofs.NeededLemmas.{same-one, same-variable, true-false}
use Rattle.stride_form.proofs.PlaceLemmas.{are-places, place-offset}

-- ---- entries that are not over a variable that stands for another entry
-- No range is told of a variable that stands for another entry, so an entry of which one is told must not be over it. What is put in the place of
-- such a variable never is.

abbrev pub IsOwn : Fact → Type 0
IsOwn (Range low high) = ⊤
IsOwn (Alias entry) = ⊥
IsOwn (Offset total walk) = ⊤
IsOwn (DigitOf of weight extent) = ⊤

abbrev pub IsDirect : List ℕ → Facts → Entry → Type 0
IsDirect known facts (At constant) = ⊤
IsDirect known facts (Plus var add) = Contains known var × IsOwn (facts var)
IsDirect known facts (Minus var add) = Contains known var × IsOwn (facts var)

abbrev pub IsSettled : List ℕ → Facts → Fact → Type 0
IsSettled known facts (Range low high) = ⊤
IsSettled known facts (Alias entry) = IsDirect known facts entry
IsSettled known facts (Offset total walk) = ⊤
IsSettled known facts (DigitOf of weight extent) = IsDirect known facts of.entry

-- what is known of variables is true, and of each entry it is said of variables that stand for themselves
pub record Known (m : Assignment) (known : List ℕ) (facts : Facts) : Type 0 where
  pub exact : AreTrue m known facts
  pub settled : (var : ℕ) → Contains known var → IsSettled known facts (facts var)

-- ---- more variables

abbrev Extends : List ℕ → List ℕ → Type 0
Extends known further = (var : ℕ) → Contains known var → Contains further var

abbrev Matches : List ℕ → Assignment → Assignment → Type 0
Matches known m n = (var : ℕ) → Contains known var → m var ≡ n var

extends-next : (next : ℕ) (known : List ℕ) → Extends known (next ∷ known)
extends-next next known var here = (suc here.0, omega (arith, here.1), here.2)

among-wider : (known further : List ℕ) (entry : Entry) → Extends known further → IsAmongThese known entry → IsAmongThese further entry
among-wider known further (At constant) more h = tt
among-wider known further (Plus var add) more h = more var h
among-wider known further (Minus var add) more h = more var h

steps-wider : (known further : List ℕ) (steps : Steps) → Extends known further → AreSteps known steps → AreSteps further steps
steps-wider known further [] more h = tt
steps-wider known further (first ∷ others) more h = (more first.0 h.0, steps-wider known further others more h.1)

number-known : (m n : Assignment) (known : List ℕ) (entry : Entry) → Matches known m n → IsAmongThese known entry
    → number m entry ≡ number n entry
number-known m n known (At constant) same h = refl
number-known m n known (Plus var add) same h = ap (λ k. pos k +ℤ add) (same var h)
number-known m n known (Minus var add) same h = ap (λ k. add -ℤ pos k) (same var h)

walked-known : (m n : Assignment) (known : List ℕ) (steps : Steps) → Matches known m n → AreSteps known steps → walked m steps ≡ walked n steps
walked-known m n known [] same h = refl
walked-known m n known (first ∷ others) same h =
    ap₂ (λ k z. first.1 *ℤ pos k +ℤ z) (same first.0 h.0) (walked-known m n known others same h.1)

comes-known : (m n : Assignment) (known : List ℕ) (walk : Walk) (y z : ℤ) → Matches known m n → AreSteps known walk.strides → y ≡ z
    → ComesTo m walk y → ComesTo n walk z
comes-known m n known walk y z same over equal h =
    ap (λ x. walk.start +ℤ x) (sym (walked-known m n known walk.strides same over)) ∙ h ∙ equal

true-number : (m n : Assignment) (known further : List ℕ) (one : Number) → Matches known m n → Extends known further
    → IsTrueNumber m known one → IsTrueNumber n further one
true-number m n known further one same more h =
    let equal = number-known m n known one.entry same h.among in
    record {
      among = among-wider known further one.entry more h.among;
      over = steps-wider known further one.walk.strides more h.over;
      place = record { place = h.place.place; stands = sym equal ∙ h.place.stands };
      least = subst (λ z. one.least ≤ℤ z) equal h.least;
      greatest = subst (λ z. z ≤ℤ one.greatest) equal h.greatest;
      walk = comes-known m n known one.walk (number m one.entry) (number n one.entry) same h.over equal h.walk;
    }

-- what is known of a variable that stands for this number
abbrev Holds : Assignment → List ℕ → ℕ → Fact → Type 0
Holds m known k (Range low high) = (low ≤ k) × (k < high)
Holds m known k (Alias entry) = IsAmongThese known entry × (number m entry ≡ pos k)
Holds m known k (Offset count walk) = (k < count) × (AreSteps known walk.strides × ComesTo m walk (pos k))
Holds m known k (DigitOf of weight extent) = IsTrueNumber m known of × ((k ≡ digit (place m of.entry) weight extent) × (k < extent))

holds-there : (m : Assignment) (known : List ℕ) (var : ℕ) (fact : Fact) → IsTrue m known var fact → Holds m known (m var) fact
holds-there m known var (Range low high) h = h
holds-there m known var (Alias entry) h = h
holds-there m known var (Offset count walk) h = h
holds-there m known var (DigitOf of weight extent) h = h

true-there : (m : Assignment) (known : List ℕ) (var : ℕ) (fact : Fact) → Holds m known (m var) fact → IsTrue m known var fact
true-there m known var (Range low high) h = h
true-there m known var (Alias entry) h = h
true-there m known var (Offset count walk) h = h
true-there m known var (DigitOf of weight extent) h = h

holds-wider : (m n : Assignment) (known further : List ℕ) (k : ℕ) (fact : Fact) → Matches known m n → Extends known further
    → Holds m known k fact → Holds n further k fact
holds-wider m n known further k (Range low high) same more h = h
holds-wider m n known further k (Alias entry) same more h =
    (among-wider known further entry more h.0, sym (number-known m n known entry same h.0) ∙ h.1)
holds-wider m n known further k (Offset count walk) same more h =
    (h.0, (steps-wider known further walk.strides more h.1.0, comes-known m n known walk (pos k) (pos k) same h.1.0 refl h.1.1))
holds-wider m n known further k (DigitOf of weight extent) same more h = (
  true-number m n known further of same more h.0,
  (h.1.0 ∙ ap (λ z. digit (unsigned_abs z) weight extent) (number-known m n known of.entry same h.0.among), h.1.1),
)

-- ---- one more variable

-- one of the variables but not the new one is known before
known-before : (var v : ℕ) (known : List ℕ) (k : ℕ) → (v == var) ≡ false → k < length (var ∷ known) → slice_index_or (var ∷ known) k v ≡ v
    → Contains known v
known-before var v known zero other within there =
    absurd (true-false (sym (subst (λ x. (v == x) ≡ true) (sym there) (same-one v)) ∙ other))
known-before var v known (suc k) other within there = (k, omega (arith, within), there)

matches-bound : (m : Assignment) (known : List ℕ) (var k : ℕ) → (Contains known var → ⊥) → Matches known m (bound m var k)
matches-bound m known var k new v here = rest (v == var) (λ same. subst (Contains known) (same-variable v var same) here)
  where
    rest : (test : Bool) → (test ≡ true → Contains known var) → m v ≡ (if test then k else m v)
    rest true there = absurd (new (there refl))
    rest false there = refl

holds-choice : (n : Assignment) (further : List ℕ) (test : Bool) (j k : ℕ) (fact other : Fact)
    → (test ≡ true → Holds n further j fact) → (test ≡ false → Holds n further k other)
    → Holds n further (if test then j else k) (if test then fact else other)
holds-choice n further true j k fact other first second = first refl
holds-choice n further false j k fact other first second = second refl

true-bound : (m : Assignment) (known : List ℕ) (facts : Facts) (var k : ℕ) (fact : Fact) → AreTrue m known facts → (Contains known var → ⊥)
    → Holds m known k fact → AreTrue (bound m var k) (var ∷ known) (knowing facts var fact)
true-bound m known facts var k fact h new holds v here =
    true-there (bound m var k) (var ∷ known) v (knowing facts var fact v)
    (holds-choice (bound m var k) (var ∷ known) (v == var) k (m v) fact (facts v)
    (λ same. holds-wider m (bound m var k) known (var ∷ known) k fact (matches-bound m known var k new) (extends-next var known) holds)
    (λ other. holds-wider m (bound m var k) known (var ∷ known) (m v) (facts v)
    (matches-bound m known var k new) (extends-next var known)
    (holds-there m known v (facts v) (h v (known-before var v known here.0 other here.1 here.2)))))

own-bound : (facts : Facts) (var v : ℕ) (known : List ℕ) (fact : Fact) → (Contains known var → ⊥) → Contains known v → IsOwn (facts v)
    → IsOwn (knowing facts var fact v)
own-bound facts var v known fact new here own = rest (v == var) (λ same. subst (Contains known) (same-variable v var same) here)
  where
    rest : (test : Bool) → (test ≡ true → Contains known var) → IsOwn (if test then fact else facts v)
    rest true there = absurd (new (there refl))
    rest false there = own

direct-bound : (known : List ℕ) (facts : Facts) (var : ℕ) (fact : Fact) (entry : Entry) → (Contains known var → ⊥)
    → IsDirect known facts entry → IsDirect (var ∷ known) (knowing facts var fact) entry
direct-bound known facts var fact (At constant) new h = tt
direct-bound known facts var fact (Plus v add) new h = (extends-next var known v h.0, own-bound facts var v known fact new h.0 h.1)
direct-bound known facts var fact (Minus v add) new h = (extends-next var known v h.0, own-bound facts var v known fact new h.0 h.1)

settled-bound : (known : List ℕ) (facts : Facts) (var : ℕ) (fact one : Fact) → (Contains known var → ⊥)
    → IsSettled known facts one → IsSettled (var ∷ known) (knowing facts var fact) one
settled-bound known facts var fact (Range low high) new h = tt
settled-bound known facts var fact (Alias entry) new h = direct-bound known facts var fact entry new h
settled-bound known facts var fact (Offset count walk) new h = tt
settled-bound known facts var fact (DigitOf of weight extent) new h = direct-bound known facts var fact of.entry new h

settled-choice : (known : List ℕ) (facts : Facts) (test : Bool) (fact other : Fact) → (test ≡ true → IsSettled known facts fact)
    → (test ≡ false → IsSettled known facts other) → IsSettled known facts (if test then fact else other)
settled-choice known facts true fact other first second = first refl
settled-choice known facts false fact other first second = second refl

known-bound : (m : Assignment) (known : List ℕ) (facts : Facts) (var k : ℕ) (fact : Fact) → Known m known facts → (Contains known var → ⊥)
    → Holds m known k fact → IsSettled known facts fact → Known (bound m var k) (var ∷ known) (knowing facts var fact)
known-bound m known facts var k fact h new holds settled = record {
  exact = true-bound m known facts var k fact h.exact new holds;
  settled = λ v here. settled-choice (var ∷ known) (knowing facts var fact) (v == var) fact (facts v)
      (λ same. settled-bound known facts var fact fact new settled)
      (λ other. settled-bound known facts var fact (facts v) new (h.settled v (known-before var v known here.0 other here.1 here.2)));
}

-- ---- bindings

pub same-bound : (m : Assignment) (known : List ℕ) (facts : Facts) (bind : Bind) → AreTrue m known facts
    → IsBinding known bind → bound_to m (resolved_bind facts bind) ≡ bound_to m bind
same-bound m known facts (Turn of by extent) exact h =
    ap (λ z. turned (pos by) extent (unsigned_abs z)) (entry-same m known facts of exact (entry-among known of extent h.0))
same-bound m known facts (Flat of shape) exact h =
    ap (λ index. gamma index shape) (places-resolved m known facts of exact (entries-among known of shape h.0))
same-bound m known facts (Digit of weight extent) exact h =
    ap (λ z. digit (unsigned_abs z) weight extent) (entry-same m known facts of exact (entry-among known of greatest_extent h.0))

pub fine-bound : (m : Assignment) (known : List ℕ) (facts : Facts) (bind : Bind) → AreTrue m known facts
    → IsBinding known bind → IsFineBinding m bind → IsFineBinding m (resolved_bind facts bind)
fine-bound m known facts (Turn of by extent) exact h fine = (
  record {
    place = fine.0.place;
    stands = entry-same m known facts of exact (entry-among known of extent h.0) ∙ fine.0.stands;
    below = fine.0.below;
  },
  fine.1,
)
fine-bound m known facts (Flat of shape) exact h fine =
    index-resolved m known facts of shape exact (entries-among known of shape h.0) fine
fine-bound m known facts (Digit of weight extent) exact h fine = (
  record {
    place = fine.0.place;
    stands = entry-same m known facts of exact (entry-among known of greatest_extent h.0) ∙ fine.0.stands;
  },
  fine.1,
)

pub known-fold : (m : Assignment) (known : List ℕ) (facts : Facts) (var low high k : ℕ) → Known m known facts
    → (Contains known var → ⊥) → low ≤ k → k < high → Known (bound m var k) (var ∷ known) (knowing facts var (Range low high))
known-fold m known facts var low high k h new least below = known-bound m known facts var k (Range low high) h new (least, below) tt

-- ---- the fact of a binding is true

-- the variables of strides are those of entries
steps-choice : (known : List ℕ) (var : ℕ) (stride : ℤ) (first : ℕ × ℤ) (others more : Steps) (same below : Bool)
    → Contains known var → AreSteps known (first ∷ others) → (same ≡ true → var ≡ first.0) → AreSteps known more
    → AreSteps known (if same then (var, first.1 +ℤ stride) ∷ others else (if below then (var, stride) ∷ first ∷ others else first ∷ more))
steps-choice known var stride first others more true below here old same later = (here, old.1)
steps-choice known var stride first others more false true here old same later = (here, old)
steps-choice known var stride first others more false false here old same later = (old.0, later)

steps-with : (known : List ℕ) (var : ℕ) (stride : ℤ) (steps : Steps) → Contains known var → AreSteps known steps
    → AreSteps known (with_stride var stride steps)
steps-with known var stride [] here old = (here, tt)
steps-with known var stride (first ∷ others) here old =
    steps-choice known var stride first others (with_stride var stride others) (var == first.0) (nat_lt var first.0)
    here old (same-variable var first.0) (steps-with known var stride others here old.1)

walk-over : (known : List ℕ) (entries : List Entry) (shape : List ℕ) → AllByRecursion (IsAmongThese known) entries
    → AreSteps known (walk_of entries shape).strides
walk-over known [] shape h = tt
walk-over known (entry ∷ entries) [] h = tt
walk-over known (At constant ∷ entries) (n ∷ shape) h = walk-over known entries shape h.1
walk-over known (Plus var add ∷ entries) (n ∷ shape) h =
    steps-with known var (pos (total shape)) (walk_of entries shape).strides h.0 (walk-over known entries shape h.1)
walk-over known (Minus var add ∷ entries) (n ∷ shape) h =
    steps-with known var (pos 0 -ℤ pos (total shape)) (walk_of entries shape).strides h.0 (walk-over known entries shape h.1)

-- the offset of a load of one axis is over variables that are known
plain-over : (m : Assignment) (known : List ℕ) (var k : ℕ) (fact : Fact) → Contains known var → Holds m known k fact
    → AreSteps known (plain_walk fact var).strides
plain-over m known var k (Range low high) here h = (here, tt)
plain-over m known var k (Alias entry) here h = (here, tt)
plain-over m known var k (Offset count walk) here h = h.1.0
plain-over m known var k (DigitOf of weight extent) here h = (here, tt)

own-over : (m : Assignment) (known : List ℕ) (facts : Facts) (entry : Entry) → AreTrue m known facts → IsAmongThese known entry
    → AreSteps known (walk_at facts entry).strides
own-over m known facts (At constant) exact h = tt
own-over m known facts (Plus var (pos zero)) exact h =
    plain-over m known var (m var) (facts var) h (holds-there m known var (facts var) (exact var h))
own-over m known facts (Plus var (pos (suc add))) exact h = (h, tt)
own-over m known facts (Plus var (negsuc add)) exact h = (h, tt)
own-over m known facts (Minus var add) exact h = (h, tt)

-- the range of a variable that stands for itself
in-range : (m : Assignment) (known : List ℕ) (k : ℕ) (fact : Fact) → IsOwn fact → Holds m known k fact → (low_of fact ≤ k) × (k < high_of fact)
in-range m known k (Range low high) own h = h
in-range m known k (Alias entry) own h = absurd own
in-range m known k (Offset count walk) own h = (omega arith, h.0)
in-range m known k (DigitOf of weight extent) own h = (omega arith, h.1.1)

among-direct : (known : List ℕ) (facts : Facts) (entry : Entry) → IsDirect known facts entry → IsAmongThese known entry
among-direct known facts (At constant) h = tt
among-direct known facts (Plus var add) h = h.0
among-direct known facts (Minus var add) h = h.0

least-true : (m : Assignment) (known : List ℕ) (facts : Facts) (entry : Entry) → AreTrue m known facts → IsDirect known facts entry
    → (least_of facts entry ≤ℤ number m entry) × (number m entry ≤ℤ greatest_of facts entry)
least-true m known facts (At constant) exact h = (omega (arith, ints), omega (arith, ints))
least-true m known facts (Plus var add) exact h =
    let range = in-range m known (m var) (facts var) h.1 (holds-there m known var (facts var) (exact var h.0)) in
    (omega (arith, ints, range.0), omega (arith, ints, range.1))
least-true m known facts (Minus var add) exact h =
    let range = in-range m known (m var) (facts var) h.1 (holds-there m known var (facts var) (exact var h.0)) in
    (omega (arith, ints, range.1), omega (arith, ints, range.0))

number-true : (m : Assignment) (known : List ℕ) (facts : Facts) (entry : Entry) → AreTrue m known facts
    → IsDirect known facts entry → IsPlace m entry → IsTrueNumber m known (number_of facts entry)
number-true m known facts entry exact direct fine =
    let among = among-direct known facts entry direct in
    let range = least-true m known facts entry exact direct in
    record {
      among = among;
      over = own-over m known facts entry exact among;
      place = fine;
      least = range.0;
      greatest = range.1;
      walk = entry-comes m known facts entry exact among;
    }

digit-holds : (m : Assignment) (known : List ℕ) (facts : Facts) (entry : Entry) (weight extent : ℕ) → AreTrue m known facts
    → IsDirect known facts entry → IsPlace m entry → 0 < extent
    → Holds m known (digit (place m entry) weight extent) (digit_fact facts entry weight extent)
digit-holds m known facts (At constant) weight extent exact direct fine some = (omega arith, mod-lt (place m (At constant) / weight) some)
digit-holds m known facts (Plus var add) weight extent exact direct fine some =
    (number-true m known facts (Plus var add) exact direct fine, (refl, mod-lt (place m (Plus var add) / weight) some))
digit-holds m known facts (Minus var add) weight extent exact direct fine some =
    (number-true m known facts (Minus var add) exact direct fine, (refl, mod-lt (place m (Minus var add) / weight) some))

-- entries with what is known in the place of variables are over variables that stand for themselves
raised-direct : (known : List ℕ) (facts : Facts) (by : ℤ) (entry : Entry) → IsDirect known facts entry → IsDirect known facts (raised by entry)
raised-direct known facts by (At constant) h = tt
raised-direct known facts by (Plus var add) h = h
raised-direct known facts by (Minus var add) h = h

minus-direct : (known : List ℕ) (facts : Facts) (from : ℤ) (entry : Entry) → IsDirect known facts entry
    → IsDirect known facts (minus_entry from entry)
minus-direct known facts from (At constant) h = tt
minus-direct known facts from (Plus var add) h = h
minus-direct known facts from (Minus var add) h = h

in-plus-direct : (known : List ℕ) (facts : Facts) (var : ℕ) (add : ℤ) (fact : Fact) → facts var ≡ fact → Contains known var
    → IsSettled known facts fact → IsDirect known facts (in_plus fact var add)
in-plus-direct known facts var add (Range low high) e here h = (here, subst IsOwn (sym e) tt)
in-plus-direct known facts var add (Alias entry) e here h = raised-direct known facts add entry h
in-plus-direct known facts var add (Offset count walk) e here h = (here, subst IsOwn (sym e) tt)
in-plus-direct known facts var add (DigitOf of weight extent) e here h = (here, subst IsOwn (sym e) tt)

in-minus-direct : (known : List ℕ) (facts : Facts) (var : ℕ) (add : ℤ) (fact : Fact) → facts var ≡ fact → Contains known var
    → IsSettled known facts fact → IsDirect known facts (in_minus fact var add)
in-minus-direct known facts var add (Range low high) e here h = (here, subst IsOwn (sym e) tt)
in-minus-direct known facts var add (Alias entry) e here h = minus-direct known facts add entry h
in-minus-direct known facts var add (Offset count walk) e here h = (here, subst IsOwn (sym e) tt)
in-minus-direct known facts var add (DigitOf of weight extent) e here h = (here, subst IsOwn (sym e) tt)

abbrev AreSettled : List ℕ → Facts → Type 0
AreSettled known facts = (var : ℕ) → Contains known var → IsSettled known facts (facts var)

resolved-direct : (known : List ℕ) (facts : Facts) (entry : Entry) → AreSettled known facts → IsAmongThese known entry
    → IsDirect known facts (resolved facts entry)
resolved-direct known facts (At constant) settled h = tt
resolved-direct known facts (Plus var add) settled h = in-plus-direct known facts var add (facts var) refl h (settled var h)
resolved-direct known facts (Minus var add) settled h = in-minus-direct known facts var add (facts var) refl h (settled var h)

offset-holds : (m : Assignment) (known : List ℕ) (facts : Facts) (entries : List Entry) (shape : List ℕ) (k : ℕ)
    (found : Option Number) → AreTrue m known facts → AllByRecursion (IsAmongThese known) entries → AreIndex m entries shape
    → gamma (places m entries) shape ≡ k → digits_of facts entries shape ≡ found → Holds m known k (offset_fact found entries shape)
offset-holds m known facts entries shape k (Some one) exact among fine same e =
    let r = digits-number m known facts entries shape one exact among e fine in
    (r.0.among, r.1 ∙ ap pos same)
offset-holds m known facts entries shape k None exact among fine same e =
    let element : Element = record { area = 0; shape = shape; at = entries } in (
      subst (λ j. j < total shape) same (gamma-below (places m entries) shape (are-places m element fine)),
      (walk-over known entries shape among, place-offset m element fine ∙ ap pos same),
    )

fact-holds : (m : Assignment) (known : List ℕ) (facts : Facts) (bind : Bind) → Known m known facts → IsBinding known bind
    → IsFineBinding m bind → Holds m known (bound_to m bind) (fact_of facts (resolved_bind facts bind))
fact-holds m known facts (Turn of by extent) h kept fine =
    (omega arith, mod-lt (place m of + by) (omega (arith, fine.1)))
fact-holds m known facts (Flat of shape) h kept fine =
    let among = entries-among known of shape kept.0 in
    offset-holds m known facts (map (resolved facts) of) shape (gamma (places m of) shape) (digits_of facts (map (resolved facts) of) shape)
    h.exact (resolved-all m known facts of h.exact among) (index-resolved m known facts of shape h.exact among fine)
    (ap (λ index. gamma index shape) (places-resolved m known facts of h.exact among)) refl
fact-holds m known facts (Digit of weight extent) h kept fine =
    let among = entry-among known of greatest_extent kept.0 in
    let same = entry-same m known facts of h.exact among in
    subst (λ z. Holds m known (digit (unsigned_abs z) weight extent) (digit_fact facts (resolved facts of) weight extent)) same
    (digit-holds m known facts (resolved facts of) weight extent h.exact (resolved-direct known facts of h.settled among)
    (record { place = fine.0.place; stands = same ∙ fine.0.stands }) fine.1.1)

-- ---- the number of which entries are the digits is over a variable that stands for itself

abbrev MayBeDirect : List ℕ → Facts → Option Number → Type 0
MayBeDirect known facts None = ⊤
MayBeDirect known facts (Some one) = IsDirect known facts one.entry

abbrev AllBeDirect : List ℕ → Facts → Option (Option Number) → Type 0
AllBeDirect known facts None = ⊤
AllBeDirect known facts (Some found) = MayBeDirect known facts found

may-choose : (known : List ℕ) (facts : Facts) (test : Bool) (one other : Option Number) → MayBeDirect known facts one → MayBeDirect known facts other
    → MayBeDirect known facts (if test then one else other)
may-choose known facts true one other h k = h
may-choose known facts false one other h k = k

all-choose : (known : List ℕ) (facts : Facts) (test : Bool) (one other : Option (Option Number)) → AllBeDirect known facts one
    → AllBeDirect known facts other → AllBeDirect known facts (if test then one else other)
all-choose known facts true one other h k = h
all-choose known facts false one other h k = k

digit-in-direct : (known : List ℕ) (facts : Facts) (fact : Fact) (at n : ℕ) → IsSettled known facts fact → MayBeDirect known facts (digit_in fact at n)
digit-in-direct known facts (Range low high) at n h = tt
digit-in-direct known facts (Alias entry) at n h = tt
digit-in-direct known facts (Offset count walk) at n h = tt
digit-in-direct known facts (DigitOf of weight extent) at n h = may-choose known facts (weight == at && extent == n) (Some of) None h tt

digit-direct : (known : List ℕ) (facts : Facts) (entry : Entry) (at n : ℕ) → AreSettled known facts → IsAmongThese known entry
    → MayBeDirect known facts (digit_of facts entry at n)
digit-direct known facts (At constant) at n settled h = tt
digit-direct known facts (Plus var (pos zero)) at n settled h = digit-in-direct known facts (facts var) at n (settled var h)
digit-direct known facts (Plus var (pos (suc add))) at n settled h = tt
digit-direct known facts (Plus var (negsuc add)) at n settled h = tt
digit-direct known facts (Minus var add) at n settled h = tt

joined-direct : (known : List ℕ) (facts : Facts) (one : Option Number) (others : Option (Option Number)) → MayBeDirect known facts one
    → AllBeDirect known facts (joined one others)
joined-direct known facts None others h = tt
joined-direct known facts (Some number) None h = tt
joined-direct known facts (Some number) (Some None) h = h
joined-direct known facts (Some number) (Some (Some other)) h =
    all-choose known facts (same_entry number.entry other.entry) (Some (Some number)) None h tt

zero-direct : (known : List ℕ) (facts : Facts) (entry : Entry) (others : Option (Option Number)) → AllBeDirect known facts others
    → AllBeDirect known facts (at_zero entry others)
zero-direct known facts (At (pos zero)) others h = h
zero-direct known facts (At (pos (suc constant))) others h = tt
zero-direct known facts (At (negsuc constant)) others h = tt
zero-direct known facts (Plus var add) others h = tt
zero-direct known facts (Minus var add) others h = tt

common-direct : (known : List ℕ) (facts : Facts) (entries : List Entry) (shape : List ℕ) → AreSettled known facts
    → AllByRecursion (IsAmongThese known) entries → AllBeDirect known facts (common facts entries shape)
common-direct known facts [] shape settled h = tt
common-direct known facts (entry ∷ entries) [] settled h = tt
common-direct known facts (entry ∷ entries) (n ∷ shape) settled h =
    all-choose known facts (n == 1) (at_zero entry (common facts entries shape))
    (joined (digit_of facts entry (span shape) n) (common facts entries shape))
    (zero-direct known facts entry (common facts entries shape) (common-direct known facts entries shape settled h.1))
    (joined-direct known facts (digit_of facts entry (span shape) n) (common facts entries shape)
    (digit-direct known facts entry (span shape) n settled h.0))

lying-direct : (known : List ℕ) (facts : Facts) (count : ℕ) (found : Option (Option Number)) → AllBeDirect known facts found
    → MayBeDirect known facts (lying count found)
lying-direct known facts count None h = tt
lying-direct known facts count (Some None) h = tt
lying-direct known facts count (Some (Some number)) h = may-choose known facts (lies number count) (Some number) None h tt

offset-settled : (known : List ℕ) (facts : Facts) (entries : List Entry) (shape : List ℕ) (found : Option Number) → MayBeDirect known facts found
    → IsSettled known facts (offset_fact found entries shape)
offset-settled known facts entries shape None h = tt
offset-settled known facts entries shape (Some one) h = h

digit-settled : (known : List ℕ) (facts : Facts) (entry : Entry) (weight extent : ℕ) → IsDirect known facts entry
    → IsSettled known facts (digit_fact facts entry weight extent)
digit-settled known facts (At constant) weight extent h = tt
digit-settled known facts (Plus var add) weight extent h = h
digit-settled known facts (Minus var add) weight extent h = h

fact-settled : (m : Assignment) (known : List ℕ) (facts : Facts) (bind : Bind) → Known m known facts → IsBinding known bind
    → IsSettled known facts (fact_of facts (resolved_bind facts bind))
fact-settled m known facts (Turn of by extent) h kept = tt
fact-settled m known facts (Flat of shape) h kept =
    let among = resolved-all m known facts of h.exact (entries-among known of shape kept.0) in
    offset-settled known facts (map (resolved facts) of) shape (digits_of facts (map (resolved facts) of) shape)
    (lying-direct known facts (total shape) (common facts (map (resolved facts) of) shape)
    (common-direct known facts (map (resolved facts) of) shape h.settled among))
fact-settled m known facts (Digit of weight extent) h kept =
    digit-settled known facts (resolved facts of) weight extent
    (resolved-direct known facts of h.settled (entry-among known of greatest_extent kept.0))

pub known-let : (m : Assignment) (known : List ℕ) (facts : Facts) (var : ℕ) (bind : Bind) → Known m known facts
    → (Contains known var → ⊥) → IsBinding known bind → IsFineBinding m bind
    → Known (bound m var (bound_to m bind)) (var ∷ known) (knowing facts var (fact_of facts (resolved_bind facts bind)))
known-let m known facts var bind h new kept fine =
    known-bound m known facts var (bound_to m bind) (fact_of facts (resolved_bind facts bind)) h new
    (fact-holds m known facts bind h kept fine) (fact-settled m known facts bind h kept)

-- ---- the start

range-below : (from count : ℕ) (last : ℕ) → from + count ≤ last → AllByRecursion (λ v. v < last) (range_with_len from count)
range-below from zero last h = tt
range-below from (suc count) last h = (omega (arith, h), range-below (from + 1) count last (omega (arith, h)))

start-holds : (m : Assignment) (known index : List ℕ) (region : List (ℕ × ℕ)) (shape : List ℕ) (var : ℕ) → IsBox region shape
    → IsInBox index region → var < length shape → Holds m known (slice_index_or index var 0) (starting region var)
start-holds m known index [] [] var box inside below = absurd (omega (arith, below))
start-holds m known index [] (n ∷ shape) var box inside below = absurd box
start-holds m known index (pair ∷ region) [] var box inside below = absurd box
start-holds m known [] (pair ∷ region) (n ∷ shape) var box inside below = absurd inside
start-holds m known (k ∷ index) (pair ∷ region) (n ∷ shape) zero box inside below = inside.0
start-holds m known (k ∷ index) (pair ∷ region) (n ∷ shape) (suc var) box inside below =
    start-holds m known index region shape var box.1 inside.1 (omega (arith, below))

start-settled : (known : List ℕ) (facts : Facts) (region : List (ℕ × ℕ)) (var : ℕ) → IsSettled known facts (starting region var)
start-settled known facts [] var = tt
start-settled known facts (pair ∷ region) zero = tt
start-settled known facts (pair ∷ region) (suc var) = start-settled known facts region var

pub known-start : (index : List ℕ) (region : List (ℕ × ℕ)) (shape : List ℕ) → IsBox region shape → IsInBox index region
    → Known (assigned index) (job_variables shape) (starting region)
known-start index region shape box inside = record {
  exact = λ var here. true-there (assigned index) (job_variables shape) var (starting region var)
      (start-holds (assigned index) (job_variables shape) index region shape var box inside
      (All-contains (λ v. v < length shape) (job_variables shape) var
      (All-from_recursion (λ v. v < length shape) (job_variables shape) (range-below 0 (length shape) (length shape) (omega arith))) here));
  settled = λ var here. start-settled (job_variables shape) (starting region) region var;
}

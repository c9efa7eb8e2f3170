-- What the four rules make of a form that is kept is kept.
use Rattle.std.specs.Prelude.{◌≡◌, ℕ, zero, suc, ◌*◌, ◌≤◌, ◌⊎◌, ◌==◌, ◌||◌, ◌&&◌, Bool, true, false, if◌then◌else◌, ℤ, pos, negsuc}
use Rattle.std.specs.Prelude.{int_le, int_lt, List, [], ◌∷◌, map, unsigned_abs, ⊤}
use Rattle.std.specs.List.{AllZip, Contains, list_any}
use Rattle.std.specs.declared.option.Option.{Option}
use Rattle.std.specs.declared.option.Option.TheVariants.{None, Some}
use Rattle.std.proofs.Common.{refl, arith, inl, inr}
use Rattle.std.proofs.lemmas.Bool.{and_parts}
use Rattle.std.proofs.lemmas.Int.{ints}
use Rattle.shapes_core.specs.Limits.{greatest_extent}
use Rattle.shapes_core.specs.Shape.{IsShape, span, total}
use Rattle.shapes_core.proofs.SpanLemmas.{span_within}
use Rattle.normal_form.specs.declared.entry.Entry.{Entry}
use Rattle.normal_form.specs.declared.entry.Entry.TheVariants.{At, Plus, Minus}
use Rattle.normal_form.specs.Forms.{Lit, Index, Get, Un, Bin, Case, Fold, Let, Normal}
use Rattle.normal_form.specs.Kept.{AreEntries, IsBinding, IsBox, IsEntry, IsKept, job_variables}
use Rattle.normal_form.specs.Moves.{variable}
use Rattle.stride_form.specs.declared.facts.Fact.{Fact}
use Rattle.stride_form.specs.declared.facts.Fact.TheVariants.{Range, Alias, Offset, DigitOf}
use Rattle.stride_form.specs.declared.facts.Number.{Number}
use Rattle.stride_form.specs.declared.walk.Walk.{Walk}
use Rattle.stride_form.specs.Facts.{Facts, agreed, at_zero, common, digit_fact, digit_in, digit_of, digits_of, fact_of, in_minus, in_plus, joined, knowing, lies, low_of, lying, number_of, offset_fact, plain_walk, resolved, same_entry, starting, walk_at}
use Rattle.stride_form.specs.Kept.{AreSteps, IsOpBinding, IsOpEntry, IsOpKept, IsWalk, most_constant}
use Rattle.stride_form.specs.KeptFacts.{AreKeptFacts, IsBeside, IsKeptFact, IsKeptNumber, IsRanged}
use Rattle.stride_form.specs.Operational.{Operational}
use Rattle.stride_form.specs.Rules.{found_walk, is_bound_over, is_over, load_walk, needed, offset_in, operational_on, passed, resolved_bind, stands, where_needed}
use Rattle.stride_form.proofs.StrideLemmas.{small-total}
use Rattle.stride_form.proofs.WalkLemmas.{AreOpEntries, first-extent, own-kept, small-rest-of, walk-kept}
use Rattle.stride_form.specs.Accesses.{Steps}
use Rattle.normal_form.specs.declared.term.Bind.{Bind}
use Rattle.normal_form.specs.declared.term.Bind.TheVariants.{Turn, Flat, Digit}
use Rattle.normal_form.specs.Constants.{greatest_constant}

-- ---- entries

plus-kept : (known : List ℕ) (fact : Fact) (var : ℕ) (add : ℤ) (n : ℕ) → Contains known var → IsKeptFact known fact
    → unsigned_abs add ≤ greatest_constant → IsOpEntry known (in_plus fact var add) n
plus-kept known (Range low high) var add n here fact small = (here, omega (arith, small))
plus-kept known (Alias (At constant)) var add n here fact small = absurd fact
plus-kept known (Alias (Plus other more)) var add n here fact small = (fact.0, omega (arith, ints, fact.1, small))
plus-kept known (Alias (Minus other more)) var add n here fact small = (fact.0, omega (arith, ints, fact.1, small))
plus-kept known (Offset total walk) var add n here fact small = (here, omega (arith, small))
plus-kept known (DigitOf of weight extent) var add n here fact small = (here, omega (arith, small))

minus-kept : (known : List ℕ) (fact : Fact) (var : ℕ) (add : ℤ) (n : ℕ) → Contains known var → IsKeptFact known fact
    → unsigned_abs add ≤ greatest_constant → IsOpEntry known (in_minus fact var add) n
minus-kept known (Range low high) var add n here fact small = (here, omega (arith, small))
minus-kept known (Alias (At constant)) var add n here fact small = absurd fact
minus-kept known (Alias (Plus other more)) var add n here fact small = (fact.0, omega (arith, ints, fact.1, small))
minus-kept known (Alias (Minus other more)) var add n here fact small = (fact.0, omega (arith, ints, fact.1, small))
minus-kept known (Offset total walk) var add n here fact small = (here, omega (arith, small))
minus-kept known (DigitOf of weight extent) var add n here fact small = (here, omega (arith, small))

pub resolved-kept : (known : List ℕ) (facts : Facts) (entry : Entry) (n : ℕ) → AreKeptFacts known facts → IsEntry known entry n
    → IsOpEntry known (resolved facts entry) n
resolved-kept known facts (At (pos constant)) n kept h = h
resolved-kept known facts (At (negsuc constant)) n kept h = h
resolved-kept known facts (Plus var add) n kept h = plus-kept known (facts var) var add n h.0 (kept var h.0) h.1
resolved-kept known facts (Minus var add) n kept h = minus-kept known (facts var) var add n h.0 (kept var h.0) h.1

-- ---- bindings that are left out

-- all variables of one list are in another, and all but one the other way
abbrev pub AreFewer : List ℕ → List ℕ → Type 0
AreFewer fewer more = (x : ℕ) → Contains fewer x → Contains more x

abbrev pub AreButOne : ℕ → List ℕ → List ℕ → Type 0
AreButOne var more fewer = (x : ℕ) → (var == x) ≡ false → Contains more x → Contains fewer x

contains-first : (var : ℕ) (known : List ℕ) → Contains (var ∷ known) var
contains-first var known = (0, omega arith, refl)

contains-more : (var : ℕ) (known : List ℕ) (x : ℕ) → Contains known x → Contains (var ∷ known) x
contains-more var known x (k, lt, at) = (suc k, omega (arith, lt), at)

contains-other : (var : ℕ) (known : List ℕ) (x : ℕ) → Contains (var ∷ known) x → (var ≡ x) ⊎ Contains known x
contains-other var known x (zero, lt, at) = inl at
contains-other var known x (suc k, lt, at) = inr (k, omega (arith, lt), at)

fewer-under : (inner : ℕ) (fewer more : List ℕ) → AreFewer fewer more → AreFewer (inner ∷ fewer) (inner ∷ more)
fewer-under inner fewer more all x h = under (contains-other inner fewer x h) where
  under : (inner ≡ x) ⊎ Contains fewer x → Contains (inner ∷ more) x
  under (inl e) = (0, omega arith, e)
  under (inr there) = contains-more inner more x (all x there)

but-one-under : (var inner : ℕ) (more fewer : List ℕ) → AreButOne var more fewer → AreButOne var (inner ∷ more) (inner ∷ fewer)
but-one-under var inner more fewer all x other h = under (contains-other inner more x h) where
  under : (inner ≡ x) ⊎ Contains more x → Contains (inner ∷ fewer) x
  under (inl e) = (0, omega arith, e)
  under (inr there) = contains-more inner fewer x (all x other there)

-- an entry in which the one variable does not stand
without-entry : (var : ℕ) (more fewer : List ℕ) (entry : Entry) (n : ℕ) → AreButOne var more fewer → is_over var entry ≡ false
    → IsOpEntry more entry n → IsOpEntry fewer entry n
without-entry var more fewer (At (pos constant)) n all out h = h
without-entry var more fewer (At (negsuc constant)) n all out h = h
without-entry var more fewer (Plus other add) n all out h = (all other out h.0, h.1)
without-entry var more fewer (Minus other add) n all out h = (all other out h.0, h.1)

or-left : (a b : Bool) → (a || b) ≡ false → a ≡ false
or-left false b h = refl
or-left true b h = h

or-right : (a b : Bool) → (a || b) ≡ false → b ≡ false
or-right false b h = h
or-right true b h = grind (arith, h)

without-entries : (var : ℕ) (more fewer : List ℕ) (entries : List Entry) (shape : List ℕ) → AreButOne var more fewer
    → list_any (is_over var) entries ≡ false → AllZip (IsOpEntry more) entries shape → AllZip (IsOpEntry fewer) entries shape
without-entries var more fewer [] [] all out h = h
without-entries var more fewer [] (n ∷ shape) all out h = h
without-entries var more fewer (entry ∷ entries) [] all out h = h
without-entries var more fewer (entry ∷ entries) (n ∷ shape) all out h = (
  without-entry var more fewer entry n all (or-left (is_over var entry) (list_any (is_over var) entries) out) h.0,
  without-entries var more fewer entries shape all (or-right (is_over var entry) (list_any (is_over var) entries) out) h.1,
)

without-binding : (var : ℕ) (more fewer : List ℕ) (bind : Bind) → AreButOne var more fewer → is_bound_over var bind ≡ false
    → IsOpBinding more bind → IsOpBinding fewer bind
without-binding var more fewer (Turn of by extent) all out h = (without-entry var more fewer of extent all out h.0, h.1)
without-binding var more fewer (Flat of shape) all out h = (without-entries var more fewer of shape all out h.0, h.1)
without-binding var more fewer (Digit of weight extent) all out h = (without-entry var more fewer of greatest_extent all out h.0, h.1)

without-steps : (var : ℕ) (more fewer : List ℕ) (steps : Steps) → AreButOne var more fewer
    → list_any (λ step. var == step.0) steps ≡ false → AreSteps more steps → AreSteps fewer steps
without-steps var more fewer [] all out h = tt
without-steps var more fewer (first ∷ others) all out h = (
  all first.0 (or-left (var == first.0) (list_any (λ step. var == step.0) others) out) h.0,
  without-steps var more fewer others all (or-right (var == first.0) (list_any (λ step. var == step.0) others) out) h.1,
)

-- ---- the whole form, without a variable

without-form : (own var : ℕ) (more fewer : List ℕ) (form : Operational) → AreFewer fewer more → AreButOne var more fewer → stands var form ≡ false
    → IsOpKept own more form → IsOpKept own fewer form
without-form own var more fewer (Lit value) all but out h = tt
without-form own var more fewer (Index entry) all but out h = without-entry var more fewer entry greatest_extent but out h
without-form own var more fewer (Get access) all but out h = (
  h.0,
  record {
    over = without-steps var more fewer access.strides but out h.1.over;
    rising = h.1.rising;
    few = h.1.few;
    near = h.1.near;
    small = h.1.small;
  },
)
without-form own var more fewer (Un op of) all but out h = without-form own var more fewer of all but out h
without-form own var more fewer (Bin op left right) all but out h = (
  without-form own var more fewer left all but (or-left (stands var left) (stands var right) out) h.0,
  without-form own var more fewer right all but (or-right (stands var left) (stands var right) out) h.1,
)
without-form own var more fewer (Case entry below first second) all but out h =
    let rest = or-right (is_over var entry) (stands var first || stands var second) out in (
      without-entry var more fewer entry greatest_extent but (or-left (is_over var entry) (stands var first || stands var second) out) h.0,
      (
        h.1.0,
        (
          without-form own var more fewer first all but (or-left (stands var first) (stands var second) rest) h.1.1.0,
          without-form own var more fewer second all but (or-right (stands var first) (stands var second) rest) h.1.1.1,
        ),
      ),
    )
without-form own var more fewer (Fold op other low high of) all but out h = (
  h.0,
  (
    h.1.0,
    (
      h.1.1.0,
      (
        (λ here. h.1.1.1.0 (all other here)),
        without-form own var (other ∷ more) (other ∷ fewer) of (fewer-under other fewer more all) (but-one-under var other more fewer but) out h.1.1.1.1,
      ),
    ),
  ),
)
without-form own var more fewer (Let other bind of) all but out h = (
  without-binding var more fewer bind but (or-left (is_bound_over var bind) (stands var of) out) h.0,
  (
    (λ here. h.1.0 (all other here)),
    without-form own var (other ∷ more) (other ∷ fewer) of (fewer-under other fewer more all) (but-one-under var other more fewer but)
        (or-right (is_bound_over var bind) (stands var of) out) h.1.1,
  ),
)

but-itself : (var : ℕ) (known : List ℕ) → AreButOne var (var ∷ known) known
but-itself var known x other here = by (contains-other var known x here) where
  by : (var ≡ x) ⊎ Contains known x → Contains known x
  by (inl e) = absurd (grind (arith, other, e))
  by (inr there) = there

pub needed-kept : (own : ℕ) (known : List ℕ) (form : Operational) → IsOpKept own known form → IsOpKept own known (needed form)
needed-kept own known (Lit value) h = h
needed-kept own known (Index entry) h = h
needed-kept own known (Get access) h = h
needed-kept own known (Un op of) h = needed-kept own known of h
needed-kept own known (Bin op left right) h = (needed-kept own known left h.0, needed-kept own known right h.1)
needed-kept own known (Case entry below first second) h =
    (h.0, (h.1.0, (needed-kept own known first h.1.1.0, needed-kept own known second h.1.1.1)))
needed-kept own known (Fold op var low high of) h = (h.0, (h.1.0, (h.1.1.0, (h.1.1.1.0, needed-kept own (var ∷ known) of h.1.1.1.1))))
needed-kept own known (Let var bind of) h =
    let inner = needed-kept own (var ∷ known) of h.1.1 in
    by (stands var (needed of)) (λ out. without-form own var (var ∷ known) known (needed of) (contains-more var known) (but-itself var known) out inner)
    (h.0, (h.1.0, inner)) where
      by : (test : Bool) → (test ≡ false → IsOpKept own known (needed of)) → IsOpKept own known (Let var bind (needed of))
          → IsOpKept own known (where_needed test var bind (needed of))
      by true out stays = stays
      by false out stays = out refl

-- ---- what is known, among more variables

more-steps : (fewer more : List ℕ) (steps : List (ℕ × ℤ)) → AreFewer fewer more → AreSteps fewer steps → AreSteps more steps
more-steps fewer more [] all h = tt
more-steps fewer more (first ∷ others) all h = (all first.0 h.0, more-steps fewer more others all h.1)

more-walk : (fewer more : List ℕ) (walk : Walk) → AreFewer fewer more → IsWalk fewer walk.start walk.strides → IsWalk more walk.start walk.strides
more-walk fewer more walk all h = record {
  over = more-steps fewer more walk.strides all h.over;
  rising = h.rising;
  few = h.few;
  near = h.near;
  small = h.small;
}

more-beside : (fewer more : List ℕ) (most : ℕ) (entry : Entry) → AreFewer fewer more → IsBeside fewer most entry → IsBeside more most entry
more-beside fewer more most (At constant) all h = h
more-beside fewer more most (Plus var add) all h = (all var h.0, h.1)
more-beside fewer more most (Minus var add) all h = (all var h.0, h.1)

more-fact : (fewer more : List ℕ) (fact : Fact) → AreFewer fewer more → IsKeptFact fewer fact → IsKeptFact more fact
more-fact fewer more (Range low high) all h = h
more-fact fewer more (Alias entry) all h = more-beside fewer more (2 * greatest_extent) entry all h
more-fact fewer more (Offset total walk) all h = (h.0, more-walk fewer more walk all h.1)
more-fact fewer more (DigitOf of weight extent) all h = (
  record {
    beside = more-beside fewer more most_constant of.entry all h.0.beside;
    ranged = h.0.ranged;
    walk = more-walk fewer more of.walk all h.0.walk;
  },
  h.1,
)

pub knowing-kept : (known : List ℕ) (facts : Facts) (var : ℕ) (fact : Fact) → AreKeptFacts known facts → IsKeptFact known fact
    → AreKeptFacts (var ∷ known) (knowing facts var fact)
knowing-kept known facts var fact kept new x here =
    by (x == var) (λ other. more-fact known (var ∷ known) (facts x) (contains-more var known)
    (kept x (but-itself var known x (grind (arith, other)) here))) where
      by : (test : Bool) → (test ≡ false → IsKeptFact (var ∷ known) (facts x)) → IsKeptFact (var ∷ known) (if test then fact else facts x)
      by true old = more-fact known (var ∷ known) fact (contains-more var known) new
      by false old = old refl

starting-fact : (known : List ℕ) (region : List (ℕ × ℕ)) (shape : List ℕ) (var : ℕ) → span shape ≤ greatest_extent → IsBox region shape
    → IsKeptFact known (starting region var)
starting-fact known [] shape var small box = (omega arith, omega arith)
starting-fact known (pair ∷ region) [] var small box = elim box [ ]
starting-fact known (pair ∷ region) (n ∷ shape) zero small box =
    let most = first-extent n shape small in (omega (arith, box.0.0, box.0.1, most), omega (arith, box.0.1, most))
starting-fact known (pair ∷ region) (n ∷ shape) (suc var) small box =
    starting-fact known region shape var (small-rest-of n shape small) box.1

pub starting-kept : (known : List ℕ) (region : List (ℕ × ℕ)) (shape : List ℕ) → IsShape shape → IsBox region shape
    → AreKeptFacts known (starting region)
starting-kept known region shape shaped box var here = starting-fact known region shape var (span_within shape shaped) box

-- ---- numbers that are found

abbrev IsKeptOne : List ℕ → Option Number → Type 0
IsKeptOne known None = ⊤
IsKeptOne known (Some number) = IsKeptNumber known number

abbrev IsKeptFound : List ℕ → Option (Option Number) → Type 0
IsKeptFound known None = ⊤
IsKeptFound known (Some found) = IsKeptOne known found

one-if : (known : List ℕ) (test : Bool) (number : Number) → IsKeptNumber known number → IsKeptOne known (if test then Some number else None)
one-if known true number h = h
one-if known false number h = tt

digit-in-kept : (known : List ℕ) (fact : Fact) (at n : ℕ) → IsKeptFact known fact → IsKeptOne known (digit_in fact at n)
digit-in-kept known (Range low high) at n h = tt
digit-in-kept known (Alias entry) at n h = tt
digit-in-kept known (Offset total walk) at n h = tt
digit-in-kept known (DigitOf of weight extent) at n h = one-if known (weight == at && extent == n) of h.0

digit-of-kept : (known : List ℕ) (facts : Facts) (entry : Entry) (k at n : ℕ) → AreKeptFacts known facts → IsOpEntry known entry k
    → IsKeptOne known (digit_of facts entry at n)
digit-of-kept known facts (At constant) k at n kept h = tt
digit-of-kept known facts (Plus var (pos zero)) k at n kept h = digit-in-kept known (facts var) at n (kept var h.0)
digit-of-kept known facts (Plus var (pos (suc add))) k at n kept h = tt
digit-of-kept known facts (Plus var (negsuc add)) k at n kept h = tt
digit-of-kept known facts (Minus var add) k at n kept h = tt

agreed-kept : (known : List ℕ) (number : Number) (other : Option Number) → IsKeptNumber known number → IsKeptFound known (agreed number other)
agreed-kept known number None h = h
agreed-kept known number (Some other) h = by (same_entry number.entry other.entry) where
  by : (test : Bool) → IsKeptFound known (if test then Some (Some number) else None)
  by true = h
  by false = tt

joined-kept : (known : List ℕ) (one : Option Number) (others : Option (Option Number)) → IsKeptOne known one → IsKeptFound known (joined one others)
joined-kept known None others h = tt
joined-kept known (Some number) None h = tt
joined-kept known (Some number) (Some others) h = agreed-kept known number others h

zero-kept : (known : List ℕ) (entry : Entry) (others : Option (Option Number)) → IsKeptFound known others → IsKeptFound known (at_zero entry others)
zero-kept known (At (pos zero)) others h = h
zero-kept known (At (pos (suc constant))) others h = tt
zero-kept known (At (negsuc constant)) others h = tt
zero-kept known (Plus var add) others h = tt
zero-kept known (Minus var add) others h = tt

common-kept : (known : List ℕ) (facts : Facts) (entries : List Entry) (shape : List ℕ) → AreKeptFacts known facts → AreOpEntries known entries shape
    → IsKeptFound known (common facts entries shape)
common-kept known facts [] shape kept h = tt
common-kept known facts (entry ∷ entries) [] kept h = tt
common-kept known facts (entry ∷ entries) (n ∷ shape) kept h =
    let rest = common-kept known facts entries shape kept h.1 in
    by (n == 1) (zero-kept known entry (common facts entries shape) rest)
    (joined-kept known (digit_of facts entry (span shape) n) (common facts entries shape) (digit-of-kept known facts entry n (span shape) n kept h.0)) where
      by : (test : Bool) → IsKeptFound known (at_zero entry (common facts entries shape))
          → IsKeptFound known (joined (digit_of facts entry (span shape) n) (common facts entries shape))
          → IsKeptFound known (if test then at_zero entry (common facts entries shape) else joined (digit_of facts entry (span shape) n) (common facts entries shape))
      by true one other = one
      by false one other = other

-- a number that lies in a shape is beside a small constant
abbrev IsLying : List ℕ → Option Number → Type 0
IsLying known None = ⊤
IsLying known (Some number) = IsBeside known (2 * greatest_extent) number.entry × IsKeptNumber known number

lies-beside : (known : List ℕ) (entry : Entry) (least greatest : ℤ) (most : ℕ) → IsBeside known most_constant entry → IsRanged entry least greatest
    → int_le (pos 0) least ≡ true → int_lt greatest (pos most) ≡ true → most ≤ greatest_extent → IsBeside known (2 * greatest_extent) entry
lies-beside known (At constant) least greatest most beside ranged low high small = beside
lies-beside known (Plus var add) least greatest most beside ranged low high small = (beside.0, omega (arith, ints, ranged.0, ranged.1, low, high, small))
lies-beside known (Minus var add) least greatest most beside ranged low high small = (beside.0, omega (arith, ints, ranged.0, ranged.1, low, high, small))

lying-kept : (known : List ℕ) (most : ℕ) (found : Option (Option Number)) → most ≤ greatest_extent → IsKeptFound known found → IsLying known (lying most found)
lying-kept known most None small h = tt
lying-kept known most (Some None) small h = tt
lying-kept known most (Some (Some number)) small h = by (lies number most) refl where
  by : (test : Bool) → lies number most ≡ test → IsLying known (if test then Some number else None)
  by true e =
      let parts = and_parts (int_le (pos 0) number.least) (int_lt number.greatest (pos most)) e in
      (lies-beside known number.entry number.least number.greatest most h.beside h.ranged parts.0 parts.1 small, h)
  by false e = tt

digits-kept : (known : List ℕ) (facts : Facts) (entries : List Entry) (shape : List ℕ) → IsShape shape → AreKeptFacts known facts
    → AreOpEntries known entries shape → IsLying known (digits_of facts entries shape)
digits-kept known facts entries shape shaped kept h =
    lying-kept known (total shape) (common facts entries shape) (small-total shape greatest_extent (span_within shape shaped))
    (common-kept known facts entries shape kept h)

-- ---- walks of loads

at-kept : (known : List ℕ) (facts : Facts) (entry : Entry) (n : ℕ) → n ≤ greatest_extent → AreKeptFacts known facts → IsOpEntry known entry n
    → IsWalk known (walk_at facts entry).start (walk_at facts entry).strides
at-kept known facts (At constant) n small kept h = own-kept known (At constant) n small h
at-kept known facts (Plus var (pos zero)) n small kept h = plain (facts var) (kept var h.0) where
  plain : (fact : Fact) → IsKeptFact known fact → IsWalk known (plain_walk fact var).start (plain_walk fact var).strides
  plain (Range low high) fact = own-kept known (variable var) n small h
  plain (Alias entry) fact = own-kept known (variable var) n small h
  plain (Offset total walk) fact = fact.1
  plain (DigitOf of weight extent) fact = own-kept known (variable var) n small h
at-kept known facts (Plus var (pos (suc add))) n small kept h = own-kept known (Plus var (pos (suc add))) n small h
at-kept known facts (Plus var (negsuc add)) n small kept h = own-kept known (Plus var (negsuc add)) n small h
at-kept known facts (Minus var add) n small kept h = own-kept known (Minus var add) n small h

load-kept : (known : List ℕ) (facts : Facts) (entries : List Entry) (shape : List ℕ) → IsShape shape → AreKeptFacts known facts
    → AreOpEntries known entries shape → IsWalk known (load_walk facts entries shape).start (load_walk facts entries shape).strides
load-kept known facts entries [] shaped kept h = walk-kept known entries [] shaped h
load-kept known facts [] (n ∷ []) shaped kept h = elim h [ ]
load-kept known facts (entry ∷ entries) (n ∷ []) shaped kept h =
    at-kept known facts entry n (first-extent n [] (span_within (n ∷ []) shaped)) kept h.0
load-kept known facts entries (n ∷ k ∷ shape) shaped kept h = walk-kept known entries (n ∷ k ∷ shape) shaped h

found-kept : (known : List ℕ) (found : Option Number) (walk : Walk) → IsLying known found → IsWalk known walk.start walk.strides
    → IsWalk known (found_walk found walk).start (found_walk found walk).strides
found-kept known None walk one h = h
found-kept known (Some number) walk one h = one.1.walk

pub offset-in-kept : (known : List ℕ) (facts : Facts) (entries : List Entry) (shape : List ℕ) → IsShape shape → AreKeptFacts known facts
    → AreOpEntries known entries shape → IsWalk known (offset_in facts entries shape).start (offset_in facts entries shape).strides
offset-in-kept known facts entries shape shaped kept h =
    found-kept known (digits_of facts entries shape) (load_walk facts entries shape) (digits-kept known facts entries shape shaped kept h)
    (load-kept known facts entries shape shaped kept h)

-- ---- bindings

pub entries-kept : (known : List ℕ) (facts : Facts) (entries : List Entry) (shape : List ℕ) → AreKeptFacts known facts → AreEntries known entries shape
    → AreOpEntries known (map (resolved facts) entries) shape
entries-kept known facts [] [] kept h = h
entries-kept known facts [] (n ∷ shape) kept h = elim h [ ]
entries-kept known facts (entry ∷ entries) [] kept h = elim h [ ]
entries-kept known facts (entry ∷ entries) (n ∷ shape) kept h =
    (resolved-kept known facts entry n kept h.0, entries-kept known facts entries shape kept h.1)

low-small : (known : List ℕ) (fact : Fact) → IsKeptFact known fact → low_of fact ≤ greatest_extent
low-small known (Range low high) h = h.0
low-small known (Alias entry) h = omega arith
low-small known (Offset total walk) h = omega arith
low-small known (DigitOf of weight extent) h = omega arith

pub number-kept : (known : List ℕ) (facts : Facts) (entry : Entry) → AreKeptFacts known facts → IsBeside known most_constant entry
    → IsKeptNumber known (number_of facts entry)
number-kept known facts (At constant) kept h = absurd h
number-kept known facts (Plus var add) kept h = record {
  beside = h;
  ranged = let low = low-small known (facts var) (kept var h.0) in (omega (arith, ints, low), omega (arith, ints));
  walk = at-kept known facts (Plus var add) greatest_extent (omega arith) kept h;
}
number-kept known facts (Minus var add) kept h = record {
  beside = h;
  ranged = let low = low-small known (facts var) (kept var h.0) in (omega (arith, ints), omega (arith, ints, low));
  walk = at-kept known facts (Minus var add) greatest_extent (omega arith) kept h;
}

digit-fact-kept : (known : List ℕ) (facts : Facts) (entry : Entry) (weight extent : ℕ) → AreKeptFacts known facts
    → IsOpEntry known entry greatest_extent → extent ≤ greatest_extent → IsKeptFact known (digit_fact facts entry weight extent)
digit-fact-kept known facts (At constant) weight extent kept h small = (omega arith, small)
digit-fact-kept known facts (Plus var add) weight extent kept h small = (number-kept known facts (Plus var add) kept h, small)
digit-fact-kept known facts (Minus var add) weight extent kept h small = (number-kept known facts (Minus var add) kept h, small)

offset-fact-kept : (known : List ℕ) (found : Option Number) (entries : List Entry) (shape : List ℕ) → IsShape shape → IsLying known found
    → AreOpEntries known entries shape → IsKeptFact known (offset_fact found entries shape)
offset-fact-kept known None entries shape shaped one h =
    (small-total shape greatest_extent (span_within shape shaped), walk-kept known entries shape shaped h)
offset-fact-kept known (Some number) entries shape shaped one h = one.0

pub binding-kept : (known : List ℕ) (facts : Facts) (bind : Bind) → AreKeptFacts known facts → IsBinding known bind
    → IsOpBinding known (resolved_bind facts bind)
binding-kept known facts (Turn of by extent) kept h = (resolved-kept known facts of extent kept h.0, h.1)
binding-kept known facts (Flat of shape) kept h = (entries-kept known facts of shape kept h.0, h.1)
binding-kept known facts (Digit of weight extent) kept h = (resolved-kept known facts of greatest_extent kept h.0, h.1)

pub fact-kept : (known : List ℕ) (facts : Facts) (bind : Bind) → AreKeptFacts known facts → IsBinding known bind
    → IsKeptFact known (fact_of facts (resolved_bind facts bind))
fact-kept known facts (Turn of by extent) kept h = (omega arith, h.1.1)
fact-kept known facts (Flat of shape) kept h =
    let entries = entries-kept known facts of shape kept h.0 in
    offset-fact-kept known (digits_of facts (map (resolved facts) of) shape) (map (resolved facts) of) shape h.1
    (digits-kept known facts (map (resolved facts) of) shape h.1 kept entries) entries
fact-kept known facts (Digit of weight extent) kept h =
    digit-fact-kept known facts (resolved facts of) weight extent kept (resolved-kept known facts of greatest_extent kept h.0) h.1.1.1

-- ---- the walk over a form

pub passed-kept : (own : ℕ) (known : List ℕ) (facts : Facts) (form : Normal) → AreKeptFacts known facts → IsKept own known form
    → IsOpKept own known (passed facts form)
passed-kept own known facts (Lit value) kept h = tt
passed-kept own known facts (Index entry) kept h = resolved-kept known facts entry greatest_extent kept h
passed-kept own known facts (Get load) kept h =
    (h.0, offset-in-kept known facts (map (resolved facts) load.at) load.shape h.1.1 kept (entries-kept known facts load.at load.shape kept h.1.0))
passed-kept own known facts (Un op of) kept h = passed-kept own known facts of kept h
passed-kept own known facts (Bin op left right) kept h = (passed-kept own known facts left kept h.0, passed-kept own known facts right kept h.1)
passed-kept own known facts (Case entry below first second) kept h = (
  resolved-kept known facts entry greatest_extent kept h.0,
  (
    h.1.0,
    (passed-kept own known facts first kept h.1.1.0, passed-kept own known facts second kept h.1.1.1),
  ),
)
passed-kept own known facts (Fold op var low high of) kept h = (
  h.0,
  (
    h.1.0,
    (
      h.1.1.0,
      (
        h.1.1.1.0,
        passed-kept own (var ∷ known) (knowing facts var (Range low high)) of
            (knowing-kept known facts var (Range low high) kept (omega (arith, h.1.0, h.1.1.0), h.1.1.0)) h.1.1.1.1,
      ),
    ),
  ),
)
passed-kept own known facts (Let var bind of) kept h = (
  binding-kept known facts bind kept h.0,
  (
    h.1.0,
    passed-kept own (var ∷ known) (knowing facts var (fact_of facts (resolved_bind facts bind))) of
        (knowing-kept known facts var (fact_of facts (resolved_bind facts bind)) kept (fact-kept known facts bind kept h.0)) h.1.1,
  ),
)

pub operational-kept : (own : ℕ) (shape : List ℕ) (region : List (ℕ × ℕ)) (form : Normal) → IsShape shape → IsBox region shape
    → IsKept own (job_variables shape) form → IsOpKept own (job_variables shape) (operational_on region form)
operational-kept own shape region form shaped box h =
    needed-kept own (job_variables shape) (passed (starting region) form)
    (passed-kept own (job_variables shape) (starting region) form (starting-kept (job_variables shape) region shape shaped box) h)

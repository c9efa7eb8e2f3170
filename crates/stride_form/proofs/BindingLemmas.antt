-- The four rules change nothing in a form without a binding.
use Rattle.std.specs.Prelude.{◌≡◌, ℕ, zero, suc, ◌==◌, ℤ, pos, negsuc, Bool, true, false, ◌&&◌, List, [], ◌∷◌, map, if◌then◌else◌, ⊤}
use Rattle.std.specs.declared.option.Option.{Option}
use Rattle.std.specs.declared.option.Option.TheVariants.{None, Some}
use Rattle.std.proofs.Common.{refl, sym, ap, ap₂, ◌∙◌}
use Rattle.shapes_core.specs.Shape.{span, total}
use Rattle.normal_form.specs.declared.entry.Entry.{Entry}
use Rattle.normal_form.specs.declared.entry.Entry.TheVariants.{At, Plus, Minus}
use Rattle.normal_form.specs.Forms.{Element, Lit, Index, Get, Un, Bin, Case, Fold, Let, Normal}
use Rattle.stride_form.specs.declared.access.Access.{Access}
use Rattle.stride_form.specs.declared.facts.Fact.{Fact}
use Rattle.stride_form.specs.declared.facts.Fact.TheVariants.{Range, Alias, Offset, DigitOf}
use Rattle.stride_form.specs.declared.facts.Number.{Number}
use Rattle.stride_form.specs.declared.walk.Walk.{Walk}
use Rattle.stride_form.specs.Accesses.{access_of, walk_of, with_entry}
use Rattle.stride_form.specs.Bindings.{has_no_binding}
use Rattle.stride_form.specs.Facts.{Facts, at_zero, common, digit_in, digit_of, digits_of, in_minus, in_plus, joined, knowing, lying, own_walk, plain_walk, resolved, starting, walk_at}
use Rattle.stride_form.specs.Operational.{operational}
use Rattle.stride_form.specs.Rules.{access_in, found_walk, load_walk, needed, offset_in, operational_on, passed}

-- ---- ranges

-- what is known of a variable is its range
abbrev IsRange : Fact → Type 0
IsRange (Range low high) = ⊤
IsRange (Alias entry) = ⊥
IsRange (Offset total walk) = ⊥
IsRange (DigitOf of weight extent) = ⊥

abbrev AreRanges : Facts → Type 0
AreRanges facts = (var : ℕ) → IsRange (facts var)

starting-ranges : (region : List (ℕ × ℕ)) → AreRanges (starting region)
starting-ranges [] var = tt
starting-ranges (pair ∷ region) zero = tt
starting-ranges (pair ∷ region) (suc var) = starting-ranges region var

choice-range : (test : Bool) (one other : Fact) → IsRange one → IsRange other → IsRange (if test then one else other)
choice-range true one other h k = h
choice-range false one other h k = k

knowing-ranges : (facts : Facts) (var low high : ℕ) → AreRanges facts → AreRanges (knowing facts var (Range low high))
knowing-ranges facts var low high h other = choice-range (other == var) (Range low high) (facts other) tt (h other)

-- ---- entries

plus-same : (fact : Fact) (var : ℕ) (add : ℤ) → IsRange fact → in_plus fact var add ≡ Plus var add
plus-same (Range low high) var add h = refl
plus-same (Alias entry) var add h = absurd h
plus-same (Offset total walk) var add h = absurd h
plus-same (DigitOf of weight extent) var add h = absurd h

minus-same : (fact : Fact) (var : ℕ) (add : ℤ) → IsRange fact → in_minus fact var add ≡ Minus var add
minus-same (Range low high) var add h = refl
minus-same (Alias entry) var add h = absurd h
minus-same (Offset total walk) var add h = absurd h
minus-same (DigitOf of weight extent) var add h = absurd h

entry-same : (facts : Facts) (entry : Entry) → AreRanges facts → resolved facts entry ≡ entry
entry-same facts (At constant) h = refl
entry-same facts (Plus var add) h = plus-same (facts var) var add (h var)
entry-same facts (Minus var add) h = minus-same (facts var) var add (h var)

entries-same : (facts : Facts) (entries : List Entry) → AreRanges facts → map (resolved facts) entries ≡ entries
entries-same facts [] h = refl
entries-same facts (entry ∷ entries) h = ap₂ (λ x y. x ∷ y) (entry-same facts entry h) (entries-same facts entries h)

-- ---- digits

digit-in-none : (fact : Fact) (weight extent : ℕ) → IsRange fact → digit_in fact weight extent ≡ None
digit-in-none (Range low high) weight extent h = refl
digit-in-none (Alias entry) weight extent h = absurd h
digit-in-none (Offset total walk) weight extent h = absurd h
digit-in-none (DigitOf of at n) weight extent h = absurd h

digit-none : (facts : Facts) (entry : Entry) (weight extent : ℕ) → AreRanges facts → digit_of facts entry weight extent ≡ None
digit-none facts (At constant) weight extent h = refl
digit-none facts (Plus var (pos zero)) weight extent h = digit-in-none (facts var) weight extent (h var)
digit-none facts (Plus var (pos (suc add))) weight extent h = refl
digit-none facts (Plus var (negsuc add)) weight extent h = refl
digit-none facts (Minus var add) weight extent h = refl

-- no number is found
abbrev IsNoNumber : Option (Option Number) → Type 0
IsNoNumber None = ⊤
IsNoNumber (Some None) = ⊤
IsNoNumber (Some (Some number)) = ⊥

zero-none : (entry : Entry) (others : Option (Option Number)) → IsNoNumber others → IsNoNumber (at_zero entry others)
zero-none (At (pos zero)) others h = h
zero-none (At (pos (suc constant))) others h = tt
zero-none (At (negsuc constant)) others h = tt
zero-none (Plus var add) others h = tt
zero-none (Minus var add) others h = tt

joined-none : (digit : Option Number) (others : Option (Option Number)) → digit ≡ None → IsNoNumber (joined digit others)
joined-none None others h = tt
joined-none (Some number) others h = absurd (cc)

step-none : (test : Bool) (one other : Option (Option Number)) → IsNoNumber one → IsNoNumber other → IsNoNumber (if test then one else other)
step-none true one other h k = h
step-none false one other h k = k

common-none : (facts : Facts) (entries : List Entry) (shape : List ℕ) → AreRanges facts → IsNoNumber (common facts entries shape)
common-none facts [] shape h = tt
common-none facts (entry ∷ entries) [] h = tt
common-none facts (entry ∷ entries) (n ∷ shape) h =
    step-none (n == 1) (at_zero entry (common facts entries shape)) (joined (digit_of facts entry (span shape) n) (common facts entries shape))
    (zero-none entry (common facts entries shape) (common-none facts entries shape h))
    (joined-none (digit_of facts entry (span shape) n) (common facts entries shape) (digit-none facts entry (span shape) n h))

lying-none : (all : ℕ) (found : Option (Option Number)) → IsNoNumber found → lying all found ≡ None
lying-none all None h = refl
lying-none all (Some None) h = refl
lying-none all (Some (Some number)) h = absurd h

digits-none : (facts : Facts) (entries : List Entry) (shape : List ℕ) → AreRanges facts → digits_of facts entries shape ≡ None
digits-none facts entries shape h = lying-none (total shape) (common facts entries shape) (common-none facts entries shape h)

-- ---- loads

plain-same : (fact : Fact) (var : ℕ) → IsRange fact → plain_walk fact var ≡ own_walk (Plus var (pos 0))
plain-same (Range low high) var h = refl
plain-same (Alias entry) var h = absurd h
plain-same (Offset total walk) var h = absurd h
plain-same (DigitOf of weight extent) var h = absurd h

walk-same : (facts : Facts) (entry : Entry) → AreRanges facts → walk_at facts entry ≡ own_walk entry
walk-same facts (At constant) h = refl
walk-same facts (Plus var (pos zero)) h = plain-same (facts var) var (h var)
walk-same facts (Plus var (pos (suc add))) h = refl
walk-same facts (Plus var (negsuc add)) h = refl
walk-same facts (Minus var add) h = refl

behind-last : (entries : List Entry) → walk_of entries [] ≡ record { start = pos 0; strides = [] }
behind-last [] = refl
behind-last (entry ∷ entries) = refl

load-same : (facts : Facts) (entries : List Entry) (shape : List ℕ) → AreRanges facts → load_walk facts entries shape ≡ walk_of entries shape
load-same facts entries [] h = refl
load-same facts [] (n ∷ []) h = refl
load-same facts (entry ∷ entries) (n ∷ []) h = walk-same facts entry h ∙ sym (ap (with_entry (pos 1) entry) (behind-last entries))
load-same facts entries (n ∷ m ∷ shape) h = refl

offset-same : (facts : Facts) (entries : List Entry) (shape : List ℕ) → AreRanges facts → offset_in facts entries shape ≡ walk_of entries shape
offset-same facts entries shape h =
    ap (λ found. found_walk found (load_walk facts entries shape)) (digits-none facts entries shape h) ∙ load-same facts entries shape h

-- an area at an offset
abbrev at_walk : ℕ → Walk → Access
at_walk area walk = record { area = area; start = walk.start; strides = walk.strides }

access-same : (facts : Facts) (element : Element) → AreRanges facts → access_in facts element ≡ access_of element
access-same facts element h =
    ap (λ entries. at_walk element.area (offset_in facts entries element.shape)) (entries-same facts element.at h)
    ∙ ap (at_walk element.area) (offset-same facts element.at element.shape h)

-- ---- forms

both-true : (a b : Bool) → (a && b) ≡ true → (a ≡ true) × (b ≡ true)
both-true true b h = (refl, h)
both-true false b h = absurd (cc)

passed-same : (facts : Facts) (form : Normal) → AreRanges facts → has_no_binding form ≡ true → passed facts form ≡ operational form
passed-same facts (Lit value) h none = refl
passed-same facts (Index entry) h none = ap Index (entry-same facts entry h)
passed-same facts (Get element) h none = ap Get (access-same facts element h)
passed-same facts (Un op of) h none = ap (Un op) (passed-same facts of h none)
passed-same facts (Bin op left right) h none =
    let parts = both-true (has_no_binding left) (has_no_binding right) none in
    ap₂ (Bin op) (passed-same facts left h parts.0) (passed-same facts right h parts.1)
passed-same facts (Case entry below first second) h none =
    let parts = both-true (has_no_binding first) (has_no_binding second) none in
    ap (λ e. Case e below (passed facts first) (passed facts second)) (entry-same facts entry h)
    ∙ ap₂ (Case entry below) (passed-same facts first h parts.0) (passed-same facts second h parts.1)
passed-same facts (Fold op var low high of) h none =
    ap (Fold op var low high) (passed-same (knowing facts var (Range low high)) of (knowing-ranges facts var low high h) none)
passed-same facts (Let var bind of) h none = absurd (cc)

needed-same : (form : Normal) → has_no_binding form ≡ true → needed (operational form) ≡ operational form
needed-same (Lit value) none = refl
needed-same (Index entry) none = refl
needed-same (Get element) none = refl
needed-same (Un op of) none = ap (Un op) (needed-same of none)
needed-same (Bin op left right) none =
    let parts = both-true (has_no_binding left) (has_no_binding right) none in
    ap₂ (Bin op) (needed-same left parts.0) (needed-same right parts.1)
needed-same (Case entry below first second) none =
    let parts = both-true (has_no_binding first) (has_no_binding second) none in
    ap₂ (Case entry below) (needed-same first parts.0) (needed-same second parts.1)
needed-same (Fold op var low high of) none = ap (Fold op var low high) (needed-same of none)
needed-same (Let var bind of) none = absurd (cc)

pub nothing-changed : (region : List (ℕ × ℕ)) (form : Normal) → has_no_binding form ≡ true → operational_on region form ≡ operational form
nothing-changed region form none =
    ap needed (passed-same (starting region) form (starting-ranges region) none) ∙ needed-same form none

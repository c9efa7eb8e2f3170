-- Facts that are varied stay so where one is added, and entries of earlier variables stay as they are.
use Rattle.std.specs.Prelude.{◌≡◌, ◌==◌, ◌&&◌, ℕ, zero, suc, ◌+◌, ◌<◌, ◌≤◌, Bool, true, false, ℤ, pos, negsuc, List, [], ◌∷◌, map, if◌then◌else◌}
use Rattle.std.specs.Prelude.{IfSome}
use Rattle.std.specs.List.{range_with_len}
use Rattle.std.specs.declared.option.Option.{Option}
use Rattle.std.specs.declared.option.Option.TheVariants.{None, Some}
use Rattle.std.proofs.Common.{refl, ap, ap₂, ◌∙◌, arith, le_refl, le_trans, ne_eqb}
use Rattle.std.proofs.lemmas.Bool.{cond-false}
use Rattle.shapes_core.specs.Shape.{span, total}
use Rattle.normal_form.specs.declared.entry.Entry.{Entry}
use Rattle.normal_form.specs.declared.entry.Entry.TheVariants.{At, Plus, Minus}
use Rattle.normal_form.specs.declared.term.Bind.{Bind}
use Rattle.normal_form.specs.declared.term.Bind.TheVariants.{Turn, Flat, Digit}
use Rattle.normal_form.specs.Moves.{minus_entry, raised, variable}
use Rattle.normal_form.specs.Stands.{AreBelow, uses_below}
use Rattle.stride_form.specs.declared.facts.Fact.{Fact}
use Rattle.stride_form.specs.declared.facts.Fact.TheVariants.{Range, Alias, Offset, DigitOf}
use Rattle.stride_form.specs.declared.facts.Number.{Number}
use Rattle.stride_form.specs.Facts.{Facts, agreed, at_zero, common, digit_fact, digit_in, digit_of, digits_of, fact_of, in_minus, in_plus, joined}
use Rattle.stride_form.specs.Facts.{knowing}
use Rattle.stride_form.specs.Facts.{lies, lying, offset_fact, resolved, same_entry, starting}
use Rattle.stride_form.specs.Follows.{AreVaried, IsOverVariable, IsVaried}

-- ---- the facts of a job

starting-ranges : (region : List (ℕ × ℕ)) (var : ℕ) (add : ℤ) → in_plus (starting region var) var add ≡ Plus var add
starting-ranges region var add = at-any region var var add where
  at-any : (region : List (ℕ × ℕ)) (place var : ℕ) (add : ℤ) → in_plus (starting region place) var add ≡ Plus var add
  at-any [] place var add = refl
  at-any (pair ∷ region) zero var add = refl
  at-any (pair ∷ region) (suc place) var add = at-any region place var add

pub starting-varied : (region : List (ℕ × ℕ)) → AreVaried (starting region)
starting-varied [] var = tt
starting-varied (pair ∷ region) zero = tt
starting-varied (pair ∷ region) (suc var) = starting-varied region var

starting-each : (region : List (ℕ × ℕ)) (vars : List ℕ) → map (resolved (starting region)) (map variable vars) ≡ map variable vars
starting-each region [] = refl
starting-each region (var ∷ vars) =
    ap₂ (λ first more. first ∷ more) (starting-ranges region var (pos 0)) (starting-each region vars)

pub starting-variables : (region : List (ℕ × ℕ)) (axes : ℕ)
    → map (resolved (starting region)) (map variable (range_with_len 0 axes)) ≡ map variable (range_with_len 0 axes)
starting-variables region axes = starting-each region (range_with_len 0 axes)

range-below : (from count next : ℕ) → from + count ≤ next → AreBelow next (map variable (range_with_len from count))
range-below from zero next h = tt
range-below from (suc count) next h = (omega (arith, h), range-below (from + 1) count next (omega (arith, h)))

pub variables-below : (axes : ℕ) → AreBelow axes (map variable (range_with_len 0 axes))
variables-below axes = range-below 0 axes axes (omega arith)

-- ---- one fact more

known-varied : (test : Bool) (fact other : Fact) → IsVaried fact → IsVaried other → IsVaried (if test then fact else other)
known-varied true fact other h k = h
known-varied false fact other h k = k

pub knowing-varied : (facts : Facts) (var : ℕ) (fact : Fact) → AreVaried facts → IsVaried fact → AreVaried (knowing facts var fact)
knowing-varied facts var fact h k = λ other. known-varied (other == var) fact (facts other) k (h other)

-- ---- the number of digits is over a variable

abbrev IsNumber : Number → Type 0
IsNumber number = IsOverVariable number.entry

abbrev IsFound : Option (Option Number) → Type 0
IsFound found = IfSome found (λ one. IfSome one IsNumber)

some-if : (test : Bool) (number : Number) → IsNumber number → IfSome (if test then Some number else None) IsNumber
some-if true number h = h
some-if false number h = tt

found-if : (test : Bool) (number : Number) → IsNumber number → IsFound (if test then Some (Some number) else None)
found-if true number h = h
found-if false number h = tt

digit-in-varied : (fact : Fact) (weight n : ℕ) → IsVaried fact → IfSome (digit_in fact weight n) IsNumber
digit-in-varied (Range low high) weight n h = tt
digit-in-varied (Alias entry) weight n h = tt
digit-in-varied (Offset total walk) weight n h = tt
digit-in-varied (DigitOf of at extent) weight n h = some-if (at == weight && extent == n) of h

digit-of-varied : (facts : Facts) (entry : Entry) (weight n : ℕ) → AreVaried facts → IfSome (digit_of facts entry weight n) IsNumber
digit-of-varied facts (At constant) weight n h = tt
digit-of-varied facts (Plus var (pos zero)) weight n h = digit-in-varied (facts var) weight n (h var)
digit-of-varied facts (Plus var (pos (suc add))) weight n h = tt
digit-of-varied facts (Plus var (negsuc add)) weight n h = tt
digit-of-varied facts (Minus var add) weight n h = tt

agreed-found : (number : Number) (others : Option Number) → IsNumber number → IsFound (agreed number others)
agreed-found number None h = h
agreed-found number (Some other) h = found-if (same_entry number.entry other.entry) number h

joined-found : (one : Option Number) (others : Option (Option Number)) → IfSome one IsNumber → IsFound (joined one others)
joined-found None others h = tt
joined-found (Some number) None h = tt
joined-found (Some number) (Some others) h = agreed-found number others h

zero-found : (entry : Entry) (others : Option (Option Number)) → IsFound others → IsFound (at_zero entry others)
zero-found (At (pos zero)) others h = h
zero-found (At (pos (suc constant))) others h = tt
zero-found (At (negsuc constant)) others h = tt
zero-found (Plus var add) others h = tt
zero-found (Minus var add) others h = tt

either-found : (test : Bool) (a b : Option (Option Number)) → IsFound a → IsFound b → IsFound (if test then a else b)
either-found true a b h k = h
either-found false a b h k = k

common-found : (facts : Facts) (entries : List Entry) (shape : List ℕ) → AreVaried facts → IsFound (common facts entries shape)
common-found facts [] shape h = tt
common-found facts (entry ∷ entries) [] h = tt
common-found facts (entry ∷ entries) (n ∷ shape) h =
    let others = common facts entries shape in
    let found = common-found facts entries shape h in
    let one = digit_of facts entry (span shape) n in
    either-found (n == 1) (at_zero entry others) (joined one others) (zero-found entry others found)
    (joined-found one others (digit-of-varied facts entry (span shape) n h))

lying-varied : (n : ℕ) (found : Option (Option Number)) → IsFound found → IfSome (lying n found) IsNumber
lying-varied n None h = tt
lying-varied n (Some None) h = tt
lying-varied n (Some (Some number)) h = some-if (lies number n) number h

digits-varied : (facts : Facts) (entries : List Entry) (shape : List ℕ) → AreVaried facts → IfSome (digits_of facts entries shape) IsNumber
digits-varied facts entries shape h = lying-varied (total shape) (common facts entries shape) (common-found facts entries shape h)

offset-varied : (number : Option Number) (entries : List Entry) (shape : List ℕ) → IfSome number IsNumber
    → IsVaried (offset_fact number entries shape)
offset-varied (Some number) entries shape h = h
offset-varied None entries shape h = tt

digit-varied : (facts : Facts) (entry : Entry) (weight n : ℕ) → IsVaried (digit_fact facts entry weight n)
digit-varied facts (At constant) weight n = tt
digit-varied facts (Plus var add) weight n = tt
digit-varied facts (Minus var add) weight n = tt

pub fact-varied : (facts : Facts) (bind : Bind) → AreVaried facts → IsVaried (fact_of facts bind)
fact-varied facts (Turn of by extent) h = tt
fact-varied facts (Flat of shape) h = offset-varied (digits_of facts of shape) of shape (digits-varied facts of shape h)
fact-varied facts (Digit of weight extent) h = digit-varied facts of weight extent

pub binding-varied : (facts : Facts) (var : ℕ) (bind : Bind) → AreVaried facts → AreVaried (knowing facts var (fact_of facts bind))
binding-varied facts var bind h = knowing-varied facts var (fact_of facts bind) h (fact-varied facts bind h)

-- ---- variables stay variables

raised-over : (by : ℤ) (entry : Entry) → IsOverVariable entry → IsOverVariable (raised by entry)
raised-over by (At constant) h = h
raised-over by (Plus var add) h = h
raised-over by (Minus var add) h = h

minus-over : (from : ℤ) (entry : Entry) → IsOverVariable entry → IsOverVariable (minus_entry from entry)
minus-over from (At constant) h = h
minus-over from (Plus var add) h = h
minus-over from (Minus var add) h = h

pub plus-over : (fact : Fact) (var : ℕ) (add : ℤ) → IsVaried fact → IsOverVariable (in_plus fact var add)
plus-over (Range low high) var add h = tt
plus-over (Alias entry) var add h = raised-over add entry h
plus-over (Offset total walk) var add h = tt
plus-over (DigitOf of weight extent) var add h = tt

pub less-over : (fact : Fact) (var : ℕ) (add : ℤ) → IsVaried fact → IsOverVariable (in_minus fact var add)
less-over (Range low high) var add h = tt
less-over (Alias entry) var add h = minus-over add entry h
less-over (Offset total walk) var add h = tt
less-over (DigitOf of weight extent) var add h = tt

-- ---- facts that are more than others from a variable on

pub record IsMore (facts : Facts) (next : ℕ) (other : Facts) (later : ℕ) : Type 0 where
  pub grows : next ≤ later
  pub varied : AreVaried other
  pub same : (var : ℕ) → var < next → other var ≡ facts var

pub more-same : (facts : Facts) (next : ℕ) → AreVaried facts → IsMore facts next facts next
more-same facts next h = record { grows = le_refl next; varied = h; same = λ var below. refl }

pub more-both : (facts : Facts) (next : ℕ) (between : Facts) (mid : ℕ) (other : Facts) (later : ℕ)
    → IsMore facts next between mid → IsMore between mid other later → IsMore facts next other later
more-both facts next between mid other later h k = record {
  grows = le_trans h.grows k.grows;
  varied = k.varied;
  same = λ var below. k.same var (omega (arith, below, h.grows)) ∙ h.same var below;
}

pub more-knowing : (facts : Facts) (next : ℕ) (fact : Fact) → AreVaried facts → IsVaried fact
    → IsMore facts next (knowing facts next fact) (suc next)
more-knowing facts next fact h k = record {
  grows = omega arith;
  varied = knowing-varied facts next fact h k;
  same = λ var below. cond-false (var == next) fact (facts var) (ne_eqb var next (λ e. omega (arith, e, below)));
}

pub more-resolved : (facts : Facts) (next : ℕ) (other : Facts) (later : ℕ) (entry : Entry) → IsMore facts next other later
    → uses_below next entry → resolved other entry ≡ resolved facts entry
more-resolved facts next other later (At constant) more below = refl
more-resolved facts next other later (Plus var add) more below = ap (λ fact. in_plus fact var add) (more.same var below)
more-resolved facts next other later (Minus var add) more below = ap (λ fact. in_minus fact var add) (more.same var below)

pub more-resolve : (facts : Facts) (next : ℕ) (other : Facts) (later : ℕ) (entries : List Entry) → IsMore facts next other later
    → AreBelow next entries → map (resolved other) entries ≡ map (resolved facts) entries
more-resolve facts next other later [] more below = refl
more-resolve facts next other later (entry ∷ entries) more below =
    ap₂ (λ first others. first ∷ others) (more-resolved facts next other later entry more below.0)
    (more-resolve facts next other later entries more below.1)

pub use-later : (next later : ℕ) (entry : Entry) → next ≤ later → uses_below next entry → uses_below later entry
use-later next later (At constant) more below = tt
use-later next later (Plus var add) more below = omega (arith, below)
use-later next later (Minus var add) more below = omega (arith, below)

pub below-later : (next later : ℕ) (entries : List Entry) → next ≤ later → AreBelow next entries → AreBelow later entries
below-later next later [] more below = tt
below-later next later (entry ∷ entries) more below = (use-later next later entry more below.0, below-later next later entries more below.1)

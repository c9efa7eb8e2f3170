-- The steps that make a value need what their form feeds on: counters, literals and places.
use Rattle.std.specs.Prelude.{◌≡◌, ℕ, ◌+◌, ◌<◌, ◌≤◌, true, ℤ, pos, ◌+ℤ◌, ◌-ℤ◌, List, [], ◌∷◌, ◌++◌, length, Option, None, Some}
use Rattle.std.proofs.Common.{refl, subst, sym, inl, inr, arith}
use Rattle.std.proofs.lemmas.Bool.{and_parts, false≢true}
use Rattle.std.proofs.lemmas.List.{length-append}
use Rattle.moa_tree.specs.declared.operator.Op.{Op}
use Rattle.moa_tree.specs.declared.operator.Op.TheVariants.{Add, Sub}
use Rattle.normal_form.specs.declared.entry.Entry.{Entry}
use Rattle.normal_form.specs.declared.entry.Entry.TheVariants.{At, Plus, Minus}
use Rattle.normal_form.specs.Forms.{Lit, Index, Get, Un, Bin, Case, Fold, Let}
use Rattle.stride_form.specs.Operational.{Operational}
use Rattle.loop_ir.specs.Needed.{Keys, needed}
use Rattle.loop_ir.specs.Running.{Key, Register, Pointer}
use Rattle.loop_ir.specs.Steps.{Set, One, Two, Read, Steps, End, Then}
use Rattle.nest_build.specs.Nests.{counted_by, indexed, listed, made_of}
use Rattle.nest_build.specs.Parts.{Loop, accesses, behind_value, counter_of, is_straight, literals}
use Rattle.nest_build.proofs.NeedLemmas.{Or, Within, append-within, set-apart, then-within}

-- what a form feeds on: the counters of loops, its literals, and its places
pub record Feeds (P : Key → Type 0) (loops : List Loop) (literal place : ℕ) (form : Operational) : Type 0 where
  pub counters : (var counter : ℕ) → counter_of loops var ≡ Some counter → P (Register counter)
  pub literals : (number : ℕ) → literal ≤ number → number < literal + length (literals form) → P (Register number)
  pub places : (number : ℕ) → place ≤ number → number < place + length (accesses form) → P (Pointer number)

abbrev feeds-more : (P : Key → Type 0) (other : Key) (loops : List Loop) (literal place : ℕ) (form : Operational)
    → Feeds P loops literal place form → Feeds (Or P other) loops literal place form
feeds-more P other loops literal place form feeds = record {
  counters = λ var counter h. inl (feeds.counters var counter h);
  literals = λ number h k. inl (feeds.literals number h k);
  places = λ number h k. inl (feeds.places number h k);
}

known-too : (P : Key → Type 0) (other : Key) → P other → (key : Key) → Or P other key → P key
known-too P other own key (inl known) = known
known-too P other own key (inr same) = subst P (sym same) own

or-wider : (P : Key → Type 0) (one other last key : Key) → Or P last key → Or (Or (Or P one) other) last key
or-wider P one other last key (inl known) = inl (inl (inl known))
or-wider P one other last key (inr same) = inr same

-- ---- numbers of entries

set-within : (P : Key → Type 0) (free : ℕ) (value : ℤ) (rest : Steps) (after : Keys) → Within (needed rest after) (Or P (Register free))
    → Within (needed (Then (Set free value) rest) after) P
set-within P free value rest after h = then-within P (Or P (Register free)) (Set free value) rest after tt (set-apart P (Register free)) h

two-within : (P : Key → Type 0) (op : Op) (free left right : ℕ) (after : Keys) → P (Register left) → P (Register right)
    → Within after (Or P (Register free)) → Within (needed (Then (Two op free left right) End) after) P
two-within P op free left right after one other h =
    then-within P (Or P (Register free)) (Two op free left right) End after (one, (other, tt)) (set-apart P (Register free)) h

counted-within : (P : Key → Type 0) (op : Op) (free : ℕ) (constant : ℤ) (o : Option ℕ) (after : Keys)
    → ((counter : ℕ) → o ≡ Some counter → P (Register counter)) → Within after (Or P (Register free))
    → Within (needed (listed (counted_by free constant o (λ counter. Two op free free counter))) after) P
counted-within P op free constant None after known h = set-within P free constant End after h
counted-within P op free constant (Some counter) after known h =
    let own = Register free in
    set-within P free constant (Then (Two op free free counter) End) after
    (two-within (Or P own) op free free counter after (inr refl) (inl (known counter refl))
    (λ key need. inl (h key need)))

indexed-within : (P : Key → Type 0) (loops : List Loop) (low : ℕ → ℕ) (free : ℕ) (entry : Entry) (after : Keys)
    → ((var counter : ℕ) → counter_of loops var ≡ Some counter → P (Register counter)) → Within after (Or P (Register free))
    → Within (needed (listed (indexed loops low free entry)) after) P
indexed-within P loops low free (At constant) after known h = set-within P free constant End after h
indexed-within P loops low free (Plus var add) after known h =
    counted-within P Add free (add +ℤ pos (low var)) (counter_of loops var) after (known var) h
indexed-within P loops low free (Minus var add) after known h =
    counted-within P Sub free (add -ℤ pos (low var)) (counter_of loops var) after (known var) h

-- ---- values

feeds-left : (P : Key → Type 0) (loops : List Loop) (literal place : ℕ) (op : Op) (left right : Operational)
    → Feeds P loops literal place (Bin op left right) → Feeds P loops literal place left
feeds-left P loops literal place op left right feeds =
    let values = length-append (literals left) (literals right) in
    let words = length-append (accesses left) (accesses right) in
    record {
      counters = feeds.counters;
      literals = λ number h k. feeds.literals number h (omega (arith, k, values));
      places = λ number h k. feeds.places number h (omega (arith, k, words));
    }

feeds-right : (P : Key → Type 0) (loops : List Loop) (literal place : ℕ) (op : Op) (left right : Operational)
    → Feeds P loops literal place (Bin op left right)
    → Feeds P loops (literal + length (literals left)) (place + length (accesses left)) right
feeds-right P loops literal place op left right feeds =
    let values = length-append (literals left) (literals right) in
    let words = length-append (accesses left) (accesses right) in
    record {
      counters = feeds.counters;
      literals = λ number h k. feeds.literals number (omega (arith, h)) (omega (arith, k, values));
      places = λ number h k. feeds.places number (omega (arith, h)) (omega (arith, k, words));
    }

pub made-within : (P : Key → Type 0) (loops : List Loop) (low : ℕ → ℕ) (free literal place : ℕ) (form : Operational) (after : Keys)
    → is_straight form ≡ true → Feeds P loops literal place form
    → Within after (Or P (Register (made_of loops low free literal place form).value))
    → Within (needed (listed (made_of loops low free literal place form).steps) after) P
made-within P loops low free literal place (Lit value) after straight feeds h =
    λ key need. known-too P (Register literal) (feeds.literals literal (omega arith) (omega arith)) key (h key need)
made-within P loops low free literal place (Index entry) after straight feeds h = indexed-within P loops low free entry after feeds.counters h
made-within P loops low free literal place (Get access) after straight feeds h =
    then-within P (Or P (Register free)) (Read free access.area place) End after (feeds.places place (omega arith) (omega arith), tt)
    (set-apart P (Register free)) h
made-within P loops low free literal place (Un op of) after straight feeds h =
    let made = made_of loops low free literal place of in
    append-within P made.steps (One op free made.value ∷ []) after
    (made-within P loops low free literal place of _ straight (record { counters = feeds.counters; literals = feeds.literals; places = feeds.places })
    (then-within (Or P (Register made.value)) (Or P (Register free)) (One op free made.value) End after (inr refl, tt)
    (λ key known other. inl (set-apart P (Register free) key known other)) h))
made-within P loops low free literal place (Bin op left right) after straight feeds h =
    let one = made_of loops low free literal place left in
    let lits = literal + length (literals left) in
    let places = place + length (accesses left) in
    let other = made_of loops low (behind_value free left) lits places right in
    let both = and_parts (is_straight left) (is_straight right) straight in
    let known = Or P (Register one.value) in
    let last = Two op free one.value other.value ∷ [] in
    append-within P one.steps (other.steps ++ last) after
    (made-within P loops low free literal place left _ both.0 (feeds-left P loops literal place op left right feeds)
    (append-within known other.steps last after
    (made-within known loops low (behind_value free left) lits places right _ both.1
    (feeds-more P (Register one.value) loops lits places right (feeds-right P loops literal place op left right feeds))
    (two-within (Or known (Register other.value)) op free one.value other.value after (inl (inr refl)) (inr refl)
    (λ key need. or-wider P (Register one.value) (Register other.value) (Register free) key (h key need))))))
made-within P loops low free literal place (Case entry below first second) after straight feeds h = absurd (false≢true straight)
made-within P loops low free literal place (Fold op var low_bound high of) after straight feeds h = absurd (false≢true straight)
made-within P loops low free literal place (Let var bind of) after straight feeds h = absurd (false≢true straight)

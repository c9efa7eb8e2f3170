-- The homes of the codes that a nest names fit it, and their spill words are no greater than their ranks.
use Rattle.std.specs.Prelude.{◌≡◌, ℕ, suc, ◌^◌, ◌<◌, ◌≤◌, true, List, Option, None, Some, IsSome, is_some}
use Rattle.std.specs.List.{AllByRecursion, Contains}
use Rattle.std.proofs.Common.{rules, refl, sym, ◌∙◌, subst, arith}
use Rattle.std.proofs.lemmas.Bool.{false≢true}
use Rattle.loop_ir.specs.Kept.{EachNamed}
use Rattle.loop_ir.specs.Needed.{Keys, none}
use Rattle.loop_ir.specs.Costs.{named}
use Rattle.loop_ir.specs.Running.{Key, Pointer, Register}
use Rattle.loop_ir.specs.Steps.{Steps, End, Then, For, If}
use Rattle.register_map.specs.declared.home.Home.TheVariants as home
use Rattle.register_map.specs.Assigned.{assigned, given_to, mark}
use Rattle.register_map.specs.Codes.{IsRising, codes_of, has_weight, is_among}
use Rattle.register_map.specs.Fits.{IsFit, IsRanked, NamesFew}
use Rattle.register_map.specs.Homes.{Given, code, home_of, number_of}
use Rattle.register_map.proofs.AssignedLemmas.{assigned-apart, assigned-there, home_at, spill-ranked}
use Rattle.register_map.proofs.CodeLemmas.{all-among, all-at, all-named, code-apart, each-named}
use Rattle.register_map.proofs.FitLemmas.{NeedsNamed, apart-fits}
use Rattle.register_map.proofs.GivenLemmas.{given-registers, mark-apart}
use Rattle.register_map.proofs.RankLemmas.{below, below-next, below-rises}
use Rattle.register_map.proofs.TreeLemmas.{all-weaker}

some-is : {X : Type 0} (o : Option X) → is_some o ≡ true → IsSome o
some-is None h = absurd (false≢true h)
some-is (Some x) h = search rules

some-of : {X : Type 0} (o : Option X) → is_some o ≡ true → (x : X) × (o ≡ Some x)
some-of None h = absurd (false≢true h)
some-of (Some x) h = (x, refl)

-- the registers and places that have homes
abbrev pub homed : Given → Keys
homed given key = is_some (home_of given key)

all-next : (codes : List ℕ) → AllByRecursion (λ x. x < suc x) codes
all-next codes = all-among (λ x. x < suc x) codes (λ x there. omega arith)

-- codes in rising order, which are those that steps name
pub record AreCodes (steps : Steps) (codes : List ℕ) : Type 0 where
  pub rising : IsRising 0 codes
  pub same : (q : ℕ) → is_among codes q ≡ is_among (codes_of steps) q

-- so are those that have weights
pub weighed-codes : (steps : Steps) (weights : List (ℕ × ℕ)) (codes items : List ℕ) → codes ≡ items → IsRising 0 items
    → ((q : ℕ) → is_among items q ≡ has_weight weights q) → ((q : ℕ) → has_weight weights q ≡ is_among (codes_of steps) q) → AreCodes steps codes
weighed-codes steps weights codes items e rising one other =
    subst (AreCodes steps) (sym e) (record { rising = rising; same = λ q. one q ∙ other q })

-- ---- numbers

named-follows : (P Q : Key → Type 0) → ((key : Key) → P key → Q key) → (steps : Steps) → EachNamed P steps → EachNamed Q steps
named-follows P Q f End h = tt
named-follows P Q f (Then action rest) h = (all-weaker f (named action) h.0, named-follows P Q f rest h.1)
named-follows P Q f (For counter turns body rest) h =
    (f (Register counter) h.0, (named-follows P Q f body h.1.0, named-follows P Q f rest h.1.1))
named-follows P Q f (If left below one other rest) h =
    (f (Register left) h.0, (named-follows P Q f one h.1.0, (named-follows P Q f other h.1.1.0, named-follows P Q f rest h.1.1.1)))

number-low : (key : Key) → number_of key < 2 ^ 30 → code key < 2 ^ 31
number-low (Register number) h = omega (arith, h)
number-low (Pointer number) h = omega (arith, h)

module _ (steps : Steps) (marked codes : List ℕ) (are : AreCodes steps codes) where
  codes-homed : AllByRecursion (λ q. is_some (home_at (assigned (mark marked) 0 codes) q) ≡ true) (codes_of steps)
  codes-homed =
      all-among (λ q. is_some (home_at (assigned (mark marked) 0 codes) q) ≡ true) (codes_of steps)
      (λ q there. assigned-there (mark marked) 0 codes q ∙ are.same q ∙ there)

  keys-apart : (key other : Key) → homed (given_to marked codes) key ≡ true → homed (given_to marked codes) other ≡ true
      → home_of (given_to marked codes) key ≡ home_of (given_to marked codes) other → key ≡ other
  keys-apart key other one two e =
      let found = some-of (home_of (given_to marked codes) key) one in
      code-apart key other (assigned-apart (mark marked) (mark-apart marked) 0 codes (code key) (code other) found.0 found.1 (sym e ∙ found.1))

  pub homes-fit : NeedsNamed (homed (given_to marked codes)) → IsFit steps (given_to marked codes)
  homes-fit needs = record {
    there = each-named (λ q. IsSome (home_at (assigned (mark marked) 0 codes) q)) steps
        (all-weaker (λ q h. some-is (home_at (assigned (mark marked) 0 codes) q) h) (codes_of steps) codes-homed);
    registers = given-registers marked codes;
    fits = apart-fits (homed (given_to marked codes)) (home_of (given_to marked codes)) keys-apart needs steps none
        (each-named (λ q. is_some (home_at (assigned (mark marked) 0 codes) q) ≡ true) steps codes-homed)
        (λ key never. absurd (false≢true never));
  }

  pub codes-low : NamesFew steps → AllByRecursion (λ q. q < 2 ^ 31) codes
  codes-low few =
      let each = named-follows (λ key. number_of key < 2 ^ 30) (λ key. code key < 2 ^ 31) number-low steps few in
      all-among (λ q. q < 2 ^ 31) codes
      (λ q there. all-at (λ q. q < 2 ^ 31) (codes_of steps) (all-named (λ q. q < 2 ^ 31) steps each) q (sym (are.same q) ∙ there))

  pub homes-ranked : (others : List ℕ) → EachNamed (λ key. Contains others (code key)) steps → IsRanked others (given_to marked codes)
  homes-ranked others each = λ key word e.
      let inside = all-among (Contains others) codes
      (λ q there. all-at (Contains others) (codes_of steps) (all-named (Contains others) steps each) q (sym (are.same q) ∙ there)) in
      spill-ranked (mark marked) (below others) (below-rises others) 0 0 codes are.rising (all-weaker (λ x h. below-next others x h) codes inside)
      (omega arith) (code key) word e

  pub homes-low : (key : Key) (word : ℕ) → home_of (given_to marked codes) key ≡ Some (home.Spill word) → word ≤ code key
  homes-low key word e = spill-ranked (mark marked) (λ n. n) (λ a b h. h) 0 0 codes are.rising (all-next codes) (omega arith) (code key) word e

-- Homes that are apart on all that a nest names fit it.
use Rattle.std.specs.Prelude.{◌≡◌, ℕ, true, ◌||◌, List, [], ◌∷◌}
use Rattle.std.specs.List.{AllByRecursion}
use Rattle.std.proofs.Common.{ap, sym, subst}
use Rattle.std.proofs.lemmas.Bool.{eqb-true, false≢true}
use Rattle.loop_ir.specs.Costs.{named}
use Rattle.loop_ir.specs.Kept.{EachNamed}
use Rattle.loop_ir.specs.Needed.{Keys, among, needed, none, sets}
use Rattle.loop_ir.specs.Running.{Key, Register, Pointer, is_key}
use Rattle.loop_ir.specs.Steps.{Action, Set, Copy, One, Two, Place, Spot, Walk, Read, Write, Steps, End, Then, For, If}
use Rattle.register_map.specs.Fits.{AreApart, Fits, Homes, SetsApart, at_head}
use Rattle.register_map.proofs.CodeLemmas.{or-cases}

key-same : (key other : Key) → is_key key other ≡ true → key ≡ other
key-same (Register number) (Register other) h = ap Register (eqb-true number other h)
key-same (Pointer number) (Pointer other) h = ap Pointer (eqb-true number other h)
key-same (Register number) (Pointer other) h = absurd (false≢true h)
key-same (Pointer number) (Register other) h = absurd (false≢true h)

among-each : (P : Key → Type 0) (keys : List Key) → AllByRecursion P keys → (key : Key) → among keys key ≡ true → P key
among-each P [] all key h = absurd (false≢true h)
among-each P (other ∷ keys) all key h =
    or-cases (is_key key other) (among keys key) h (λ same. subst P (sym (key-same key other same)) all.0)
    (λ later. among-each P keys all.1 key later)

-- what an action sets is among what it names
sets-named : (P : Key → Type 0) (action : Action) → AllByRecursion P (named action) → AllByRecursion P (sets action)
sets-named P (Set to value) all = all
sets-named P (Copy to from) all = (all.0, tt)
sets-named P (One op to from) all = (all.0, tt)
sets-named P (Two op to left right) all = (all.0, tt)
sets-named P (Place to word) all = all
sets-named P (Spot to word by) all = (all.0, tt)
sets-named P (Walk place words) all = all
sets-named P (Read to area place) all = (all.0, tt)
sets-named P (Write area place from) all = tt

-- these keys are all among others
abbrev pub Within : Keys → Keys → Type 0
Within keys others = (key : Key) → keys key ≡ true → others key ≡ true

abbrev pub Named : Keys → Steps → Type 0
Named keys steps = EachNamed (λ key. keys key ≡ true) steps

-- what is needed before steps is named by them, or needed after them
abbrev pub NeedsNamed : Keys → Type 0
NeedsNamed keys = (steps : Steps) (after : Keys) → Named keys steps → Within after keys → Within (needed steps after) keys

module _ (keys : Keys) (home : Homes) (apart : AreApart home keys) (needs : NeedsNamed keys) where
  apart-within : (some : Keys) → Within some keys → AreApart home some
  apart-within some within = λ key other one two. apart key other (within key one) (within other two)

  sets-within : (set : List Key) (some : Keys) → AllByRecursion (λ key. keys key ≡ true) set → Within some keys → SetsApart home set some
  sets-within set some all within = λ key other one two. apart key other (among-each (λ key. keys key ≡ true) set all key one) (within other two)

  head-within : (counter : ℕ) (body rest : Steps) (after : Keys) → keys (Register counter) ≡ true → Named keys body → Named keys rest
      → Within after keys
      → Within (at_head counter body rest after) keys
  head-within counter body rest after own inner later within = λ key there.
      or-cases (is_key key (Register counter)) (needed rest after key || needed body none key) there
      (λ same. subst (λ other. keys other ≡ true) (sym (key-same key (Register counter) same)) own)
      (λ more. or-cases (needed rest after key) (needed body none key) more (needs rest after later within key)
      (needs body none inner (λ other never. absurd (false≢true never)) key))

  pub apart-fits : (steps : Steps) (after : Keys) → Named keys steps → Within after keys → Fits home steps after
  apart-fits End after all within = apart-within after within
  apart-fits (Then action rest) after all within = (
    apart-within (needed (Then action rest) after) (needs (Then action rest) after all within),
    (
      sets-within (sets action) (needed rest after) (sets-named (λ key. keys key ≡ true) action all.0) (needs rest after all.1 within),
      apart-fits rest after all.1 within,
    ),
  )
  apart-fits (For counter turns body rest) after all within =
      let head = head-within counter body rest after all.0 all.1.0 all.1.1 within in (
        apart-within (needed (For counter turns body rest) after) (needs (For counter turns body rest) after all within),
        (
          apart-within (at_head counter body rest after) head,
          (
            sets-within (Register counter ∷ []) (at_head counter body rest after) (all.0, tt) head,
            (apart-fits body (at_head counter body rest after) all.1.0 head, apart-fits rest after all.1.1 within),
          ),
        ),
      )
  apart-fits (If left below one other rest) after all within =
      let later = needs rest after all.1.1.1 within in (
        apart-within (needed (If left below one other rest) after) (needs (If left below one other rest) after all within),
        (
          apart-fits one (needed rest after) all.1.0 later,
          (apart-fits other (needed rest after) all.1.1.0 later, apart-fits rest after all.1.1.1 within),
        ),
      )

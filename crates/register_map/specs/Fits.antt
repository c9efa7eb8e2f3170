-- When homes fit a nest: what is needed at one point never shares a home, and what is set takes nothing away that is needed behind it.
-- This project's own.
use Rattle.std.specs.Prelude.{◌≡◌, ℕ, ◌^◌, ◌<◌, ◌≤◌, nat_lt, ◌||◌, true, List, [], ◌∷◌, Option, Some, IsSome}
use Rattle.std.specs.List.{count_by}
use Rattle.loop_ir.specs.Kept.{EachNamed}
use Rattle.loop_ir.specs.Needed.{Keys, among, needed, none, sets}
use Rattle.loop_ir.specs.Running.{Key, Register, is_key}
use Rattle.loop_ir.specs.Steps.{Steps, End, Then, For, If}
use Rattle.register_map.specs.declared.home.Home.{Home}
use Rattle.register_map.specs.declared.home.Home.TheVariants as home
use Rattle.register_map.specs.Homes.{Given, code, home_of, is_given, number_of}

abbrev pub Homes : Type 0
Homes = Key → Option Home

-- two of these have different homes
abbrev pub AreApart : Homes → Keys → Type 0
AreApart home keys = (key other : Key) → keys key ≡ true → keys other ≡ true → home key ≡ home other → key ≡ other

-- what is set has another home than all else that is needed just after it, also where it is never read
abbrev pub SetsApart : Homes → List Key → Keys → Type 0
SetsApart home keys after = (key other : Key) → among keys key ≡ true → after other ≡ true → home key ≡ home other → key ≡ other

-- what is needed at the head of a loop, before each turn and after the last one
abbrev pub at_head : ℕ → Steps → Steps → Keys → Keys
at_head counter body rest after = λ key. is_key key (Register counter) || (needed rest after key || needed body none key)

-- at each point of steps, where this is needed after them
abbrev pub Fits : Homes → Steps → Keys → Type 0
Fits home End after = AreApart home after
Fits home (Then action rest) after =
    AreApart home (needed (Then action rest) after) × (SetsApart home (sets action) (needed rest after) × Fits home rest after)
Fits home (For counter turns body rest) after =
    AreApart home (needed (For counter turns body rest) after)
    × (AreApart home (at_head counter body rest after)
    × (SetsApart home (Register counter ∷ []) (at_head counter body rest after)
    × (Fits home body (at_head counter body rest after) × Fits home rest after)))
Fits home (If left below one other rest) after =
    AreApart home (needed (If left below one other rest) after)
    × (Fits home one (needed rest after) × (Fits home other (needed rest after) × Fits home rest after))

-- each register and place of a nest has a home, the machine registers are those that are given, and the homes fit the nest
pub record IsFit (nest : Steps) (given : Given) : Type 0 where
  pub there : EachNamed (λ key. IsSome (home_of given key)) nest
  pub registers : (key : Key) (number : ℕ) → home_of given key ≡ Some (home.Register number) → is_given number ≡ true
  pub fits : Fits (home_of given) nest none

-- the registers and places of a nest have numbers below 2 ^ 30
abbrev pub NamesFew : Steps → Type 0
NamesFew nest = EachNamed (λ key. number_of key < 2 ^ 30) nest

-- a spill word is at most the number of those of these codes that are smaller
abbrev pub IsRanked : List ℕ → Given → Type 0
IsRanked codes given = (key : Key) (word : ℕ) → home_of given key ≡ Some (home.Spill word) → word ≤ count_by (λ other. nat_lt other (code key)) codes

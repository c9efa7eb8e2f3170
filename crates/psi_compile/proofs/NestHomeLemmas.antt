-- The spill words of one nest are few, and prices are low.
use Rattle.std.specs.Prelude.{◌≡◌, ◌⊎◌, ℕ, suc, ◌+◌, ◌*◌, ◌^◌, ◌<◌, ◌≤◌, nat_lt, Bool, true, false, ℤ, FitsSigned, List, [], ◌∷◌, length, Some, if◌then◌else◌}
use Rattle.std.specs.Int.{w32}
use Rattle.std.specs.List.{AllByRecursion, Contains, range_with_len}
use Rattle.std.specs.declared.option.Option.{Option}
use Rattle.std.specs.declared.option.Option.TheVariants as option
use Rattle.std.proofs.Common.{inl, inr, arith}
use Rattle.std.proofs.lemmas.Bool.Decides.{Decides-ltb}
use Rattle.std.proofs.lemmas.List.FromFn.{get_or-range_with_len, length-range_with_len}
use Rattle.std.proofs.lemmas.List.Sums.{count_by-le-length}
use Rattle.shapes_core.specs.declared.area.Area.{Area}
use Rattle.stride_form.specs.Operational.{Operational}
use Rattle.loop_ir.specs.Costs.{named}
use Rattle.loop_ir.specs.Kept.{EachNamed}
use Rattle.loop_ir.specs.Needed.{Keys}
use Rattle.loop_ir.specs.Running.{Key, Pointer, Register}
use Rattle.loop_ir.specs.Steps.{Steps, End, Then, For, If}
use Rattle.nest_build.specs.Bounds.{AreLow, terms}
use Rattle.nest_build.specs.Gives.{IsBuildable}
use Rattle.nest_build.specs.Nests.{nest_of}
use Rattle.psi_compile.specs.Assigned.{IsAssigned}
use Rattle.register_map.specs.declared.home.Home.{Home}
use Rattle.register_map.specs.declared.home.Home.TheVariants as home
use Rattle.register_map.specs.Fits.{IsRanked, NamesFew}
use Rattle.register_map.specs.Homes.{Given, code, home_of, number_of}
use Rattle.rv_emit.specs.Moving.{is_near}
use Rattle.rv_emit.specs.Pricing.{prices_of, width_of}
use Rattle.rv_steps.specs.Constants.{constant_lines}

-- ---- prices

near-width : (near : Bool) → (if near then 1 else 3) ≤ 3
near-width true = omega arith
near-width false = omega arith

home-width : (home : Option Home) → width_of home ≤ 3
home-width option.None = omega arith
home-width (option.Some (home.Register number)) = omega arith
home-width (option.Some (home.Spill word)) = near-width (is_near word)

pub prices-low : ((to : ℕ) (value : ℤ) → length (constant_lines to value) ≤ 8)
    → ((to : ℕ) (value : ℤ) → FitsSigned w32 value → length (constant_lines to value) ≤ 2) → (given : Given) → AreLow (prices_of given)
prices-low most few given = record { most = most 31; short = few 31; width = λ key. home-width (home_of given key) }

-- ---- spill words

below-contained : (n number : ℕ) → nat_lt number n ≡ true → Contains (range_with_len 0 n) number
below-contained n number e =
    let under = (Decides-ltb number n).0 e in
    let long = length-range_with_len 0 n in
    let same = get_or-range_with_len 0 n number number under in
    (number, omega (arith, under, long), omega (arith, same))

each-key : (P Q : Key → Type 0) → ((key : Key) → P key → Q key) → (list : List Key) → AllByRecursion P list → AllByRecursion Q list
each-key P Q f [] h = tt
each-key P Q f (key ∷ list) h = (f key h.0, each-key P Q f list h.1)

pub named-follows : (P Q : Key → Type 0) → ((key : Key) → P key → Q key) → (steps : Steps) → EachNamed P steps → EachNamed Q steps
named-follows P Q f End h = tt
named-follows P Q f (Then action rest) h = (each-key P Q f (named action) h.0, named-follows P Q f rest h.1)
named-follows P Q f (For counter turns body rest) h =
    (f (Register counter) h.0, (named-follows P Q f body h.1.0, named-follows P Q f rest h.1.1))
named-follows P Q f (If left below one other rest) h =
    (f (Register left) h.0, (named-follows P Q f one h.1.0, (named-follows P Q f other h.1.1.0, named-follows P Q f rest h.1.1.1)))

-- ---- numbers

pub test-names : (nest : Steps) → EachNamed (λ key. nat_lt (number_of key) (2 ^ 30) ≡ true) nest → NamesFew nest
test-names nest h =
    named-follows (λ key. nat_lt (number_of key) (2 ^ 30) ≡ true) (λ key. number_of key < 2 ^ 30)
    (λ key e. (Decides-ltb (number_of key) (2 ^ 30)).0 e) nest h

-- ---- words of homes

-- a spill word is at most so many as there are codes
ranked-few : (codes : List ℕ) (given : Given) (most : ℕ) → length codes ≡ most → IsRanked codes given
    → (given.spill ≡ 0) ⊎ ((key : Key) × (word : ℕ) × (home_of given key ≡ Some (home.Spill word)) × (given.spill ≡ suc word))
    → given.spill ≤ suc most
ranked-few codes given most long ranked (inl none) = omega (arith, none)
ranked-few codes given most long ranked (inr last) =
    let rank = ranked last.0 last.1 last.2 in
    let few = count_by-le-length (λ other. nat_lt other (code last.0)) codes in
    omega (arith, rank, few, long, last.3)

pub spill-few : (nest : Steps) (given : Given) (most : ℕ) → IsAssigned nest given → EachNamed (λ key. nat_lt (code key) most ≡ true) nest
    → given.spill ≤ suc most
spill-few nest given most assigned named =
    let codes = range_with_len 0 most in
    ranked-few codes given most (length-range_with_len 0 most)
    (assigned.ranked codes
    (named-follows (λ key. nat_lt (code key) most ≡ true) (λ key. Contains codes (code key))
    (λ key e. below-contained most (code key) e) nest named))
    assigned.homes.least

-- ---- the names and the spill words of a job's nest

abbrev pub NameLaw : Type 0
NameLaw = (keys : Keys) (areas : List Area) (own : ℕ) (shape : List ℕ) (region : List (ℕ × ℕ)) (form : Operational)
    → IsBuildable areas own shape region form
    → ((number : ℕ) → number < 6 + terms form → keys (Register number) ≡ true)
    → ((number : ℕ) → number < 7 + 2 * terms form → keys (Pointer number) ≡ true)
    → EachNamed (λ key. keys key ≡ true) (nest_of areas own shape region form)

pub job-names : NameLaw → (areas : List Area) (own : ℕ) (shape : List ℕ) (region : List (ℕ × ℕ)) (form : Operational)
    → IsBuildable areas own shape region form → terms form ≤ 1024 → NamesFew (nest_of areas own shape region form)
job-names law areas own shape region form built few =
    test-names (nest_of areas own shape region form) (law (λ key. nat_lt (number_of key) (2 ^ 30)) areas own shape region form built
    (λ number under. (Decides-ltb number (2 ^ 30)).1 (omega (arith, under, few)))
    (λ number under. (Decides-ltb number (2 ^ 30)).1 (omega (arith, under, few))))

pub job-spill : NameLaw → (areas : List Area) (own : ℕ) (shape : List ℕ) (region : List (ℕ × ℕ)) (form : Operational) (given : Given)
    → IsBuildable areas own shape region form → IsAssigned (nest_of areas own shape region form) given → given.spill ≤ 8 * (2 + terms form)
job-spill law areas own shape region form given built assigned =
    let most = 14 + 4 * terms form in
    let named = law (λ key. nat_lt (code key) most) areas own shape region form built
    (λ number under. (Decides-ltb (2 * number) most).1 (omega (arith, under)))
    (λ number under. (Decides-ltb (suc (2 * number)) most).1 (omega (arith, under))) in
    let few = spill-few (nest_of areas own shape region form) given most assigned named in
    omega (arith, few)

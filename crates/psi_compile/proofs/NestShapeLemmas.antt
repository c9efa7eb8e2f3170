-- The nests of a program have no choice, keep their counters, set registers to numbers that fit, and need nothing.
use Rattle.std.specs.Prelude.{◌≡◌, ℕ, ◌+◌, true, false, pos, ◌-ℤ◌, List, [], ◌∷◌, ◌++◌, length, map}
use Rattle.std.specs.List.{AllByRecursion}
use Rattle.std.specs.declared.option.Option.{Option}
use Rattle.std.specs.declared.option.Option.TheVariants.{None, Some}
use Rattle.std.proofs.Common.{refl, sym, subst}
use Rattle.shapes_core.specs.declared.area.Area.{Area}
use Rattle.shapes_core.specs.Shape.{IsShape}
use Rattle.normal_form.specs.Forms.{Normal}
use Rattle.normal_form.specs.Kept.{IsBox}
use Rattle.stride_form.specs.Operational.{Operational, operational}
use Rattle.loop_ir.specs.Fitting.{Fits64, SetsFit}
use Rattle.loop_ir.specs.Kept.{KeepsCounters}
use Rattle.loop_ir.specs.Needed.{needed, none}
use Rattle.loop_ir.specs.Running.{Key}
use Rattle.loop_ir.specs.Steps.{Action, Place, Write, Steps, End, Then, For, If, joined}
use Rattle.nest_build.specs.Gives.{IsBuildable}
use Rattle.nest_build.specs.Nests.{Spot, all_loops, inner_loops, listed, made_of, nest_of, own_access, sets_from, spots_from, walks}
use Rattle.nest_build.specs.Parts.{Loop, accesses, is_straight, literals, loops_from, low_of, values_of}
use Rattle.nest_jobs.specs.Sources.{IsNestOf, form_passes}
use Rattle.rv_emit.specs.Simulating.{TestsFit}
use Rattle.psi_compile.proofs.NestSourceLemmas.{any_op, fits_test, literals-fit}

-- ---- choices

tests-joined : (first second : Steps) → TestsFit first → TestsFit second → TestsFit (joined first second)
tests-joined End second h k = k
tests-joined (Then action rest) second h k = tests-joined rest second h k
tests-joined (For counter turns body rest) second h k = (h.0, tests-joined rest second h.1 k)
tests-joined (If left below one other rest) second h k = (h.0, (h.1.0, (h.1.1.0, tests-joined rest second h.1.1.1 k)))

tests-listed : (actions : List Action) → TestsFit (listed actions)
tests-listed [] = tt
tests-listed (action ∷ actions) = tests-listed actions

-- a turn of a loop: its body, and then each place walks
tests-turn : (spots : List Spot) (var : ℕ) (body : Steps) → TestsFit body → TestsFit (joined body (listed (walks spots var (pos 1))))
tests-turn spots var body h = tests-joined body (listed (walks spots var (pos 1))) h (tests-listed (walks spots var (pos 1)))

tests-inner : (spots : List Spot) (loops : List Loop) (body : Steps) → TestsFit body → TestsFit (inner_loops spots loops body)
tests-inner spots [] body h = h
tests-inner spots (loop ∷ loops) body h = (
  tests-turn spots loop.var (inner_loops spots loops body) (tests-inner spots loops body h),
  tests-listed (walks spots loop.var (pos 0 -ℤ pos loop.turns)),
)

tests-all : (spots : List Spot) (loops : List Loop) (body : Steps) → TestsFit body → TestsFit (all_loops spots loops body)
tests-all spots [] body h = h
tests-all spots (loop ∷ loops) body h = (
  tests-turn spots loop.var (inner_loops spots loops body) (tests-inner spots loops body h),
  tt,
)

tests-nest : (areas : List Area) (own : ℕ) (shape : List ℕ) (region : List (ℕ × ℕ)) (form : Operational)
    → TestsFit (nest_of areas own shape region form)
tests-nest areas own shape region form =
    let loops = loops_from 0 0 region in
    let literal = length loops in
    let free = literal + length (literals form) in
    let place = free + values_of form in
    let spots = spots_from areas region place (accesses form ++ own_access own shape ∷ []) in
    let made = made_of loops (low_of region) free literal place form in
    let body = made.steps ++ Write own (place + length (accesses form)) made.value ∷ [] in
    let places = map (λ spot. Place spot.place spot.word) spots in
    tests-joined (listed (sets_from literal (literals form))) (joined (listed places) (all_loops spots loops (listed body)))
    (tests-listed (sets_from literal (literals form)))
    (tests-joined (listed places) (all_loops spots loops (listed body)) (tests-listed places)
    (tests-all spots loops (listed body) (tests-listed body)))

-- ---- nests

-- what steps have by themselves that are ready
pub record IsCalm (nest : Steps) : Type 0 where
  pub counters : KeepsCounters nest
  pub sets : SetsFit nest
  pub tests : TestsFit nest
  pub free : (key : Key) → needed nest none key ≡ false

pub record CalmLaws : Type 0 where
  pub nothing : (areas : List Area) (own : ℕ) (shape : List ℕ) (region : List (ℕ × ℕ)) (form : Operational) (key : Key)
      → is_straight form ≡ true → needed (nest_of areas own shape region form) none key ≡ false
  pub counters : (areas : List Area) (own : ℕ) (shape : List ℕ) (region : List (ℕ × ℕ)) (form : Operational)
      → IsShape shape → IsBox region shape → KeepsCounters (nest_of areas own shape region form)
  pub fit : (areas : List Area) (own : ℕ) (shape : List ℕ) (region : List (ℕ × ℕ)) (form : Operational)
      → IsBuildable areas own shape region form → AllByRecursion Fits64 (literals form) → SetsFit (nest_of areas own shape region form)

-- the literals of a form fit, where there is one
abbrev pub Passing : Option Normal → Type 0
Passing None = Unit {0}
Passing (Some form) = form_passes any_op fits_test (operational form) ≡ true

pub nest-calm : CalmLaws → (areas : List Area) (form : Option Normal) (shape : List ℕ) (nest : Steps) → IsNestOf areas form shape nest
    → Passing form → IsCalm nest
nest-calm laws areas None shape nest same pass =
    subst IsCalm (sym same) (record { counters = tt; sets = tt; tests = tt; free = λ key. refl })
nest-calm laws areas (Some form) shape nest of pass =
    let own = of.0 in
    let region = map (λ n. (0, n)) shape in
    let built = of.2 in
    subst IsCalm (sym of.1)
    (record {
      counters = laws.counters areas own shape region (operational form) built.within built.box;
      sets = laws.fit areas own shape region (operational form) built (literals-fit (operational form) pass);
      tests = tests-nest areas own shape region (operational form);
      free = λ key. laws.nothing areas own shape region (operational form) key built.straight;
    })

-- The nests of a program with homes of their own are ready, and keep bounds.
use Rattle.std.specs.Prelude.{◌≡◌, ◌⊎◌, ℕ, suc, ◌+◌, ◌-◌, ◌*◌, ◌≤◌, max, nat_lt, true, List, [], ◌∷◌, map}
use Rattle.std.specs.List.{AllByRecursion, AllZip, sum_by, zip}
use Rattle.std.specs.declared.option.Option.{Option}
use Rattle.std.specs.declared.option.Option.TheVariants.{None, Some}
use Rattle.std.proofs.Common.{inl, inr, refl, ap, sym, subst, arith}
use Rattle.std.proofs.lemmas.List.Sums.{sum_by-cons}
use Rattle.shapes_core.specs.Limits.{most_words}
use Rattle.shapes_core.specs.declared.area.Area.{Area}
use Rattle.shapes_core.specs.Shape.{total}
use Rattle.normal_form.specs.Forms.{Normal}
use Rattle.psi_rules.specs.Areas.{Given as Array}
use Rattle.stride_form.specs.Operational.{Operational, operational}
use Rattle.loop_ir.specs.Costs.{Prices, cost, time}
use Rattle.loop_ir.specs.Kept.{EachNamed}
use Rattle.loop_ir.specs.Steps.{Steps}
use Rattle.nest_build.specs.Bounds.{AreLow, places_in, terms}
use Rattle.nest_build.specs.Gives.{AreLaidOut, IsBuildable}
use Rattle.nest_build.specs.Nests.{nest_of}
use Rattle.nest_jobs.specs.Sizes.{form_size, form_sizes, form_work, form_works}
use Rattle.nest_jobs.specs.Sources.{AreNestsOf, IsNestOf}
use Rattle.psi_compile.specs.Assigned.{IsAssigned}
use Rattle.register_map.specs.Fits.{NamesFew}
use Rattle.register_map.specs.Homes.{Given, code}
use Rattle.rv_emit.specs.Pricing.{prices_of}
use Rattle.rv_emit.specs.Programs.{most_spill}
use Rattle.rv_emit.specs.Simulating.{AreHomed, AreReady, IsReady}
use Rattle.psi_compile.proofs.NestHomeLemmas.{NameLaw, job-names, job-spill, spill-few}
use Rattle.psi_compile.proofs.NestShapeLemmas.{CalmLaws, Passing, nest-calm}

-- ---- ready

one-ready : CalmLaws → (areas : List Area) (form : Option Normal) (shape : List ℕ) (nest : Steps) (given : Given) (spill : ℕ)
    → IsNestOf areas form shape nest → Passing form → IsAssigned nest given → given.spill ≤ spill → IsReady spill (nest, given)
one-ready laws areas form shape nest given spill of pass assigned within =
    let calm = nest-calm laws areas form shape nest of pass in
    record {
      homed = record { given = assigned.homes; within = within; fit = assigned.fit };
      counters = calm.counters;
      sets = calm.sets;
      tests = calm.tests;
      free = calm.free;
    }

max-parts : (a b most : ℕ) → max a b ≤ most → (a ≤ most) × (b ≤ most)
max-parts a b most h = (omega (arith, h), omega (arith, h))

pub all-ready : CalmLaws → (areas : List Area) (forms : List (Option Normal)) (arrays : List Array) (nests : List Steps)
    (homes : List Given) (spill : ℕ) → AreNestsOf areas forms arrays nests → AllByRecursion Passing forms
    → AllZip IsAssigned nests homes → most_spill homes ≤ spill → AreReady spill (zip nests homes)
all-ready laws areas [] [] [] [] spill of pass assigned within = tt
all-ready laws areas (form ∷ forms) (array ∷ arrays) (nest ∷ nests) (given ∷ homes) spill of pass assigned within =
    let parts = max-parts given.spill (most_spill homes) spill within in (
      one-ready laws areas form array.shape nest given spill of.0 pass.0 assigned.0 parts.0,
      all-ready laws areas forms arrays nests homes spill of.1 pass.1 assigned.1 parts.1,
    )
all-ready laws areas [] [] [] (given ∷ homes) spill of pass assigned within = absurd assigned
all-ready laws areas (form ∷ forms) (array ∷ arrays) (nest ∷ nests) [] spill of pass assigned within = absurd assigned
all-ready laws areas _ _ _ _ spill of pass assigned within = absurd of

pub homed-of : (spill : ℕ) (nests : List (Steps × Given)) → AreReady spill nests → AreHomed spill nests
homed-of spill [] ready = tt
homed-of spill (nest ∷ nests) ready = (ready.0.homed, homed-of spill nests ready.1)

-- ---- names

one-few : NameLaw → (areas : List Area) (form : Option Normal) (shape : List ℕ) (nest : Steps) → IsNestOf areas form shape nest
    → form_size form ≤ 1024 → NamesFew nest
one-few law areas None shape nest same within = subst NamesFew (sym same) tt
one-few law areas (Some form) shape nest of within =
    let region : List (ℕ × ℕ) = map (λ n. (0, n)) shape in
    subst NamesFew (sym of.1) (job-names law areas of.0 shape region (operational form) of.2 (omega (arith, within)))

both-few : (a b : ℕ) → a + b ≤ 1024 → (a ≤ 1024) × (b ≤ 1024)
both-few a b h = (omega (arith, h), omega (arith, h))

pub all-few : NameLaw → (areas : List Area) (forms : List (Option Normal)) (arrays : List Array) (nests : List Steps)
    → AreNestsOf areas forms arrays nests → form_sizes forms ≤ 1024 → AllByRecursion NamesFew nests
all-few law areas [] [] [] of within = tt
all-few law areas (form ∷ forms) (array ∷ arrays) (nest ∷ nests) of within =
    let parts = both-few (form_size form) (form_sizes forms) within in
    (one-few law areas form array.shape nest of.0 parts.0, all-few law areas forms arrays nests of.1 parts.1)
all-few law areas _ _ _ of within = absurd of

-- ---- spill words

one-spill : NameLaw → (areas : List Area) (form : Option Normal) (shape : List ℕ) (nest : Steps) (given : Given) (most : ℕ)
    → IsNestOf areas form shape nest → IsAssigned nest given → 1 ≤ most → 8 * form_size form ≤ most → given.spill ≤ most
one-spill law areas None shape nest given most same assigned some within =
    let few = spill-few nest given 0 assigned (subst (λ n. EachNamed (λ key. nat_lt (code key) 0 ≡ true) n) (sym same) tt) in
    omega (arith, few, some)
one-spill law areas (Some form) shape nest given most of assigned some within =
    let region : List (ℕ × ℕ) = map (λ n. (0, n)) shape in
    let few : given.spill ≤ 8 * (2 + terms (operational form)) =
    job-spill law areas of.0 shape region (operational form) given of.2 (subst (λ n. IsAssigned n given) of.1 assigned) in
    omega (arith, few, within)

sum-parts : (a b most : ℕ) → 8 * (a + b) ≤ most → (8 * a ≤ most) × (8 * b ≤ most)
sum-parts a b most h = (omega (arith, h), omega (arith, h))

both-below : (a b most : ℕ) → a ≤ most → b ≤ most → max a b ≤ most
both-below a b most h k = omega (arith, h, k)

pub all-spill : NameLaw → (areas : List Area) (forms : List (Option Normal)) (arrays : List Array) (nests : List Steps) (homes : List Given)
    (most : ℕ) → AreNestsOf areas forms arrays nests → AllZip IsAssigned nests homes → 1 ≤ most → 8 * form_sizes forms ≤ most
    → most_spill homes ≤ most
all-spill law areas [] [] [] [] most of assigned some within = omega arith
all-spill law areas (form ∷ forms) (array ∷ arrays) (nest ∷ nests) (given ∷ homes) most of assigned some within =
    let parts = sum-parts (form_size form) (form_sizes forms) most within in
    both-below given.spill (most_spill homes) most (one-spill law areas form array.shape nest given most of.0 assigned.0 some parts.0)
    (all-spill law areas forms arrays nests homes most of.1 assigned.1 some parts.1)
all-spill law areas [] [] [] (given ∷ homes) most of assigned some within = absurd assigned
all-spill law areas (form ∷ forms) (array ∷ arrays) (nest ∷ nests) [] most of assigned some within = absurd assigned
all-spill law areas _ _ _ _ most of assigned some within = absurd of

-- ---- sums with a bound that is not reached, where there is one

abbrev pub IsWithin : ℕ → ℕ → Type 0
IsWithin sum most = (sum ≡ 0) ⊎ (suc sum ≤ most)

within-both : (a b m n sum most : ℕ) → sum ≡ a + b → most ≡ m + n → IsWithin a m → IsWithin b n → IsWithin sum most
within-both a b m n sum most e f (inl h) (inl k) = inl (omega (arith, e, h, k))
within-both a b m n sum most e f (inl h) (inr k) = inr (omega (arith, e, f, h, k))
within-both a b m n sum most e f (inr h) (inl k) = inr (omega (arith, e, f, h, k))
within-both a b m n sum most e f (inr h) (inr k) = inr (omega (arith, e, f, h, k))

-- ---- lines

abbrev pub LineLaw : Type 0
LineLaw = (prices : Prices) (areas : List Area) (words own : ℕ) (shape : List ℕ) (region : List (ℕ × ℕ)) (form : Operational)
    → AreLow prices → AreLaidOut areas words → words ≤ most_words → IsBuildable areas own shape region form
    → 1 + cost prices (nest_of areas own shape region form) ≤ 240 * (2 + terms form)

abbrev pub StepLaw : Type 0
StepLaw = (prices : Prices) (areas : List Area) (words own : ℕ) (shape : List ℕ) (region : List (ℕ × ℕ)) (form : Operational)
    → AreLow prices → AreLaidOut areas words → words ≤ most_words → IsBuildable areas own shape region form
    → 1 + time prices (nest_of areas own shape region form) ≤ 1024 * ((1 + places_in region) * (1 + terms form))

by-240 : (a b : ℕ) → 240 * (a + b) ≡ 240 * a + 240 * b
by-240 a b = omega arith

by-1024 : (a b : ℕ) → 1024 * (a + b) ≡ 1024 * a + 1024 * b
by-1024 a b = omega arith

after-one : (a b : ℕ) → 1 + a ≤ b → suc a ≤ b
after-one a b h = omega (arith, h)

whole-places : (shape : List ℕ) → places_in (map (λ n. (0, n)) shape) ≡ total shape
whole-places [] = refl
whole-places (n ∷ shape) = let all : n - 0 ≡ n = omega arith in rw (all, whole-places shape) refl

module _ (areas : List Area) (words : ℕ) (low : (given : Given) → AreLow (prices_of given)) (laid : AreLaidOut areas words)
    (few : words ≤ most_words) where
  one-line : LineLaw → (form : Option Normal) (shape : List ℕ) (nest : Steps) (given : Given) → IsNestOf areas form shape nest
      → IsWithin (cost (prices_of given) nest) (240 * form_size form)
  one-line law None shape nest given same = inl (ap (cost (prices_of given)) same)
  one-line law (Some form) shape nest given of =
      let region = map (λ n. (0, n)) shape in
      let bound = law (prices_of given) areas words of.0 shape region (operational form) (low given) laid few of.2 in
      inr (subst (λ n. suc (cost (prices_of given) n) ≤ 240 * (2 + terms (operational form))) (sym of.1) (after-one _ _ bound))

  pub all-lines : LineLaw → (forms : List (Option Normal)) (arrays : List Array) (nests : List Steps) (homes : List Given)
      → AreNestsOf areas forms arrays nests → AllZip IsAssigned nests homes
      → IsWithin (sum_by (λ nest. cost (prices_of nest.1) nest.0) (zip nests homes)) (240 * form_sizes forms)
  all-lines law [] [] [] [] of assigned = inl refl
  all-lines law (form ∷ forms) (array ∷ arrays) (nest ∷ nests) (given ∷ homes) of assigned =
      within-both (cost (prices_of given) nest) (sum_by (λ nest. cost (prices_of nest.1) nest.0) (zip nests homes))
      (240 * form_size form) (240 * form_sizes forms) _ _
      (sum_by-cons (λ nest. cost (prices_of nest.1) nest.0) (nest, given) (zip nests homes)) (by-240 (form_size form) (form_sizes forms))
      (one-line law form array.shape nest given of.0) (all-lines law forms arrays nests homes of.1 assigned.1)
  all-lines law [] [] [] (given ∷ homes) of assigned = absurd assigned
  all-lines law (form ∷ forms) (array ∷ arrays) (nest ∷ nests) [] of assigned = absurd assigned
  all-lines law _ _ _ _ of assigned = absurd of

  -- ---- steps

  one-step : StepLaw → (form : Option Normal) (array : Array) (nest : Steps) (given : Given) → IsNestOf areas form array.shape nest
      → IsWithin (time (prices_of given) nest) (1024 * form_work form array)
  one-step law None array nest given same = inl (ap (time (prices_of given)) same)
  one-step law (Some form) array nest given of =
      let region = map (λ n. (0, n)) array.shape in
      let bound = law (prices_of given) areas words of.0 array.shape region (operational form) (low given) laid few of.2 in
      inr (subst (λ n. suc (time (prices_of given) n) ≤ 1024 * ((1 + total array.shape) * (1 + terms (operational form)))) (sym of.1)
      (subst (λ p. suc (time (prices_of given) (nest_of areas of.0 array.shape region (operational form)))
      ≤ 1024 * ((1 + p) * (1 + terms (operational form)))) (whole-places array.shape) (after-one _ _ bound)))

  pub all-steps : StepLaw → (forms : List (Option Normal)) (arrays : List Array) (nests : List Steps) (homes : List Given)
      → AreNestsOf areas forms arrays nests → AllZip IsAssigned nests homes
      → IsWithin (sum_by (λ nest. time (prices_of nest.1) nest.0) (zip nests homes)) (1024 * form_works forms arrays)
  all-steps law [] [] [] [] of assigned = inl refl
  all-steps law (form ∷ forms) (array ∷ arrays) (nest ∷ nests) (given ∷ homes) of assigned =
      within-both (time (prices_of given) nest) (sum_by (λ nest. time (prices_of nest.1) nest.0) (zip nests homes))
      (1024 * form_work form array) (1024 * form_works forms arrays) _ _
      (sum_by-cons (λ nest. time (prices_of nest.1) nest.0) (nest, given) (zip nests homes))
      (by-1024 (form_work form array) (form_works forms arrays))
      (one-step law form array nest given of.0) (all-steps law forms arrays nests homes of.1 assigned.1)
  all-steps law [] [] [] (given ∷ homes) of assigned = absurd assigned
  all-steps law (form ∷ forms) (array ∷ arrays) (nest ∷ nests) [] of assigned = absurd assigned
  all-steps law _ _ _ _ of assigned = absurd of

-- ---- the whole

pub lines-below : (sum sizes size : ℕ) → IsWithin sum (240 * sizes) → sizes ≤ size → 1 ≤ size → 1 + sum ≤ 240 * size
lines-below sum sizes size (inl e) h some = omega (arith, e, some)
lines-below sum sizes size (inr k) h some = omega (arith, k, h)

pub steps-below : (sum works work : ℕ) → IsWithin sum (1024 * works) → works ≤ work → 1 ≤ work → 1 + sum ≤ 1024 * work
steps-below sum works work (inl e) h some = omega (arith, e, some)
steps-below sum works work (inr k) h some = omega (arith, k, h)

pub spill-below : (sizes size : ℕ) → sizes ≤ size → 8 * sizes ≤ 8 * size
spill-below sizes size h = omega (arith, h)

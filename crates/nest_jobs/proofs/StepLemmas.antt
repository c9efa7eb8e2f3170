-- The nest of one job: where the areas before the job's own hold their lists, its own does behind the nest.
use Rattle.std.specs.Prelude.{◌≡◌, ◌≢◌, ℕ, zero, suc, ◌+◌, ◌<◌, ◌⊎◌, true, ℤ, pos, List, [], ◌∷◌, ◌++◌, length, map, slice_get, slice_index_or, unsigned_abs}
use Rattle.std.specs.List.{AllByRecursion}
use Rattle.std.specs.declared.option.Option.{Option}
use Rattle.std.specs.declared.option.Option.TheVariants.{None, Some}
use Rattle.std.proofs.Common.{refl, ap, ap₂, sym, subst, ◌∙◌, arith, append_assoc, inl, inr}
use Rattle.std.proofs.lemmas.Bool.{and_parts, false≢true}
use Rattle.std.proofs.lemmas.List.{ext_get_or}
use Rattle.std.proofs.lemmas.List.FromFn.{get_or-map-range_with_len, length-map-range_with_len}
use Rattle.std.proofs.lemmas.Option.{none-some, same_Some}
use Rattle.shapes_core.specs.declared.area.Area.{Area}
use Rattle.shapes_core.specs.Gamma.{IsIndex, gamma, ungamma}
use Rattle.shapes_core.specs.Shape.{total}
use Rattle.moa_tree.specs.Operators.{apply, apply_unary}
use Rattle.normal_form.specs.Assignments.{Assignment, assigned}
use Rattle.normal_form.specs.Forms.{Lit, Index, Get, Un, Bin, Case, Fold, Let, Normal}
use Rattle.normal_form.specs.Kept.{IsInBox}
use Rattle.normal_form.specs.Meaning.{Store, meaning}
use Rattle.stride_form.specs.declared.access.Access.{Access}
use Rattle.stride_form.specs.Accesses.{access_value, place_of}
use Rattle.stride_form.specs.Operational.{Operational, operational}
use Rattle.loop_ir.specs.Inside.{IsInside, IsWordOf}
use Rattle.loop_ir.specs.Running.{Access as Touch, State, run}
use Rattle.nest_build.specs.Gives.{AddsInside, AreLaidOut, Gives, IsBuildable, IsReachedWithin, store_of}
use Rattle.nest_build.specs.Nests.{nest_of, start_of}
use Rattle.nest_build.specs.Parts.{accesses, is_straight}
use Rattle.nest_jobs.specs.Leads.{area_values, nest_at}
use Rattle.nest_jobs.proofs.BeforeLemmas.{LoadsBefore}
use Rattle.nest_jobs.proofs.BuildLemmas.{index-whole, whole-index}
use Rattle.nest_jobs.proofs.ListLemmas.{each-append, each-both, each-cut}
use Rattle.nest_jobs.proofs.UnboundLemmas.{RuleLaw, straight-stays}

-- ---- the words of an area

area-length : (words : List ℤ) (area : Area) → length (area_values words area) ≡ total area.shape
area-length words area = length-map-range_with_len (λ k. slice_index_or words (area.start + k) (pos 0)) 0 (total area.shape)

area-at : (words : List ℤ) (area : Area) (place : ℕ) → place < total area.shape
    → slice_index_or (area_values words area) place (pos 0) ≡ slice_index_or words (area.start + place) (pos 0)
area-at words area place below =
    get_or-map-range_with_len (λ k. slice_index_or words (area.start + k) (pos 0)) 0 (total area.shape) place place (pos 0) below
    (omega arith)

-- an area holds a list where each of its words is the list's element
area-holds : (words : List ℤ) (area : Area) (list : List ℤ) → length list ≡ total area.shape
    → ((place : ℕ) → place < total area.shape → slice_index_or words (area.start + place) (pos 0) ≡ slice_index_or list place (pos 0))
    → area_values words area ≡ list
area-holds words area list long same =
    let size = area-length words area in
    ext_get_or (pos 0) (area_values words area) list (omega (arith, size, long)) (λ place below.
    let within : place < total area.shape = omega (arith, below, size) in
    area-at words area place within ∙ same place within)

-- an area of the same words holds the same
area-as : (words others : List ℤ) (area : Area)
    → ((place : ℕ) → place < total area.shape
    → slice_index_or words (area.start + place) (pos 0) ≡ slice_index_or others (area.start + place) (pos 0))
    → area_values words area ≡ area_values others area
area-as words others area same =
    area-holds words area (area_values others area) (area-length others area)
    (λ place below. same place below ∙ sym (area-at others area place below))

-- a number up to another one is below it or is it
le_cases : (number own : ℕ) → number < suc own → (number < own) ⊎ (number ≡ own)
le_cases number own below = grind (arith, below)

start-at : (areas : List Area) (number : ℕ) (area : Area) → slice_get areas number ≡ Some area → start_of areas number ≡ area.start
start-at [] number area e = absurd (none-some area e)
start-at (first ∷ others) zero area e = ap (λ a. a.start) (same_Some first area e)
start-at (first ∷ others) (suc number) area e = start-at others number area e

-- ---- meanings

-- forms mean the same where their accesses have the same values
means-same : (s t : Store) (m : Assignment) (form : Operational) → is_straight form ≡ true
    → AllByRecursion (λ access. access_value s m access ≡ access_value t m access) (accesses form)
    → meaning (access_value s) m form ≡ meaning (access_value t) m form
means-same s t m (Lit value) straight h = refl
means-same s t m (Index entry) straight h = refl
means-same s t m (Get access) straight h = h.0
means-same s t m (Un op of) straight h = ap (apply_unary op) (means-same s t m of straight h)
means-same s t m (Bin op left right) straight h =
    let both = and_parts (is_straight left) (is_straight right) straight in
    let parts = each-cut (λ access. access_value s m access ≡ access_value t m access) (accesses left) (accesses right) h in
    ap₂ (apply op) (means-same s t m left both.0 parts.0) (means-same s t m right both.1 parts.1)
means-same s t m (Case entry below first second) straight h = absurd (false≢true straight)
means-same s t m (Fold op var low high of) straight h = absurd (false≢true straight)
means-same s t m (Let var bind of) straight h = absurd (false≢true straight)

-- ---- traces

pub inside-none : (areas : List Area) (trace : List Touch) → AddsInside areas trace trace
inside-none areas trace = record { more = []; same = refl; inside = tt }

pub inside-both : (areas : List Area) (before middle after : List Touch) → AddsInside areas before middle → AddsInside areas middle after
    → AddsInside areas before after
inside-both areas before middle after h k = record {
  more = k.more ++ h.more;
  same = k.same ∙ ap (λ l. k.more ++ l) h.same ∙ sym (append_assoc k.more h.more before);
  inside = each-append (IsInside areas) k.more h.more k.inside h.inside;
}

-- ---- jobs

-- what nests do, which index vectors offsets have, and what the rules change
pub record NestLaws : Type 0 where
  pub gives : (areas : List Area) (own : ℕ) (shape : List ℕ) (region : List (ℕ × ℕ)) (form : Operational) (state : State)
      → AreLaidOut areas (length state.words) → IsBuildable areas own shape region form
      → Gives areas own shape region form state.words (run (nest_of areas own shape region form) state).words
  pub inside : (areas : List Area) (own : ℕ) (shape : List ℕ) (region : List (ℕ × ℕ)) (form : Operational) (state : State)
      → AreLaidOut areas (length state.words) → IsBuildable areas own shape region form
      → AddsInside areas state.trace (run (nest_of areas own shape region form) state).trace
  pub is_index : (shape : List ℕ) (offset : ℕ) → offset < total shape → IsIndex (ungamma shape offset) shape
  pub of_ungamma : (shape : List ℕ) (offset : ℕ) → offset < total shape → gamma (ungamma shape offset) shape ≡ offset
  pub below : (index shape : List ℕ) → IsIndex index shape → gamma index shape < total shape
  pub rules : RuleLaw

module _ (areas : List Area) (lists : List (List ℤ)) where
  abbrev pub held : Store
  held area place = slice_index_or (slice_index_or lists area []) place (pos 0)

  -- each area before this one holds its list
  abbrev pub HoldBefore : ℕ → List ℤ → Type 0
  HoldBefore own words =
      (number : ℕ) (area : Area) → number < own → slice_get areas number ≡ Some area
      → area_values words area ≡ slice_index_or lists number []

  -- a form that can be built, loads from areas before the job's own, and means the elements of its list
  pub record IsMeant (own : ℕ) (shape : List ℕ) (form : Normal) : Type 0 where
    pub built : IsBuildable areas own shape (map (λ n. (0, n)) shape) (operational form)
    pub before : LoadsBefore own form
    pub means : (index : List ℕ) → IsIndex index shape
        → meaning (access_value held) (assigned index) (operational form) ≡ held own (gamma index shape)

  abbrev pub GivesList : ℕ → List ℕ → Option Normal → Type 0
  GivesList own shape None = total shape ≡ 0
  GivesList own shape (Some form) = IsMeant own shape form

  -- a job whose area has its array's shape and its list's length
  pub record IsJob (own : ℕ) (shape : List ℕ) (form : Option Normal) : Type 0 where
    pub area : Area
    pub there : slice_get areas own ≡ Some area
    pub shaped : area.shape ≡ shape
    pub long : length (slice_index_or lists own []) ≡ total shape
    pub gives : GivesList own shape form

  -- from words in which the areas before this one hold their lists to words in which it does too
  pub record IsLed (own : ℕ) (before after : State) : Type 0 where
    pub sized : length after.words ≡ length before.words
    pub holds : HoldBefore own after.words
    pub inside : AddsInside areas before.trace after.trace

  access-same : (own : ℕ) (words : List ℤ) → HoldBefore own words → (index : List ℕ) (access : Access) → access.area < own
      → IsReachedWithin areas index access
      → access_value (store_of areas words) (assigned index) access ≡ access_value held (assigned index) access
  access-same own words holds index access below h =
      let at : unsigned_abs (place_of (assigned index) access) ≡ h.place = ap unsigned_abs h.same in
      let word : start_of areas access.area + unsigned_abs (place_of (assigned index) access) ≡ h.area.start + h.place =
      omega (arith, start-at areas access.area h.area h.there, at) in
      ap (λ n. slice_index_or words n (pos 0)) word ∙ sym (area-at words h.area h.place h.below)
      ∙ ap (λ l. slice_index_or l h.place (pos 0)) (holds access.area h.area below h.there)
      ∙ ap (λ n. slice_index_or (slice_index_or lists access.area []) n (pos 0)) (sym at)

  -- the next area, or one before it
  next-holds : (own : ℕ) (words : List ℤ) (area : Area) → slice_get areas own ≡ Some area → HoldBefore own words
      → area_values words area ≡ slice_index_or lists own [] → HoldBefore (suc own) words
  next-holds own words area there before here number other below e =
      let either = le_cases number own below in
      elim either as (λ _. area_values words other ≡ slice_index_or lists number []) [
        | inl less ↦ before number other less e
        | inr same ↦
            let found : area ≡ other = same_Some area other (sym there ∙ ap (λ n. slice_get areas n) (sym same) ∙ e) in
            ap (λ a. area_values words a) (sym found) ∙ here ∙ ap (λ n. slice_index_or lists n []) (sym same)
      ]

  module _ (laws : NestLaws) where
    -- a word of another area is none of the job's own
    other-word : (own number : ℕ) (shape : List ℕ) (area other : Area) (count : ℕ) → AreLaidOut areas count
        → slice_get areas own ≡ Some area → area.shape ≡ shape → number < own → slice_get areas number ≡ Some other
        → (place : ℕ) → place < total other.shape
        → (index : List ℕ) → IsInBox index (map (λ n. (0, n)) shape) → other.start + place ≢ start_of areas own + gamma index shape
    other-word own number shape area other count laid there shaped below found place within index inside e =
        let start = start-at areas own area there in
        let small = laws.below index shape (whole-index index shape inside) in
        let size : total area.shape ≡ total shape = ap total shaped in
        let one : IsWordOf areas number (pos (other.start + place)) = record {
          area = other;
          there = found;
          place = other.start + place;
          same = refl;
          begun = omega arith;
          within = omega (arith, within);
        } in
        let second : IsWordOf areas own (pos (other.start + place)) = record {
          area = area;
          there = there;
          place = other.start + place;
          same = refl;
          begun = omega (arith, e, start);
          within = omega (arith, e, start, small, size);
        } in
        omega (arith, below, laid.apart number own (pos (other.start + place)) one second)

    form-leads : (own : ℕ) (shape : List ℕ) (form : Normal) (state : State) (area : Area) → AreLaidOut areas (length state.words)
        → slice_get areas own ≡ Some area → area.shape ≡ shape → length (slice_index_or lists own []) ≡ total shape
        → HoldBefore own state.words → IsMeant own shape form
        → IsLed (suc own) state (run (nest_of areas own shape (map (λ n. (0, n)) shape) (operational form)) state)
    form-leads own shape form state area laid there shaped long holds h =
        let region : List (ℕ × ℕ) = map (λ n. (0, n)) shape in
        let after = run (nest_of areas own shape region (operational form)) state in
        let given = laws.gives areas own shape region (operational form) state laid h.built in
        let size : total area.shape ≡ total shape = ap total shaped in
        let start = start-at areas own area there in
        let before : HoldBefore own after.words = λ number other below found.
        area-as after.words state.words other (λ place within.
        given.others (other.start + place)
        (other-word own number shape area other (length state.words) laid there shaped below found place within))
        ∙ holds number other below found in
        let here : area_values after.words area ≡ slice_index_or lists own [] =
        area-holds after.words area (slice_index_or lists own []) (omega (arith, long, size)) (λ place within.
        let small : place < total shape = omega (arith, within, size) in
        let index = ungamma shape place in
        let inside = laws.is_index shape place small in
        let at = laws.of_ungamma shape place small in
        let word : area.start + place ≡ start_of areas own + gamma index shape = omega (arith, start, at) in
        ap (λ n. slice_index_or after.words n (pos 0)) word ∙ given.values index (index-whole index shape inside)
        ∙ means-same (store_of areas state.words) held (assigned index) (operational form) h.built.straight
        (each-both (λ access. access.area < own) (IsReachedWithin areas index)
        (λ access. access_value (store_of areas state.words) (assigned index) access ≡ access_value held (assigned index) access)
        (λ access less reached. access-same own state.words holds index access less reached)
        (accesses (operational form)) h.before (h.built.reached index (index-whole index shape inside)))
        ∙ h.means index inside ∙ ap (λ n. slice_index_or (slice_index_or lists own []) n (pos 0)) at) in
        record {
          sized = given.sized;
          holds = next-holds own after.words area there before here;
          inside = laws.inside areas own shape region (operational form) state laid h.built;
        }

    choice-leads : (own : ℕ) (shape : List ℕ) (form : Option Normal) (state : State) (area : Area) → AreLaidOut areas (length state.words)
        → slice_get areas own ≡ Some area → area.shape ≡ shape → length (slice_index_or lists own []) ≡ total shape
        → HoldBefore own state.words → GivesList own shape form → IsLed (suc own) state (run (nest_at areas own shape form) state)
    choice-leads own shape None state area laid there shaped long holds none =
        let size : total area.shape ≡ total shape = ap total shaped in
        let here : area_values state.words area ≡ slice_index_or lists own [] =
        area-holds state.words area (slice_index_or lists own []) (omega (arith, long, size))
        (λ place within. absurd (omega (arith, within, size, none))) in
        record {
          sized = refl;
          holds = next-holds own state.words area there holds here;
          inside = inside-none areas state.trace;
        }
    choice-leads own shape (Some form) state area laid there shaped long holds meant =
        let region : List (ℕ × ℕ) = map (λ n. (0, n)) shape in
        subst (λ (of : Operational). IsLed (suc own) state (run (nest_of areas own shape region of) state))
        (sym (straight-stays laws.rules region form meant.built.straight))
        (form-leads own shape form state area laid there shaped long holds meant)

    pub job-leads : (own : ℕ) (shape : List ℕ) (form : Option Normal) (state : State) → AreLaidOut areas (length state.words)
        → HoldBefore own state.words → IsJob own shape form → IsLed (suc own) state (run (nest_at areas own shape form) state)
    job-leads own shape form state laid holds h = choice-leads own shape form state h.area laid h.there h.shaped h.long holds h.gives

-- The terms that are written of a form, from what is known on its region, are an operational form.
use mathlib.Core.Path.{fun_ext}
use Rattle.std.specs.Prelude.{◌≡◌, ℕ, zero, suc, ◌+◌, ◌-◌, ◌<◌, ◌≤◌, ◌==◌, if◌then◌else◌, List, [], ◌∷◌, ◌++◌, length, slice_index_or}
use Rattle.std.specs.List.{AllByRecursion}
use Rattle.std.specs.Option.{option_map}
use Rattle.std.specs.declared.option.Option.TheVariants.{Some}
use Rattle.std.proofs.Common.{refl, sym, ap, ◌∙◌, subst, arith, inl, inr, ne_eqb, take}
use Rattle.std.proofs.Math.Seq.{take-suc}
use Rattle.std.proofs.lemmas.List.{length-take-le}
use Rattle.std.proofs.lemmas.Bool.{cond-false}
use Rattle.std.proofs.lemmas.Bool.Decides.{nat_tests}
use Rattle.shapes_core.specs.Limits.{greatest_extent, most_items}
use Rattle.shapes_core.specs.Shape.{span}
use Rattle.shapes_core.proofs.SpanLemmas.{span_within}
use Rattle.moa_tree.specs.declared.tree.Job.{Job}
use Rattle.normal_form.specs.declared.term.Term.{Term}
use Rattle.normal_form.specs.Assignments.{assigned}
use Rattle.normal_form.specs.Cutting.{terms_in}
use Rattle.normal_form.specs.Kept.{IsBox, IsForm, IsKept, Parts, form_in, job_variables, top_form}
use Rattle.normal_form.specs.Meaning.{Reached}
use Rattle.normal_form.specs.Pool.{form_at, forms}
use Rattle.stride_form.specs.declared.facts.Fact.TheVariants.{Range}
use Rattle.stride_form.specs.declared.op_term.OpTerm.{OpTerm}
use Rattle.stride_form.specs.Facts.{Facts, knowing, starting}
use Rattle.stride_form.specs.Kept.{IsOpForm, IsOpKept, op_form_in, top_op_form}
use Rattle.stride_form.specs.KeptFacts.{AreKeptFacts}
use Rattle.stride_form.specs.Operational.{Operational}
use Rattle.stride_form.specs.Places.{IsFineAccess}
use Rattle.stride_form.specs.Pool.{op_form_at, op_forms}
use Rattle.stride_form.specs.Rules.{needed, operational_on, passed}
use Rattle.stride_form.specs.Small.{fact_at}
use Rattle.stride_form.specs.Writing.{IsOpPool, IsReady, IsWritten, Written}
use Rattle.stride_form.proofs.PassKeptLemmas.{operational-kept, starting-kept}
use Rattle.stride_form.proofs.PassLemmas.{rules-reach}
use Rattle.stride_form.proofs.WalkLemmas.{first-extent, small-rest-of}

-- ---- what is known at the start

-- nothing is said of a variable that is not in a table
pub nothing-known : fact_at [] ≡ starting []
nothing-known = fun_ext (λ var. refl)

same-suc : (n m : ℕ) → (n == m) ≡ (suc n == suc m)
same-suc n m = grind (arith, nat_tests)

-- one pair more
one-more : (front : List (ℕ × ℕ)) (pair : ℕ × ℕ) (var : ℕ)
    → starting (front ++ pair ∷ []) var ≡ knowing (starting front) (length front) (Range pair.0 pair.1) var
one-more [] pair zero = refl
one-more [] pair (suc var) = sym (cond-false (suc var == 0) (Range pair.0 pair.1) (Range 0 0) (ne_eqb (suc var) 0 (λ e. omega (arith, e))))
one-more (first ∷ others) pair zero =
    sym (cond-false (0 == suc (length others)) (Range pair.0 pair.1) (Range first.0 first.1) (ne_eqb 0 (suc (length others)) (λ e. omega (arith, e))))
one-more (first ∷ others) pair (suc var) =
    one-more others pair var ∙ ap (λ same. if same then Range pair.0 pair.1 else starting others var) (same-suc var (length others))

-- what is known behind some pairs of a region, with what is known of the next one
pub known-next : (region : List (ℕ × ℕ)) (place : ℕ) (known new : Facts) → place < length region → known ≡ starting (take place region)
    → new ≡ knowing known place (Range (slice_index_or region place (0, 0)).0 (slice_index_or region place (0, 0)).1)
    → new ≡ starting (take (place + 1) region)
known-next region place known new within so_far more =
    let front = take place region in
    let pair = slice_index_or region place (0, 0) in
    let next : suc place ≡ place + 1 = omega arith in
    let e : length front ≡ place = length-take-le place region (omega (arith, within)) in
    more ∙ ap (λ facts. knowing facts place (Range pair.0 pair.1)) so_far
    ∙ ap (λ n. knowing (starting front) n (Range pair.0 pair.1)) (sym e)
    ∙ sym (fun_ext (λ var. one-more front pair var))
    ∙ sym (ap starting (take-suc region place (0, 0) within))
    ∙ ap (λ n. starting (take n region)) next

-- ---- the extents of a region are small

abbrev pub AreSmallPairs : List (ℕ × ℕ) → Type 0
AreSmallPairs region = AllByRecursion (λ pair. (pair.0 ≤ greatest_extent) × (pair.1 ≤ greatest_extent)) region

box-small : (region : List (ℕ × ℕ)) (shape : List ℕ) → span shape ≤ greatest_extent → IsBox region shape → AreSmallPairs region
box-small [] shape small box = tt
box-small (pair ∷ region) [] small box = elim box [ ]
box-small (pair ∷ region) (n ∷ shape) small box =
    let most = first-extent n shape small in
    ((omega (arith, box.0.0, box.0.1, most), omega (arith, box.0.1, most)), box-small region shape (small-rest-of n shape small) box.1)

pub region-small : (parts : Parts) → IsForm parts → (parts.terms ≡ [] → ⊥) → AreSmallPairs parts.region
region-small parts (inl empty) some = absurd (some empty.terms)
region-small parts (inr full) some = box-small parts.region parts.shape (span_within parts.shape full.shaped) full.box

pub small-pair : (region : List (ℕ × ℕ)) (place : ℕ) → place < length region → AreSmallPairs region
    → ((slice_index_or region place (0, 0)).0 ≤ greatest_extent) × ((slice_index_or region place (0, 0)).1 ≤ greatest_extent)
small-pair [] place within all = absurd (omega (arith, within))
small-pair (pair ∷ region) zero within all = all.0
small-pair (pair ∷ region) (suc place) within all = small-pair region place (omega (arith, within)) all.1

-- ---- the top

pub top-ready : (parts : Parts) (top : ℕ) (facts : Facts) → IsForm parts → 1 + top ≡ length parts.terms → facts ≡ starting parts.region
    → IsReady facts (form_at (forms parts.terms) top)
top-ready parts top facts (inl empty) last same = absurd (omega (arith, last, ap (λ (terms : List Term). length terms) empty.terms))
top-ready parts top facts (inr full) last same =
    let e : length parts.terms - 1 ≡ top = omega (arith, last) in
    record {
      known = job_variables parts.shape;
      own = parts.job.area;
      kept = subst (λ n. IsKept parts.job.area (job_variables parts.shape) (form_at (forms parts.terms) n)) e full.kept;
      facts_kept = subst (λ known. AreKeptFacts (job_variables parts.shape) known) (sym same)
          (starting-kept (job_variables parts.shape) parts.region parts.shape full.shaped full.box);
    }

pub top-room : (parts : Parts) (top : ℕ) → IsForm parts → 1 + top ≡ length parts.terms → 0 + terms_in (form_at (forms parts.terms) top) ≤ most_items
top-room parts top (inl empty) last = absurd (omega (arith, last, ap (λ (terms : List Term). length terms) empty.terms))
top-room parts top (inr full) last =
    let e : length parts.terms - 1 ≡ top = omega (arith, last) in
    let tree = subst (λ n. terms_in (form_at (forms parts.terms) n) ≤ length parts.terms) e full.tree in
    omega (arith, tree, full.few)

last-form : (terms : List OpTerm) (number : ℕ) → 1 + number ≡ length terms → op_form_in terms ≡ Some (op_form_at (op_forms terms) number)
last-form [] number last = absurd (omega (arith, last))
last-form (first ∷ others) number last =
    let e : length (first ∷ others) - 1 ≡ number = omega (arith, last) in
    ap (λ n. Some (op_form_at (op_forms (first ∷ others)) n)) e

top-form-in : (terms : List Term) (top : ℕ) → 1 + top ≡ length terms → form_in terms ≡ Some (form_at (forms terms) top)
top-form-in [] top last = absurd (omega (arith, last))
top-form-in (first ∷ others) top last =
    let e : length (first ∷ others) - 1 ≡ top = omega (arith, last) in
    ap (λ n. Some (form_at (forms (first ∷ others)) n)) e

pub top-written : (terms : List Term) (region : List (ℕ × ℕ)) (top number : ℕ) (old new : Written) → 1 + top ≡ length terms
    → fact_at old.facts ≡ starting region → IsWritten (form_at (forms terms) top) old new number
    → op_form_in new.terms ≡ option_map (operational_on region) (form_in terms)
top-written terms region top number old new last same written =
    let form = form_at (forms terms) top in
    last-form new.terms number written.last ∙ ap Some (written.stands_there.same ∙ ap (λ facts. needed (passed facts form)) same)
    ∙ sym (ap (option_map (operational_on region)) (top-form-in terms top last))

-- ---- the form

some-same : (one two : Operational) → Some one ≡ Some two → one ≡ two
some-same one two e = cc

made : (job : Job) (shape : List ℕ) (region : List (ℕ × ℕ)) (from : List Term) (terms : List OpTerm)
    → IsForm (record { job = job; shape = shape; region = region; terms = from }) → IsOpPool terms
    → op_form_in terms ≡ option_map (operational_on region) (form_in from)
    → IsOpForm (record { job = job; shape = shape; region = region; terms = terms })
made job shape region [] [] (inl empty) pool is =
    inl (record { none = empty.none; shaped = empty.shaped; whole = empty.whole; folds = empty.folds; terms = refl })
made job shape region [] [] (inr full) pool is = absurd (omega (arith, full.there))
made job shape region [] (term ∷ terms) form pool is = absurd (cc)
made job shape region (first ∷ from) terms (inl empty) pool is = absurd (omega (arith, ap (λ (terms : List Term). length terms) empty.terms))
made job shape region (first ∷ from) [] (inr full) pool is = absurd (cc)
made job shape region (first ∷ from) (term ∷ terms) (inr full) pool is =
    let form = top_form (first ∷ from) in
    let same = some-same (top_op_form (term ∷ terms)) (operational_on region form) is in
    inr (record {
      some = full.some;
      shaped = full.shaped;
      box = full.box;
      folds = full.folds;
      there = omega arith;
      few = pool.few;
      ordered = pool.ordered;
      kept = subst (λ it. IsOpKept job.area (job_variables shape) it) (sym same)
          (operational-kept job.area shape region form full.shaped full.box full.kept);
      fine = λ index inside. subst (λ it. Reached IsFineAccess (assigned index) it) (sym same)
          (rules-reach job.area shape region form index full.box full.kept inside (full.fine index inside));
    })

pub form-made : (parts : Parts) (terms : List OpTerm) → IsForm parts → IsOpPool terms
    → op_form_in terms ≡ option_map (operational_on parts.region) (form_in parts.terms)
    → IsOpForm (record { job = parts.job; shape = parts.shape; region = parts.region; terms = terms })
form-made parts terms = made parts.job parts.shape parts.region parts.terms terms

-- A form with what is known in the place of variables means the same, and reaches only what is fine.
use Rattle.std.specs.Prelude.{◌≡◌, ℕ, ◌+◌, ◌-◌, true, false, ℤ, pos, int_lt, List, ◌∷◌, unsigned_abs}
use Rattle.std.proofs.Common.{refl, sym, ap, ap₂, subst, ◌∙◌, arith}
use Rattle.shapes_core.specs.Limits.{greatest_extent}
use Rattle.moa_tree.specs.Folds.{fold_of}
use Rattle.moa_tree.specs.Operators.{apply, apply_unary}
use Rattle.moa_tree.specs.Values.{chosen}
use Rattle.normal_form.specs.declared.entry.Entry.{Entry}
use Rattle.normal_form.specs.Assignments.{Assignment, assigned, bound, bound_to, number}
use Rattle.normal_form.specs.Forms.{Lit, Index, Get, Un, Bin, Case, Fold, Let, Normal}
use Rattle.normal_form.specs.Kept.{IsBox, IsEntry, IsInBox, IsKept, job_variables}
use Rattle.normal_form.specs.Meaning.{Reached, Store, element_value, meaning}
use Rattle.normal_form.specs.Stands.{IsFine, IsPlace}
use Rattle.stride_form.specs.declared.facts.Fact.TheVariants.{Range}
use Rattle.stride_form.specs.Accesses.{access_value}
use Rattle.stride_form.specs.Facts.{Facts, fact_of, knowing, resolved, starting}
use Rattle.stride_form.specs.Places.{IsFineAccess}
use Rattle.stride_form.specs.Rules.{operational_on, passed, resolved_bind}
use Rattle.stride_form.proofs.EntryLemmas.{entry-among, entry-same}
use Rattle.stride_form.proofs.FoundLemmas.{access-offset}
use Rattle.stride_form.proofs.MeaningLemmas.{choice-agrees, range-agrees}
use Rattle.stride_form.proofs.NeededLemmas.{needed-means, needed-reaches}
use Rattle.stride_form.proofs.TrueLemmas.{Known, fine-bound, known-fold, known-let, known-start, same-bound}

case-passed : (y z below : ℤ) (f g h k : Assignment → ℤ) (m : Assignment) → y ≡ z
    → (int_lt z below ≡ true → f m ≡ h m) → (int_lt z below ≡ false → g m ≡ k m)
    → chosen (int_lt y below) f g m ≡ chosen (int_lt z below) h k m
case-passed y z below f g h k m same first second =
    ap (λ x. chosen (int_lt x below) f g m) same ∙ choice-agrees (int_lt z below) f g h k m first second

pub passed-means : (store : Store) (own : ℕ) (m : Assignment) (known : List ℕ) (facts : Facts) (form : Normal)
    → Known m known facts → IsKept own known form → Reached IsFine m form
    → meaning (access_value store) m (passed facts form) ≡ meaning (element_value store) m form
passed-means store own m known facts (Lit value) h kept fine = refl
passed-means store own m known facts (Index entry) h kept fine =
    entry-same m known facts entry h.exact (entry-among known entry greatest_extent kept)
passed-means store own m known facts (Get element) h kept fine =
    ap (λ z. store element.area (unsigned_abs z)) (access-offset m known facts element h.exact kept.1.0 fine)
passed-means store own m known facts (Un op of) h kept fine =
    ap (apply_unary op) (passed-means store own m known facts of h kept fine)
passed-means store own m known facts (Bin op left right) h kept fine =
    ap₂ (apply op) (passed-means store own m known facts left h kept.0 fine.0)
    (passed-means store own m known facts right h kept.1 fine.1)
passed-means store own m known facts (Case entry below first second) h kept fine =
    case-passed (number m (resolved facts entry)) (number m entry) below
    (λ n. meaning (access_value store) n (passed facts first)) (λ n. meaning (access_value store) n (passed facts second))
    (λ n. meaning (element_value store) n first) (λ n. meaning (element_value store) n second) m
    (entry-same m known facts entry h.exact (entry-among known entry greatest_extent kept.0))
    (λ yes. passed-means store own m known facts first h kept.1.1.0 (fine.1.0 yes))
    (λ other. passed-means store own m known facts second h kept.1.1.1 (fine.1.1 other))
passed-means store own m known facts (Fold op var low high of) h kept fine =
    ap (fold_of op) (range-agrees
    (λ k. meaning (access_value store) (bound m var (low + k)) (passed (knowing facts var (Range low high)) of))
    (λ k. meaning (element_value store) (bound m var (low + k)) of) 0 (high - low)
    (λ k least below.
    passed-means store own (bound m var (low + k)) (var ∷ known) (knowing facts var (Range low high)) of
    (known-fold m known facts var low high (low + k) h kept.1.1.1.0 (omega arith) (omega arith))
    kept.1.1.1.1 (fine (low + k) (omega arith) (omega arith))))
passed-means store own m known facts (Let var bind of) h kept fine =
    ap (λ k. meaning (access_value store) (bound m var k) (passed (knowing facts var (fact_of facts (resolved_bind facts bind))) of))
    (same-bound m known facts bind h.exact kept.0)
    ∙ passed-means store own (bound m var (bound_to m bind)) (var ∷ known) (knowing facts var (fact_of facts (resolved_bind facts bind))) of
    (known-let m known facts var bind h kept.1.0 kept.0 fine.0) kept.1.1 fine.1

place-resolved : (m : Assignment) (known : List ℕ) (facts : Facts) (entry : Entry) → Known m known facts
    → IsEntry known entry greatest_extent → IsPlace m entry → IsPlace m (resolved facts entry)
place-resolved m known facts entry h kept fine =
    record { place = fine.place; stands = entry-same m known facts entry h.exact (entry-among known entry greatest_extent kept) ∙ fine.stands }

pub passed-reaches : (own : ℕ) (m : Assignment) (known : List ℕ) (facts : Facts) (form : Normal)
    → Known m known facts → IsKept own known form → Reached IsFine m form → Reached IsFineAccess m (passed facts form)
passed-reaches own m known facts (Lit value) h kept fine = tt
passed-reaches own m known facts (Index entry) h kept fine = place-resolved m known facts entry h kept fine
passed-reaches own m known facts (Get element) h kept fine =
    let e = access-offset m known facts element h.exact kept.1.0 fine in e ∙ ap (λ z. pos (unsigned_abs z)) (sym e)
passed-reaches own m known facts (Un op of) h kept fine = passed-reaches own m known facts of h kept fine
passed-reaches own m known facts (Bin op left right) h kept fine =
    (passed-reaches own m known facts left h kept.0 fine.0, passed-reaches own m known facts right h kept.1 fine.1)
passed-reaches own m known facts (Case entry below first second) h kept fine =
    let same = entry-same m known facts entry h.exact (entry-among known entry greatest_extent kept.0) in (
      place-resolved m known facts entry h kept.0 fine.0,
      (
        (λ yes. passed-reaches own m known facts first h kept.1.1.0 (fine.1.0 (ap (λ z. int_lt z below) (sym same) ∙ yes))),
        (λ other. passed-reaches own m known facts second h kept.1.1.1 (fine.1.1 (ap (λ z. int_lt z below) (sym same) ∙ other))),
      ),
    )
passed-reaches own m known facts (Fold op var low high of) h kept fine = λ k least below.
    passed-reaches own (bound m var k) (var ∷ known) (knowing facts var (Range low high)) of
    (known-fold m known facts var low high k h kept.1.1.1.0 least below) kept.1.1.1.1 (fine k least below)
passed-reaches own m known facts (Let var bind of) h kept fine = (
  fine-bound m known facts bind h.exact kept.0 fine.0,
  subst (λ k. Reached IsFineAccess (bound m var k) (passed (knowing facts var (fact_of facts (resolved_bind facts bind))) of))
      (sym (same-bound m known facts bind h.exact kept.0))
      (passed-reaches own (bound m var (bound_to m bind)) (var ∷ known) (knowing facts var (fact_of facts (resolved_bind facts bind))) of
      (known-let m known facts var bind h kept.1.0 kept.0 fine.0) kept.1.1 fine.1),
)

-- ---- the whole

pub rules-mean : (store : Store) (own : ℕ) (shape : List ℕ) (region : List (ℕ × ℕ)) (form : Normal) (index : List ℕ)
    → IsBox region shape → IsKept own (job_variables shape) form → IsInBox index region → Reached IsFine (assigned index) form
    → meaning (access_value store) (assigned index) (operational_on region form) ≡ meaning (element_value store) (assigned index) form
rules-mean store own shape region form index box kept inside fine =
    needed-means store (assigned index) (passed (starting region) form)
    ∙ passed-means store own (assigned index) (job_variables shape) (starting region) form
    (known-start index region shape box inside) kept fine

pub rules-reach : (own : ℕ) (shape : List ℕ) (region : List (ℕ × ℕ)) (form : Normal) (index : List ℕ)
    → IsBox region shape → IsKept own (job_variables shape) form → IsInBox index region → Reached IsFine (assigned index) form
    → Reached IsFineAccess (assigned index) (operational_on region form)
rules-reach own shape region form index box kept inside fine =
    needed-reaches (assigned index) (passed (starting region) form)
    (passed-reaches own (assigned index) (job_variables shape) (starting region) form
    (known-start index region shape box inside) kept fine)

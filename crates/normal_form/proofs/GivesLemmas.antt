-- What a form gives, by what its parts give.
use Rattle.std.specs.Prelude.{◌≡◌, ℕ, zero, suc, ◌+◌, ◌-◌, ◌<◌, ◌≤◌, Bool, true, false, ℤ, pos, int_lt, ◌∷◌, map}
use Rattle.std.specs.List.{range_with_len}
use Rattle.std.proofs.Common.{refl, ap, ap₂, ◌∙◌, arith}
use Rattle.moa_tree.specs.declared.operator.Op.{Op}
use Rattle.moa_tree.specs.declared.operator.Unary.{Unary}
use Rattle.moa_tree.specs.Folds.{fold_below, fold_of}
use Rattle.moa_tree.specs.Operators.{apply, apply_unary}
use Rattle.moa_tree.specs.Values.{chosen}
use Rattle.normal_form.specs.declared.entry.Entry.{Entry}
use Rattle.normal_form.specs.declared.term.Bind.{Bind}
use Rattle.normal_form.specs.Assignments.{Assignment, bound, bound_to, number}
use Rattle.normal_form.specs.Formers.{Making, binding}
use Rattle.normal_form.specs.Forms.{Index, Un, Bin, Case, Fold, Let, Normal}
use Rattle.normal_form.specs.Meaning.{Store, element_value, meaning}
use Rattle.normal_form.specs.Moves.{variable}
use Rattle.normal_form.specs.Stands.{Gives, IsFineBinding, IsPlace, uses_below}
use Rattle.normal_form.proofs.FreshLemmas.{Agree, bound-agrees, bound-number}

pub gives-let : (s : Store) (m : Assignment) (var : ℕ) (bind : Bind) (of : Normal) (value : ℤ) → IsFineBinding m bind
    → Gives s (bound m var (bound_to m bind)) of value → Gives s m (Let var bind of) value
gives-let s m var bind of value fine h = record { fine = (fine, h.fine); means = h.means }

-- what is made of a next entry gives this value wherever that entry stands for a place, and all before it for what it stood for
abbrev pub Continues : Store → Assignment → ℕ → (Entry → Making) → ℕ → ℤ → Type 0
Continues s m next rest place value = (other : Assignment) (entry : Entry) (later : ℕ) → next ≤ later → Agree next m other
    → uses_below later entry → number other entry ≡ pos place → Gives s other (rest entry later).0 value

-- a number that is bound to the next variable
pub gives-binding : (s : Store) (m : Assignment) (next : ℕ) (bind : Bind) (rest : Entry → Making) (place : ℕ) (value : ℤ)
    → IsFineBinding m bind → bound_to m bind ≡ place → Continues s m next rest place value → Gives s m (binding bind rest next).0 value
gives-binding s m next bind rest place value fine same more =
    let k = bound_to m bind in
    gives-let s m next bind (rest (variable next) (suc next)).0 value fine
    (more (bound m next k) (variable next) (suc next) (omega arith) (bound-agrees m next k) (omega arith)
    (bound-number m next k ∙ ap pos same))

-- the next variable never falls
abbrev pub Grows : Making → Type 0
Grows making = (next : ℕ) → next ≤ (making next).1

pub binding-grows : (bind : Bind) (rest : Entry → Making) (next : ℕ) → ((entry : Entry) → Grows (rest entry))
    → next ≤ (binding bind rest next).1
binding-grows bind rest next grows = omega (arith, grows (variable next) (suc next))

pub gives-number : (s : Store) (m : Assignment) (entry : Entry) (place : ℕ) → number m entry ≡ pos place
    → Gives s m (Index entry) (pos place)
gives-number s m entry place stands = record { fine = record { place = place; stands = stands }; means = stands }

pub gives-one : (s : Store) (m : Assignment) (op : Unary) (of : Normal) (value : ℤ) → Gives s m of value
    → Gives s m (Un op of) (apply_unary op value)
gives-one s m op of value h = record { fine = h.fine; means = ap (apply_unary op) h.means }

pub gives-two : (s : Store) (m : Assignment) (op : Op) (left right : Normal) (value over : ℤ)
    → Gives s m left value → Gives s m right over → Gives s m (Bin op left right) (apply op value over)
gives-two s m op left right value over h k = record { fine = (h.fine, k.fine); means = ap₂ (apply op) h.means k.means }

-- one of two by a test, each where it is taken
case-reached : (s : Store) (m : Assignment) (test : Bool) (first second : Normal) (value : ℤ)
    → (test ≡ true → Gives s m first value) → (test ≡ false → Gives s m second value)
    → chosen test (λ n. meaning (element_value s) n first) (λ n. meaning (element_value s) n second) m ≡ value
case-reached s m true first second value h k = (h refl).means
case-reached s m false first second value h k = (k refl).means

pub gives-case : (s : Store) (m : Assignment) (entry : Entry) (below : ℤ) (first second : Normal) (value : ℤ) → IsPlace m entry
    → (int_lt (number m entry) below ≡ true → Gives s m first value)
    → (int_lt (number m entry) below ≡ false → Gives s m second value)
    → Gives s m (Case entry below first second) value
gives-case s m entry below first second value here h k = record {
  fine = (here, ((λ yes. (h yes).fine), (λ no. (k no).fine)));
  means = case-reached s m (int_lt (number m entry) below) first second value h k;
}

-- the items of a fold, one by one
range-same : (f g : ℕ → ℤ) (from count : ℕ) → ((k : ℕ) → from ≤ k → k < from + count → f k ≡ g k)
    → map f (range_with_len from count) ≡ map g (range_with_len from count)
range-same f g from zero same = refl
range-same f g from (suc count) same =
    ap₂ (λ first others. first ∷ others) (same from (omega arith) (omega arith))
    (range-same f g (from + 1) count (λ k low high. same k (omega arith) (omega arith)))

pub fold-same : (op : Op) (count : ℕ) (f g : ℕ → ℤ) → ((k : ℕ) → k < count → f k ≡ g k)
    → fold_below op count f ≡ fold_below op count g
fold-same op count f g same = ap (fold_of op) (range-same f g 0 count (λ k low high. same k (omega (arith, high))))

pub gives-fold : (s : Store) (m : Assignment) (op : Op) (var low high : ℕ) (of : Normal) (f : ℕ → ℤ)
    → ((k : ℕ) → low ≤ k → k < high → Gives s (bound m var k) of (f k))
    → Gives s m (Fold op var low high of) (fold_below op (high - low) (λ k. f (low + k)))
gives-fold s m op var low high of f h = record {
  fine = λ k least below. (h k least below).fine;
  means = fold-same op (high - low) (λ k. meaning (element_value s) (bound m var (low + k)) of) (λ k. f (low + k))
      (λ k below. (h (low + k) (omega arith) (omega arith)).means);
}

-- Operational forms mean what their forms do.
use Rattle.std.specs.Prelude.{◌≡◌, ℕ, zero, suc, ◌+◌, ◌-◌, ◌<◌, ◌≤◌, Bool, true, false, ℤ, int_lt, ◌∷◌, map, unsigned_abs}
use Rattle.std.specs.List.{range_with_len}
use Rattle.std.proofs.Common.{refl, ap, ap₂, arith}
use Rattle.moa_tree.specs.Folds.{fold_of}
use Rattle.moa_tree.specs.Operators.{apply, apply_unary}
use Rattle.moa_tree.specs.Values.{chosen}
use Rattle.normal_form.specs.Assignments.{Assignment, bound, bound_to, number}
use Rattle.normal_form.specs.Forms.{Lit, Index, Get, Un, Bin, Case, Fold, Let, Normal}
use Rattle.normal_form.specs.Meaning.{Store, Reached, element_value, meaning}
use Rattle.normal_form.specs.Stands.{IsFine}
use Rattle.stride_form.specs.Accesses.{access_value}
use Rattle.stride_form.specs.Operational.{operational}
use Rattle.stride_form.specs.Places.{IsFineAccess}
use Rattle.stride_form.proofs.PlaceLemmas.{at-place, place-offset}

-- two families of numbers that agree on a range
pub range-agrees : (f g : ℕ → ℤ) (from count : ℕ) → ((k : ℕ) → from ≤ k → k < from + count → f k ≡ g k)
    → map f (range_with_len from count) ≡ map g (range_with_len from count)
range-agrees f g from zero same = refl
range-agrees f g from (suc count) same =
    ap₂ (λ first others. first ∷ others) (same from (omega arith) (omega arith))
    (range-agrees f g (from + 1) count (λ k low high. same k (omega arith) (omega arith)))

-- a choice of which the part that is taken agrees
pub choice-agrees : (test : Bool) (f g h k : Assignment → ℤ) (m : Assignment) → (test ≡ true → f m ≡ h m) → (test ≡ false → g m ≡ k m)
    → chosen test f g m ≡ chosen test h k m
choice-agrees true f g h k m first second = first refl
choice-agrees false f g h k m first second = second refl

pub means-same : (store : Store) (m : Assignment) (form : Normal) → Reached IsFine m form
    → meaning (access_value store) m (operational form) ≡ meaning (element_value store) m form
means-same store m (Lit value) fine = refl
means-same store m (Index entry) fine = refl
means-same store m (Get element) fine = ap (λ z. store element.area (unsigned_abs z)) (place-offset m element fine)
means-same store m (Un op of) fine = ap (apply_unary op) (means-same store m of fine)
means-same store m (Bin op left right) fine =
    ap₂ (apply op) (means-same store m left fine.0) (means-same store m right fine.1)
means-same store m (Case entry below first second) fine =
    choice-agrees (int_lt (number m entry) below)
    (λ n. meaning (access_value store) n (operational first)) (λ n. meaning (access_value store) n (operational second))
    (λ n. meaning (element_value store) n first) (λ n. meaning (element_value store) n second) m
    (λ yes. means-same store m first (fine.1.0 yes)) (λ no. means-same store m second (fine.1.1 no))
means-same store m (Fold op var low high of) fine =
    ap (fold_of op) (range-agrees
    (λ k. meaning (access_value store) (bound m var (low + k)) (operational of))
    (λ k. meaning (element_value store) (bound m var (low + k)) of) 0 (high - low)
    (λ k least below. means-same store (bound m var (low + k)) of (fine (low + k) (omega arith) (omega arith))))
means-same store m (Let var bind of) fine = means-same store (bound m var (bound_to m bind)) of fine.1

pub reaches-fine : (m : Assignment) (form : Normal) → Reached IsFine m form → Reached IsFineAccess m (operational form)
reaches-fine m (Lit value) fine = tt
reaches-fine m (Index entry) fine = fine
reaches-fine m (Get element) fine = at-place m element fine
reaches-fine m (Un op of) fine = reaches-fine m of fine
reaches-fine m (Bin op left right) fine = (reaches-fine m left fine.0, reaches-fine m right fine.1)
reaches-fine m (Case entry below first second) fine =
    (fine.0, ((λ yes. reaches-fine m first (fine.1.0 yes)), (λ no. reaches-fine m second (fine.1.1 no))))
reaches-fine m (Fold op var low high of) fine = λ k least below. reaches-fine (bound m var k) of (fine k least below)
reaches-fine m (Let var bind of) fine = (fine.0, reaches-fine (bound m var (bound_to m bind)) of fine.1)

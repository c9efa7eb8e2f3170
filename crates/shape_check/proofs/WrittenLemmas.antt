-- What stands in the table of the nodes' shapes after an expression.
use Rattle.std.specs.Prelude.{◌≡◌, ℕ, zero, suc, ◌+◌, ◌<◌, ◌==◌, cond, List, [], ◌∷◌, ◌++◌, map, length, OnOk, Result, Ok, Err, slice_get, slice_index_or, slice_set}
use Rattle.std.proofs.Common.{refl, ap, sym, ◌∙◌, arith, inl, inr, unwrap_or}
use Rattle.std.proofs.lemmas.Bool.{cases_eq, cases_lt, eq-eqb, ne_eqb}
use Rattle.std.proofs.lemmas.List.{get_or-set_same}
use Rattle.std.proofs.lemmas.List.Sums.{sum_by-append, sum_by-cons}
use Rattle.std.proofs.lemmas.Option.{unwrap_or-slice_get}
use Rattle.moa_tree.specs.Pool.{walk_of}
use Rattle.moa_tree.specs.Pools.{Pools}
use Rattle.moa_tree.specs.ShapeOf.{shape_of}
use Rattle.shape_check.specs.declared.error.CheckError.{CheckError}
use Rattle.shape_check.specs.declared.known.Known.{Known}
use Rattle.shape_check.specs.Costs.{Prices, shapes_of}
use Rattle.shape_check.specs.Judged.{IsJudged, node_tree}
use Rattle.shape_check.specs.Written.{AreWritten, IsKept, IsSettled, occurs}
use Rattle.shape_check.proofs.VerdictLemmas.{verdict-shape}

occurs-append : (n : ℕ) (xs ys : List ℕ) → occurs n (xs ++ ys) ≡ occurs n xs + occurs n ys
occurs-append n xs ys = sum_by-append (λ other. cond (other == n) 1 0) xs ys

occurs-here : (n : ℕ) (xs : List ℕ) → occurs n (n ∷ xs) ≡ 1 + occurs n xs
occurs-here n xs = sum_by-cons (λ other. cond (other == n) 1 0) n xs ∙ ap (λ b. cond b 1 0 + occurs n xs) (eq-eqb n n refl)

occurs-later : (n x : ℕ) (xs : List ℕ) → (x ≡ n → ⊥) → occurs n (x ∷ xs) ≡ occurs n xs
occurs-later n x xs h =
    sum_by-cons (λ other. cond (other == n) 1 0) x xs ∙ ap (λ b. cond b 1 0 + occurs n xs) (ne_eqb x n h)
    ∙ (let e : 0 + occurs n xs ≡ occurs n xs = omega arith in e)

-- ---- what is kept

elsewhere : {X : Type 0} (xs : List X) (i n : ℕ) (x : X) → (i ≡ n → ⊥) → slice_get (slice_set xs i x) n ≡ slice_get xs n
elsewhere [] i n x h = refl
elsewhere (first ∷ xs) zero zero x h = absurd (h refl)
elsewhere (first ∷ xs) zero (suc n) x h = refl
elsewhere (first ∷ xs) (suc i) zero x h = refl
elsewhere (first ∷ xs) (suc i) (suc n) x h = elsewhere xs i n x (λ e. h (ap suc e))

same-elsewhere : (number n : ℕ) (old new : List (List ℕ)) (result : Result Known CheckError) → IsSettled number old new result → (number ≡ n → ⊥) → slice_get new n ≡ slice_get old n
same-elsewhere number n old new (Ok known) settled h = ap (λ l. slice_get l n) settled ∙ elsewhere old number n known.shape h
same-elsewhere number n old new (Err error) settled h = ap (λ l. slice_get l n) settled

pub kept-none : (old : List (List ℕ)) → IsKept [] old old
kept-none old n h = refl

pub kept-both : (xs ys : List ℕ) (a b c : List (List ℕ)) → IsKept xs a b → IsKept ys b c → IsKept (xs ++ ys) a c
kept-both xs ys a b c h k n none =
    let sum = occurs-append n xs ys in
    k n (omega (arith, sum, none)) ∙ h n (omega (arith, sum, none))

pub kept-settled : (number : ℕ) (walk rest : List ℕ) (old middle new : List (List ℕ)) (result : Result Known CheckError) → walk ≡ number ∷ rest
    → IsKept rest old middle → IsSettled number middle new result → IsKept walk old new
kept-settled number walk rest old middle new result e h settled n none = elim (cases_eq number n) [
  | inl same ↦
      let here = occurs-here n rest in
      let seen : occurs n walk ≡ occurs n (n ∷ rest) = ap (occurs n) e ∙ ap (λ m. occurs n (m ∷ rest)) same in
      absurd (omega (arith, here, seen, none))
  | inr other ↦
      same-elsewhere number n middle new result settled other ∙ h n (sym (occurs-later n number rest other) ∙ sym (ap (occurs n) e) ∙ none)
]

-- where a part is kept, all is
pub kept-part : (number : ℕ) (walk xs ys : List ℕ) (old new : List (List ℕ)) → walk ≡ number ∷ (xs ++ ys) → IsKept (xs ++ ys) old new → IsKept walk old new
kept-part number walk xs ys old new e h n none = elim (cases_eq number n) [
  | inl same ↦
      let here = occurs-here n (xs ++ ys) in
      let seen : occurs n walk ≡ occurs n (n ∷ (xs ++ ys)) = ap (occurs n) e ∙ ap (λ m. occurs n (m ∷ (xs ++ ys))) same in
      absurd (omega (arith, here, seen, none))
  | inr other ↦ h n (sym (occurs-later n number (xs ++ ys) other) ∙ sym (ap (occurs n) e) ∙ none)
]

-- ---- what is written

same-there : (old new : List (List ℕ)) (n : ℕ) → slice_get new n ≡ slice_get old n → slice_index_or new n [] ≡ slice_index_or old n []
same-there old new n e = sym (unwrap_or-slice_get new n []) ∙ ap (λ o. unwrap_or o []) e ∙ unwrap_or-slice_get old n []

pub written-none : (pools : Pools) (prices : Prices) (shapes : List (List ℕ)) → AreWritten pools prices [] shapes
written-none pools prices shapes n h = absurd (omega (arith, h))

pub written-both : (pools : Pools) (prices : Prices) (xs ys : List ℕ) (middle new : List (List ℕ)) → AreWritten pools prices xs middle → AreWritten pools prices ys new
    → IsKept ys middle new → AreWritten pools prices (xs ++ ys) new
written-both pools prices xs ys middle new h k kept n some = elim (cases_lt 0 (occurs n ys)) [
  | inl there ↦ k n there
  | inr none ↦
      let sum = occurs-append n xs ys in
      same-there middle new n (kept n (omega (arith, none))) ∙ h n (omega (arith, sum, some, none))
]

pub written-settled : (pools : Pools) (prices : Prices) (number : ℕ) (rest : List ℕ) (middle new : List (List ℕ)) (result : Result Known CheckError)
    → walk_of pools.nodes number ≡ number ∷ rest → number < length middle → AreWritten pools prices rest middle → IsJudged pools prices number result
    → IsSettled number middle new result → OnOk result (AreWritten pools prices (walk_of pools.nodes number) new)
written-settled pools prices number rest middle new (Err error) e there h judged settled = tt
written-settled pools prices number rest middle new (Ok known) e there h judged settled = λ n some. elim (cases_eq number n) [
  | inl same ↦
      ap (λ l. slice_index_or l n []) settled ∙ ap (λ m. slice_index_or (slice_set middle m known.shape) n []) same
      ∙ get_or-set_same middle n known.shape [] (omega (arith, there, same))
      ∙ verdict-shape (shapes_of prices) 0 (node_tree pools number) known.shape (judged.accepted 0)
      ∙ ap (λ m. shape_of (shapes_of prices) (node_tree pools m)) same
  | inr other ↦
      let later = occurs-later n number rest other in
      let seen = ap (occurs n) e in
      same-there middle new n (same-elsewhere number n middle new (Ok known) settled other) ∙ h n (omega (arith, later, seen, some))
]

-- the shapes of the nodes of a walk that is written
pub shapes-written : (f g : ℕ → List ℕ) (numbers : List ℕ) → ((n : ℕ) → 0 < occurs n numbers → f n ≡ g n) → map f numbers ≡ map g numbers
shapes-written f g [] h = refl
shapes-written f g (number ∷ numbers) h =
    let first = h number (omega (arith, occurs-here number numbers)) in
    let others = shapes-written f g numbers (λ n some. h n (omega (arith, occurs-append n (number ∷ []) numbers, some))) in
    ap (λ x. x ∷ map f numbers) first ∙ ap (λ l. g number ∷ l) others

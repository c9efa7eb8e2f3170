-- The place of an access is the row-major offset of its load's entries.
use Rattle.std.specs.Prelude.{◌≡◌, ℕ, zero, suc, ◌*◌, ◌==◌, ℤ, pos, ◌+ℤ◌, ◌-ℤ◌, ◌*ℤ◌, Bool, true, false, if◌then◌else◌}
use Rattle.std.specs.Prelude.{List, [], ◌∷◌, nat_lt, unsigned_abs}
use Rattle.std.proofs.Common.{refl, sym, ap, ap₂, subst, ◌∙◌, arith}
use Rattle.std.proofs.Math.IntN.{suc_ℤ-*ℤ, *ℤ_comm, pos-*ℤ-pos, zero-*ℤ}
use Rattle.std.proofs.lemmas.Int.{ints}
use Rattle.shapes_core.specs.Gamma.{IsIndex, gamma}
use Rattle.shapes_core.specs.Shape.{total}
use Rattle.normal_form.specs.declared.entry.Entry.{Entry}
use Rattle.normal_form.specs.declared.entry.Entry.TheVariants.{At, Plus, Minus}
use Rattle.normal_form.specs.Assignments.{Assignment, number, place, places}
use Rattle.normal_form.specs.Forms.{Element}
use Rattle.normal_form.specs.Stands.{AreIndex, StandFor}
use Rattle.stride_form.specs.declared.walk.Walk.{Walk}
use Rattle.stride_form.specs.Accesses.{Steps, access_of, place_of, walk_of, walked, with_entry, with_stride}
use Rattle.stride_form.specs.Places.{IsAtPlace}

-- ---- numbers

-- a number times a sum, and a sum times a number
times-sum : (w : ℕ) (a b : ℤ) → pos w *ℤ (a +ℤ b) ≡ pos w *ℤ a +ℤ pos w *ℤ b
times-sum zero a b = let e = zero-*ℤ a in let f = zero-*ℤ b in zero-*ℤ (a +ℤ b) ∙ sym (ap₂ (λ x y. x +ℤ y) e f)
times-sum (suc w) a b =
    let whole : pos (suc w) *ℤ (a +ℤ b) ≡ pos w *ℤ (a +ℤ b) +ℤ (a +ℤ b) = suc_ℤ-*ℤ (pos w) (a +ℤ b) in
    let left : pos (suc w) *ℤ a ≡ pos w *ℤ a +ℤ a = suc_ℤ-*ℤ (pos w) a in
    let right : pos (suc w) *ℤ b ≡ pos w *ℤ b +ℤ b = suc_ℤ-*ℤ (pos w) b in
    omega (arith, ints, whole, left, right, times-sum w a b)

sum-times : (a b : ℤ) (k : ℕ) → (a +ℤ b) *ℤ pos k ≡ a *ℤ pos k +ℤ b *ℤ pos k
sum-times a b k =
    *ℤ_comm (a +ℤ b) (pos k) ∙ times-sum k a b ∙ ap₂ (λ x y. x +ℤ y) (*ℤ_comm (pos k) a) (*ℤ_comm (pos k) b)

-- ---- strides

-- where a stride is put
walked-choice : (m : Assignment) (var : ℕ) (stride : ℤ) (first : ℕ × ℤ) (others more : Steps) (same below : Bool)
    → (same ≡ true → var ≡ first.0) → walked m more ≡ walked m others +ℤ stride *ℤ pos (m var)
    → walked m (if same then (var, first.1 +ℤ stride) ∷ others else (if below then (var, stride) ∷ first ∷ others else first ∷ more))
    ≡ walked m (first ∷ others) +ℤ stride *ℤ pos (m var)
walked-choice m var stride first others more true below here later =
    let sum = sum-times first.1 stride (m var) in
    let as_first : first.1 *ℤ pos (m var) ≡ first.1 *ℤ pos (m first.0) = ap (λ other. first.1 *ℤ pos (m other)) (here refl) in
    omega (arith, ints, sum, as_first)
walked-choice m var stride first others more false true here later = omega (arith, ints)
walked-choice m var stride first others more false false here later = omega (arith, ints, later)

same-variable : (var other : ℕ) → (var == other) ≡ true → var ≡ other
same-variable var other h = grind (arith, h)

walked-with : (m : Assignment) (var : ℕ) (stride : ℤ) (steps : Steps)
    → walked m (with_stride var stride steps) ≡ walked m steps +ℤ stride *ℤ pos (m var)
walked-with m var stride [] = omega (arith, ints)
walked-with m var stride (first ∷ others) =
    walked-choice m var stride first others (with_stride var stride others) (var == first.0) (nat_lt var first.0)
    (same-variable var first.0) (walked-with m var stride others)

-- ---- entries

abbrev place_in : Assignment → Walk → ℤ
place_in m walk = walk.start +ℤ walked m walk.strides

weighed : (w k : ℕ) (z : ℤ) → z ≡ pos k → pos w *ℤ z ≡ pos (k * w)
weighed w k z stands = ap (λ z. pos w *ℤ z) stands ∙ *ℤ_comm (pos w) (pos k) ∙ pos-*ℤ-pos k w

-- a stride of minus a weight
minus-times : (w k : ℕ) → (pos 0 -ℤ pos w) *ℤ pos k ≡ pos 0 -ℤ pos w *ℤ pos k
minus-times w k =
    let sum = sum-times (pos 0 -ℤ pos w) (pos w) k in
    let none : (pos 0 -ℤ pos w) +ℤ pos w ≡ pos 0 = omega (arith, ints) in
    let zeros : ((pos 0 -ℤ pos w) +ℤ pos w) *ℤ pos k ≡ pos 0 = ap (λ z. z *ℤ pos k) none ∙ zero-*ℤ (pos k) in
    omega (arith, ints, sum, zeros)

entry-place : (m : Assignment) (w k : ℕ) (entry : Entry) (walk : Walk) → number m entry ≡ pos k
    → place_in m (with_entry (pos w) entry walk) ≡ pos (k * w) +ℤ place_in m walk
entry-place m w k (At constant) walk stands = omega (arith, ints, weighed w k constant stands)
entry-place m w k (Plus var add) walk stands =
    omega (arith, ints, weighed w k (pos (m var) +ℤ add) stands, times-sum w (pos (m var)) add, walked-with m var (pos w) walk.strides)
entry-place m w k (Minus var add) walk stands =
    let whole : (add -ℤ pos (m var)) +ℤ pos (m var) ≡ add = omega (arith, ints) in
    let product : pos w *ℤ ((add -ℤ pos (m var)) +ℤ pos (m var)) ≡ pos w *ℤ add = ap (λ z. pos w *ℤ z) whole in
    omega (
      arith,
      ints,
      weighed w k (add -ℤ pos (m var)) stands,
      times-sum w (add -ℤ pos (m var)) (pos (m var)),
      product,
      walked-with m var (pos 0 -ℤ pos w) walk.strides,
      minus-times w (m var),
    )

-- ---- loads

own-place : (m : Assignment) (entry : Entry) (k : ℕ) → number m entry ≡ pos k → place m entry ≡ k
own-place m entry k stands = ap unsigned_abs stands

walk-place : (m : Assignment) (entries : List Entry) (shape index : List ℕ) → StandFor m entries index → IsIndex index shape
    → place_in m (walk_of entries shape) ≡ pos (gamma (places m entries) shape)
walk-place m [] shape index stand inside = refl
walk-place m (entry ∷ entries) [] [] stand inside = absurd (cc)
walk-place m (entry ∷ entries) [] (k ∷ index) stand inside = absurd inside
walk-place m (entry ∷ entries) (n ∷ shape) [] stand inside = absurd inside
walk-place m (entry ∷ entries) (n ∷ shape) (k ∷ index) stand inside =
    let first : number m entry ≡ pos k = cc in
    let others : StandFor m entries index = cc in
    let here : number m entry ≡ pos (place m entry) = first ∙ ap pos (sym (own-place m entry k first)) in
    entry-place m (total shape) (place m entry) entry (walk_of entries shape) here
    ∙ ap (λ z. pos (place m entry * total shape) +ℤ z) (walk-place m entries shape index others inside.1)

pub place-offset : (m : Assignment) (element : Element) → AreIndex m element.at element.shape
    → place_of m (access_of element) ≡ pos (gamma (places m element.at) element.shape)
place-offset m element h = walk-place m element.at element.shape h.index h.stand h.within

pub at-place : (m : Assignment) (element : Element) → AreIndex m element.at element.shape → IsAtPlace m (access_of element)
at-place m element h = let e = place-offset m element h in e ∙ ap (λ z. pos (unsigned_abs z)) (sym e)

-- the places of entries that stand for an index vector are it
index-places : (m : Assignment) (entries : List Entry) (index : List ℕ) → StandFor m entries index → places m entries ≡ index
index-places m [] [] h = refl
index-places m [] (k ∷ index) h = absurd (cc)
index-places m (entry ∷ entries) [] h = absurd (cc)
index-places m (entry ∷ entries) (k ∷ index) h =
    let first : number m entry ≡ pos k = cc in
    let others : StandFor m entries index = cc in
    ap₂ (λ front back. front ∷ back) (own-place m entry k first) (index-places m entries index others)

pub are-places : (m : Assignment) (element : Element) (h : AreIndex m element.at element.shape)
    → IsIndex (places m element.at) element.shape
are-places m element h = subst (λ index. IsIndex index element.shape) (sym (index-places m element.at h.index h.stand)) h.within

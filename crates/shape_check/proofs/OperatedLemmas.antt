-- What is known of an operator by what is known of its operands.
use Rattle.std.specs.Prelude.{◌≡◌, ℕ, ◌+◌, ◌*◌, min, true, false, Bool, IsTrue, List, [], ◌∷◌, map, slice_index, if◌then◌else◌}
use Rattle.std.specs.Str.{bytes_eq}
use Rattle.std.proofs.Common.{refl, ap, sym, ◌∙◌, arith}
use Rattle.std.proofs.Math.Nat.{mul_comm}
use Rattle.shapes_core.specs.Shape.{is_shape}
use Rattle.moa_tree.specs.declared.operator.Op.{Op}
use Rattle.moa_tree.specs.Expr.{Expr, Use, Inner, Reduce}
use Rattle.moa_tree.specs.Pools.{Pools}
use Rattle.moa_tree.specs.ShapeOf.{beside, shape_of}
use Rattle.shape_check.specs.declared.known.Known.{Known}
use Rattle.shape_check.specs.Costs.{Priced, Prices, element_work, price, shapes_of, stored}
use Rattle.shape_check.specs.Judged.{IsAccepted, StandsFor, capped, node_tree}
use Rattle.shape_check.specs.Operated.{Accepts, AreAccepted, AreShaped}
use Rattle.shape_check.specs.Rules.{Place, is_declared, rule}
use Rattle.shape_check.specs.Verdict.{judged, shaped}
use Rattle.shape_check.proofs.LimitLemmas.{capped-product, shape-within}
use Rattle.shape_check.proofs.VerdictLemmas.{verdict-shape}

-- ---- counts

capped-folded : (most extent inner : ℕ) → min (1 + min (extent * min inner most) most) most ≡ min (1 + extent * inner) most
capped-folded most extent inner =
    let turned : extent * min inner most ≡ min inner most * extent = mul_comm extent (min inner most) in
    let back : inner * extent ≡ extent * inner = mul_comm inner extent in
    let product = capped-product inner extent most in
    let same : min (extent * min inner most) most ≡ min (extent * inner) most =
    ap (λ n. min n most) turned ∙ product ∙ ap (λ n. min n most) back in
    ap (λ n. min (1 + n) most) same ∙ (let e : min (1 + min (extent * inner) most) most ≡ min (1 + extent * inner) most = omega arith in e)

capped-sum : (most own a b : ℕ) → min (own + min (min a most + min b most) most) most ≡ min (own + (a + b)) most
capped-sum most own a b = omega arith

-- the work of a fold over operands of this work
pub folded : (extent own a b : ℕ) → capped (1 + capped (extent * capped (own + capped (capped a + capped b)))) ≡ capped (1 + extent * (own + (a + b)))
folded extent own a b =
    ap (λ n. capped (1 + capped (extent * n))) (capped-sum 18446744073709551615 own a b) ∙ capped-folded 18446744073709551615 extent (own + (a + b))

pub reduce-work : (prices : Prices) (fold : Op) (of : Expr) (first second : Known) → AreAccepted prices (of ∷ []) (first ∷ second ∷ [])
    → capped (1 + capped (slice_index first.shape 0 * capped (1 + capped (first.work + second.work)))) ≡ capped (element_work prices (Reduce fold of))
reduce-work prices fold of first second accepted =
    let shape = verdict-shape (shapes_of prices) 0 of first.shape (accepted.0.accepted 0) in
    let none : capped 0 ≡ 0 = refl in
    let empty : second.work ≡ capped 0 = accepted.1.1 ∙ sym none in
    ap (λ l. capped (1 + capped (slice_index l 0 * capped (1 + capped (first.work + second.work))))) shape
    ∙ ap (λ n. capped (1 + capped (slice_index (shape_of (shapes_of prices) of) 0 * capped (1 + capped (n + second.work))))) accepted.0.work
    ∙ ap (λ n. capped (1 + capped (slice_index (shape_of (shapes_of prices) of) 0 * capped (1 + capped (capped (element_work prices of) + n))))) empty
    ∙ folded (slice_index (shape_of (shapes_of prices) of) 0) 1 (element_work prices of) 0
    ∙ ap (λ n. capped (1 + slice_index (shape_of (shapes_of prices) of) 0 * (1 + n))) (let e : element_work prices of + 0 ≡ element_work prices of = omega arith in e)

pub inner-work : (prices : Prices) (fold op : Op) (left right : Expr) (first second : Known) → AreAccepted prices (left ∷ right ∷ []) (first ∷ second ∷ [])
    → capped (1 + capped (slice_index second.shape 0 * capped (2 + capped (first.work + second.work)))) ≡ capped (element_work prices (Inner fold op left right))
inner-work prices fold op left right first second accepted =
    let shape = verdict-shape (shapes_of prices) 0 right second.shape (accepted.1.0.accepted 0) in
    ap (λ l. capped (1 + capped (slice_index l 0 * capped (2 + capped (first.work + second.work))))) shape
    ∙ ap (λ n. capped (1 + capped (slice_index (shape_of (shapes_of prices) right) 0 * capped (2 + capped (n + second.work))))) accepted.0.work
    ∙ ap (λ n. capped (1 + capped (slice_index (shape_of (shapes_of prices) right) 0 * capped (2 + capped (capped (element_work prices left) + n))))) accepted.1.0.work
    ∙ folded (slice_index (shape_of (shapes_of prices) right) 0) 2 (element_work prices left) (element_work prices right)

-- ---- shapes

pub accepted-shaped : (prices : Prices) (exprs : List Expr) (known : List Known) → AreAccepted prices exprs known
    → AreShaped (shapes_of prices) exprs (map (λ k. k.shape) known)
accepted-shaped prices [] known h = tt
accepted-shaped prices (expr ∷ exprs) [] h = h
accepted-shaped prices (expr ∷ exprs) (known ∷ others) h = (h.0.accepted, accepted-shaped prices exprs others h.1)

-- a name has the shape of what it stands for
beside-shape : (prices : Prices) (name : List ℕ) → beside [] (shapes_of prices) name ≡ (price prices name).shape
beside-shape [] name = refl
beside-shape (entry ∷ prices) name = chosen (bytes_eq entry.0 name) entry.1 (beside (stored []) prices name) (beside [] (shapes_of prices) name) (beside-shape prices name) where
  chosen : (found : Bool) (here there : Priced) (shape : List ℕ) → shape ≡ there.shape → (if found then here.shape else shape) ≡ (if found then here else there).shape
  chosen true here there shape e = refl
  chosen false here there shape e = e

pub use-accepted : (prices : Prices) (name : List ℕ) (known : Known) → is_declared (shapes_of prices) name ≡ true → StandsFor known (price prices name)
    → IsTrue (is_shape known.shape) → Accepts prices (Use name) known
use-accepted prices name known declared stands small = record {
  accepted = λ at.
      ap (λ holds. shaped at (rule (Place.Node at) 2 holds) (beside [] (shapes_of prices) name)) declared
      ∙ ap (λ shape. shaped at [] shape) (beside-shape prices name ∙ sym stands.shape)
      ∙ ap (λ broken. judged broken known.shape) (shape-within (Place.Node at) known.shape small);
  nodes = stands.nodes;
  work = stands.work;
}

-- ---- operands

accepts : (pools : Pools) (prices : Prices) (number : ℕ) (known : Known) → IsAccepted pools prices number known → Accepts prices (node_tree pools number) known
accepts pools prices number known h = record { accepted = h.accepted; nodes = h.nodes; work = h.work }

pub accepted-none : (pools : Pools) (prices : Prices) (first second : Known) (inner : List ℕ) → inner ≡ [] → (first.nodes ≡ 0) × (first.work ≡ 0) → (second.nodes ≡ 0) × (second.work ≡ 0)
    → AreAccepted prices (map (node_tree pools) inner) (first ∷ second ∷ [])
accepted-none pools prices first second inner e h k = rw e (h.0, h.1, (k.0, k.1, tt))

pub accepted-one : (pools : Pools) (prices : Prices) (of : ℕ) (first second : Known) (inner : List ℕ) → inner ≡ of ∷ [] → IsAccepted pools prices of first
    → (second.nodes ≡ 0) × (second.work ≡ 0) → AreAccepted prices (map (node_tree pools) inner) (first ∷ second ∷ [])
accepted-one pools prices of first second inner e h k = rw e (accepts pools prices of first h, (k.0, k.1, tt))

pub accepted-two : (pools : Pools) (prices : Prices) (left right : ℕ) (first second : Known) (inner : List ℕ) → inner ≡ left ∷ right ∷ [] → IsAccepted pools prices left first
    → IsAccepted pools prices right second → AreAccepted prices (map (node_tree pools) inner) (first ∷ second ∷ [])
accepted-two pools prices left right first second inner e h k = rw e (accepts pools prices left first h, (accepts pools prices right second k, tt))

-- What is counted of a node and of its operands.
use Rattle.std.proofs.Common.{◌≡◌, ℕ, ◌<◌, Bool, true, false, List, [], ◌∷◌, ◌++◌, refl, ap, sym, subst, ◌∙◌, arith, length, true≢false}
use Rattle.std.specs.Prelude.{slice_get, slice_index, slice_index_or, Some, cond, ◌||◌}
use Rattle.std.specs.List.{AllByRecursion, flat_map, list_any}
use Rattle.std.specs.Str.{bytes_eq}
use Rattle.std.proofs.lemmas.List.{get_or_read}
use Rattle.moa_tree.specs.declared.tree.Node.{Node}
use Rattle.moa_tree.specs.Pool.{IsOrdered, expr_of, operands, trees, walk_of}
use Rattle.moa_tree.specs.Pools.{Pools}
use Rattle.shape_check.specs.declared.uses.Counts.{Counts}
use Rattle.shape_check.specs.declared.uses.Form.{Form}
use Rattle.shape_check.specs.Costs.{Prices, element_work, nodes, price, shape_in, shapes_of, stored}
use Rattle.shape_check.specs.Uses.{HasShapes, IsCapped, IsPriced, form_nodes, form_work}
use Rattle.shape_check.specs.Judged.{node_tree}
use Rattle.shape_check.specs.Rules.{is_declared}
use Rattle.shape_check.proofs.NodeLemmas.{NodeTrees, WalksStep, all-cut, tree-is, walk-first, walk-step}

-- a name that no statement has counts as a stored array
pub price_absent : (prices : Prices) (name : List ℕ) → is_declared (shapes_of prices) name ≡ false → price prices name ≡ stored []
price_absent [] name h = refl
price_absent (entry ∷ prices) name h = by (bytes_eq entry.0 name) refl (price_absent prices name)
  where
    by : (b : Bool) → bytes_eq entry.0 name ≡ b → (is_declared (shapes_of prices) name ≡ false → price prices name ≡ stored [])
        → price (entry ∷ prices) name ≡ stored []
    by true e rest = absurd (true≢false (sym (ap (λ t. t || list_any (λ other. bytes_eq other.0 name) (shapes_of prices)) e) ∙ h))
    by false e rest =
        ap (λ t. cond t entry.1 (price prices name)) e
        ∙ rest (sym (ap (λ t. t || list_any (λ other. bytes_eq other.0 name) (shapes_of prices)) e) ∙ h)

-- the counts of a node by its form
pub priced_as : NodeTrees → (pools : Pools) → IsOrdered pools.nodes → (number : ℕ) (n : Node) → slice_get pools.nodes number ≡ Some n
    → (prices : Prices) (f : Form)
    → nodes prices (expr_of pools.numbers (trees pools.numbers pools.nodes) n) ≡ form_nodes prices (node_tree pools) f
    → element_work prices (expr_of pools.numbers (trees pools.numbers pools.nodes) n) ≡ form_work prices (node_tree pools) f
    → (counts : Counts) → IsCapped (form_nodes prices (node_tree pools) f) (form_work prices (node_tree pools) f) counts → IsPriced pools prices number counts
priced_as law pools ordered number n there prices f is_nodes is_work counts capped =
    let e = tree-is law pools ordered number n there in
    subst (λ k. IsCapped k (element_work prices (node_tree pools number)) counts) (sym (ap (nodes prices) e ∙ is_nodes))
    (subst (λ w. IsCapped (form_nodes prices (node_tree pools) f) w counts) (sym (ap (element_work prices) e ∙ is_work)) capped)

-- the shapes of the nodes under its operands, and that of a node itself
module _ (law : WalksStep) (pools : Pools) (ordered : IsOrdered pools.nodes) (prices : Prices) (shapes : List (List ℕ)) where
  pub first_shape : (number : ℕ) → number < length pools.nodes → HasShapes pools prices shapes (walk_of pools.nodes number)
      → slice_index_or shapes number [] ≡ shape_in prices (node_tree pools number)
  first_shape number within h = (subst (HasShapes pools prices shapes) (walk-first law pools.nodes ordered number within) h).0

  module _ (number : ℕ) (n : Node) (there : slice_get pools.nodes number ≡ Some n) (h : HasShapes pools prices shapes (walk_of pools.nodes number)) where
    under : (numbers : List ℕ) → operands n ≡ numbers → HasShapes pools prices shapes (flat_map (walk_of pools.nodes) numbers)
    under numbers e = subst (λ l. HasShapes pools prices shapes (flat_map (walk_of pools.nodes) l)) e (subst (HasShapes pools prices shapes) (walk-step law pools.nodes ordered number n there) h).1

    pub shapes_of_one : (of : ℕ) → operands n ≡ of ∷ [] → HasShapes pools prices shapes (walk_of pools.nodes of)
    shapes_of_one of e = (all-cut (λ number. slice_index_or shapes number [] ≡ shape_in prices (node_tree pools number)) (walk_of pools.nodes of) [] (under (of ∷ []) e)).0

    pub shapes_of_two : (left right : ℕ) → operands n ≡ left ∷ right ∷ []
        → HasShapes pools prices shapes (walk_of pools.nodes left) × HasShapes pools prices shapes (walk_of pools.nodes right)
    shapes_of_two left right e =
        let parts = all-cut (λ number. slice_index_or shapes number [] ≡ shape_in prices (node_tree pools number)) (walk_of pools.nodes left) (walk_of pools.nodes right ++ []) (under (left ∷ right ∷ []) e) in
        (parts.0, (all-cut (λ number. slice_index_or shapes number [] ≡ shape_in prices (node_tree pools number)) (walk_of pools.nodes right) [] parts.1).0)

-- the first extent of the node's array, where its shape was read from the table
pub read_extent : (shapes : List (List ℕ)) (number : ℕ) (found wanted : List ℕ) (extent : ℕ) → found ≡ slice_index_or shapes number found → number < length shapes
    → slice_index_or shapes number [] ≡ wanted → extent ≡ slice_index found 0 → extent ≡ slice_index wanted 0
read_extent shapes number found wanted extent is within known e =
    e ∙ ap (λ s. slice_index s 0) (get_or_read shapes number found within is [] ∙ known)

-- the same at the operands of a node
module _ (pools : Pools) (prices : Prices) (shapes : List (List ℕ)) (law : WalksStep) (ordered : IsOrdered pools.nodes) (number : ℕ) (n : Node) where
  abbrev AreOperands : List ℕ → Type 0
  AreOperands numbers = AllByRecursion (λ operand. (operand < number) × (operand < length pools.nodes)) numbers

  at : (of : ℕ) → of < length pools.nodes → length shapes ≡ length pools.nodes → HasShapes pools prices shapes (walk_of pools.nodes of)
      → (found : List ℕ) (extent : ℕ) → found ≡ slice_index_or shapes of found → extent ≡ slice_index found 0
      → extent ≡ slice_index (shape_in prices (node_tree pools of)) 0
  at of within sized h found extent is e =
      read_extent shapes of found (shape_in prices (node_tree pools of)) extent is (omega (arith, within, sized)) (first_shape law pools ordered prices shapes of within h) e

  pub own_extent : (of : ℕ) → operands n ≡ of ∷ [] → AreOperands (operands n) → length shapes ≡ length pools.nodes
      → HasShapes pools prices shapes (walk_of pools.nodes of)
      → (found : List ℕ) (extent : ℕ) → found ≡ slice_index_or shapes of found → extent ≡ slice_index found 0
      → extent ≡ slice_index (shape_in prices (node_tree pools of)) 0
  own_extent of e all = at of (subst AreOperands e all).0.1

  pub right_extent : (left right : ℕ) → operands n ≡ left ∷ right ∷ [] → AreOperands (operands n) → length shapes ≡ length pools.nodes
      → HasShapes pools prices shapes (walk_of pools.nodes right)
      → (found : List ℕ) (extent : ℕ) → found ≡ slice_index_or shapes right found → extent ≡ slice_index found 0
      → extent ≡ slice_index (shape_in prices (node_tree pools right)) 0
  right_extent left right e all = at right (subst AreOperands e all).1.0.1

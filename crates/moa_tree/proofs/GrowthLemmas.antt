-- Pools that grow at their ends leave what is there as it is.
use Rattle.std.specs.Prelude.{◌≡◌, ℕ, suc, ◌+◌, ◌-◌, ◌<◌, ◌≤◌, ℤ, pos, List, [], ◌∷◌, ◌++◌, length, take, drop, slice_index_or, All}
use Rattle.std.specs.List.{AllByRecursion, flat_map}
use Rattle.std.proofs.Common.{refl, ap, sym, subst, ◌∙◌, arith, length-append, length-drop}
use Rattle.std.proofs.Math.Seq.{drop-append_seam, get_or-append_seam}
use Rattle.std.proofs.lemmas.List.{append-nil, drop-append-le, get_or_append_left, map-append, take-append-le, take_all}
use Rattle.text_tokens.specs.declared.token.Position.{Position}
use Rattle.text_tokens.specs.Tokens.{start}
use Rattle.moa_tree.specs.declared.tree.Node.{Node}
use Rattle.moa_tree.specs.declared.tree.Numbers.{Numbers}
use Rattle.moa_tree.specs.declared.tree.Statement.{Statement}
use Rattle.moa_tree.specs.Expr.{Expr, Number}
use Rattle.moa_tree.specs.Pool.{each_after, expr_of, IsOrdered, item_of, items_of, list_at, operands, tree_at, trees, trees_after, walk_from, walk_of}
use Rattle.moa_tree.specs.Pools.{AreThere, extents_of, lists_of, nodes_of}
use Rattle.moa_tree.specs.Positions.{positions_at}
use Rattle.moa_tree.proofs.WalkLemmas.{walks-there}
use Rattle.moa_tree.proofs.PoolLemmas.{all-same, expr-same, item-same, kept}

-- a list that lies in the pool
pub list-kept : (numbers more : List ℤ) (list : Numbers) → AreThere numbers list → list_at (numbers ++ more) list ≡ list_at numbers list
list-kept numbers more list there =
    let count = list.start + list.count - list.start in
    let within : count + list.start ≤ length numbers = omega (arith, there) in
    ap (take count) (drop-append-le list.start numbers more (omega (arith, there)))
    ∙ take-append-le count (drop list.start numbers) more (omega (arith, within, length-drop list.start numbers))

pub lists-kept : (numbers more : List ℤ) (lists : List Numbers) → AllByRecursion (AreThere numbers) lists
    → AllByRecursion (λ list. list_at (numbers ++ more) list ≡ list_at numbers list) lists
lists-kept numbers more [] there = tt
lists-kept numbers more (list ∷ lists) there = (list-kept numbers more list there.0, lists-kept numbers more lists there.1)

-- a list that was added last
pub list-added : (numbers values : List ℤ) → list_at (numbers ++ values) (record { start = length numbers; count = length values }) ≡ values
list-added numbers values =
    ap (take (length numbers + length values - length numbers)) (drop-append_seam numbers values)
    ∙ take_all (length numbers + length values - length numbers) values (omega arith)

module _ {X : Type 0} (none : X) (f : List X → ℕ → Node → X) where
  after-append : (front : List X) (nodes others : List Node) → each_after f front (nodes ++ others) ≡ each_after f (each_after f front nodes) others
  after-append front [] others = refl
  after-append front (first ∷ more) others = after-append (front ++ f front (length front) first ∷ []) more others

  length-after : (front : List X) (nodes : List Node) → length (each_after f front nodes) ≡ length front + length nodes
  length-after front [] = omega arith
  length-after front (first ∷ others) =
      omega (arith, length-after (front ++ f front (length front) first ∷ []) others, length-append front (f front (length front) first ∷ []))

  -- what earlier nodes have
  kept-behind : (nodes others : List Node) (number : ℕ) → number < length nodes
      → slice_index_or (each_after f [] (nodes ++ others)) number none ≡ slice_index_or (each_after f [] nodes) number none
  kept-behind nodes others number within =
      ap (λ l. slice_index_or l number none) (after-append [] nodes others)
      ∙ kept none f (each_after f [] nodes) others number (omega (arith, within, length-after [] nodes))

  -- what a node has that was added last
  added : (nodes : List Node) (node : Node) → slice_index_or (each_after f [] (nodes ++ node ∷ [])) (length nodes) none ≡ f (each_after f [] nodes) (length nodes) node
  added nodes node =
      let before = each_after f [] nodes in
      let e : length before ≡ length nodes = omega (arith, length-after [] nodes) in
      ap (λ l. slice_index_or l (length nodes) none) (after-append [] nodes (node ∷ []))
      ∙ ap (λ place. slice_index_or (before ++ f before (length before) node ∷ []) place none) (sym e)
      ∙ get_or-append_seam before (f before (length before) node) [] none
      ∙ ap (λ place. f before place node) e

-- the trees of earlier nodes
pub trees-behind : (numbers : List ℤ) (nodes others : List Node) (number : ℕ) → number < length nodes
    → tree_at (trees numbers (nodes ++ others)) number ≡ tree_at (trees numbers nodes) number
trees-behind numbers = kept-behind (Number (pos 0)) (λ before number node. expr_of numbers before node)

pub tree-added : (numbers : List ℤ) (nodes : List Node) (node : Node) → tree_at (trees numbers (nodes ++ node ∷ [])) (length nodes) ≡ expr_of numbers (trees numbers nodes) node
tree-added numbers = added (Number (pos 0)) (λ before number node. expr_of numbers before node)

pub walks-behind : (nodes others : List Node) (number : ℕ) → number < length nodes → walk_of (nodes ++ others) number ≡ walk_of nodes number
walks-behind = kept-behind [] walk_from

pub walk-added : (nodes : List Node) (node : Node) → walk_of (nodes ++ node ∷ []) (length nodes) ≡ length nodes ∷ flat_map (walk_of nodes) (operands node)
walk-added = added [] walk_from

-- nodes whose lists lie in the pool
trees-kept-after : (numbers more : List ℤ) (front : List Expr) (nodes : List Node) → All (λ n. AllByRecursion (AreThere numbers) (lists_of n)) nodes
    → trees_after (numbers ++ more) front nodes ≡ trees_after numbers front nodes
trees-kept-after numbers more front [] there = refl
trees-kept-after numbers more front (first ∷ others) there =
    ap (λ expr. trees_after (numbers ++ more) (front ++ expr ∷ []) others)
    (expr-same (numbers ++ more) numbers front front first (lists-kept numbers more (lists_of first) (there 0 first (omega arith))) (all-same (tree_at front) (operands first)))
    ∙ trees-kept-after numbers more (front ++ expr_of numbers front first ∷ []) others (λ k other within. there (suc k) other (omega (arith, within)))

pub trees-kept : (numbers more : List ℤ) (nodes : List Node) → All (λ n. AllByRecursion (AreThere numbers) (lists_of n)) nodes
    → trees (numbers ++ more) nodes ≡ trees numbers nodes
trees-kept numbers more nodes there = trees-kept-after numbers more [] nodes there

pub tree-kept : (numbers more : List ℤ) (nodes others : List Node) → All (λ n. AllByRecursion (AreThere numbers) (lists_of n)) nodes
    → (number : ℕ) → number < length nodes → tree_at (trees (numbers ++ more) (nodes ++ others)) number ≡ tree_at (trees numbers nodes) number
tree-kept numbers more nodes others there number within =
    trees-behind (numbers ++ more) nodes others number within ∙ ap (λ l. tree_at l number) (trees-kept numbers more nodes there)

all-kept : (numbers more : List ℤ) (nodes others : List Node) → All (λ n. AllByRecursion (AreThere numbers) (lists_of n)) nodes
    → (named : List ℕ) → AllByRecursion (λ number. number < length nodes) named
    → AllByRecursion (λ number. tree_at (trees (numbers ++ more) (nodes ++ others)) number ≡ tree_at (trees numbers nodes) number) named
all-kept numbers more nodes others there [] within = tt
all-kept numbers more nodes others there (number ∷ named) within =
    (tree-kept numbers more nodes others there number within.0, all-kept numbers more nodes others there named within.1)

-- statements over nodes and lists that are there
pub item-kept : (numbers more : List ℤ) (nodes others : List Node) (s : Statement) → All (λ n. AllByRecursion (AreThere numbers) (lists_of n)) nodes
    → AllByRecursion (AreThere numbers) (extents_of s) → AllByRecursion (λ number. number < length nodes) (nodes_of s)
    → item_of (numbers ++ more) (trees (numbers ++ more) (nodes ++ others)) s ≡ item_of numbers (trees numbers nodes) s
item-kept numbers more nodes others s there extents within =
    item-same (numbers ++ more) numbers (trees (numbers ++ more) (nodes ++ others)) (trees numbers nodes) s
    (lists-kept numbers more (extents_of s) extents) (all-kept numbers more nodes others there (nodes_of s) within)

pub items-kept : (numbers more : List ℤ) (nodes others : List Node) (statements : List Statement) → All (λ n. AllByRecursion (AreThere numbers) (lists_of n)) nodes
    → All (λ s. AllByRecursion (AreThere numbers) (extents_of s)) statements → All (λ s. AllByRecursion (λ number. number < length nodes) (nodes_of s)) statements
    → items_of (numbers ++ more) (nodes ++ others) statements ≡ items_of numbers nodes statements
items-kept numbers more nodes others [] there extents within = refl
items-kept numbers more nodes others (first ∷ rest) there extents within =
    ap (λ item. item ∷ items_of (numbers ++ more) (nodes ++ others) rest)
    (item-kept numbers more nodes others first there (extents 0 first (omega arith)) (within 0 first (omega arith)))
    ∙ ap (λ items. item_of numbers (trees numbers nodes) first ∷ items)
    (items-kept numbers more nodes others rest there (λ k other below. extents (suc k) other (omega (arith, below))) (λ k other below. within (suc k) other (omega (arith, below))))

-- the positions of nodes that are there
positions-kept : (positions more : List Position) (numbers : List ℕ) → AllByRecursion (λ number. number < length positions) numbers
    → positions_at (positions ++ more) numbers ≡ positions_at positions numbers
positions-kept positions more [] below = refl
positions-kept positions more (number ∷ numbers) below =
    ap (λ at. at ∷ positions_at (positions ++ more) numbers) (get_or_append_left positions more start number below.0)
    ∙ ap (λ those. slice_index_or positions number start ∷ those) (positions-kept positions more numbers below.1)

all-walks-behind : (nodes others : List Node) (numbers : List ℕ) → AllByRecursion (λ number. number < length nodes) numbers
    → flat_map (walk_of (nodes ++ others)) numbers ≡ flat_map (walk_of nodes) numbers
all-walks-behind nodes others [] below = refl
all-walks-behind nodes others (number ∷ numbers) below =
    ap (λ walk. walk ++ flat_map (walk_of (nodes ++ others)) numbers) (walks-behind nodes others number below.0)
    ∙ ap (λ walks. walk_of nodes number ++ walks) (all-walks-behind nodes others numbers below.1)

pub walk-positions : (positions more : List Position) (nodes others : List Node) → length positions ≡ length nodes → IsOrdered nodes
    → (numbers : List ℕ) → AllByRecursion (λ number. number < length nodes) numbers
    → positions_at (positions ++ more) (flat_map (walk_of (nodes ++ others)) numbers) ≡ positions_at positions (flat_map (walk_of nodes) numbers)
walk-positions positions more nodes others placed ordered numbers below =
    ap (positions_at (positions ++ more)) (all-walks-behind nodes others numbers below)
    ∙ positions-kept positions more (flat_map (walk_of nodes) numbers)
    (subst (λ bound. AllByRecursion (λ number. number < bound) (flat_map (walk_of nodes) numbers)) (sym placed) (walks-there nodes ordered numbers below))

pub node-positions : (positions more : List Position) (nodes others : List Node) → length positions ≡ length nodes → IsOrdered nodes
    → (number : ℕ) → number < length nodes
    → positions_at (positions ++ more) (walk_of (nodes ++ others) number) ≡ positions_at positions (walk_of nodes number)
node-positions positions more nodes others placed ordered number within =
    ap (positions_at (positions ++ more)) (sym (append-nil (walk_of (nodes ++ others) number)))
    ∙ walk-positions positions more nodes others placed ordered (number ∷ []) (within, tt)
    ∙ ap (positions_at positions) (append-nil (walk_of nodes number))

positions-of-walks : (positions : List Position) (nodes : List Node) (numbers : List ℕ)
    → positions_at positions (flat_map (walk_of nodes) numbers) ≡ flat_map (λ number. positions_at positions (walk_of nodes number)) numbers
positions-of-walks positions nodes [] = refl
positions-of-walks positions nodes (number ∷ numbers) =
    map-append (λ number. slice_index_or positions number start) (walk_of nodes number) (flat_map (walk_of nodes) numbers)
    ∙ ap (λ those. positions_at positions (walk_of nodes number) ++ those) (positions-of-walks positions nodes numbers)

-- a node that was added last stands at its position, and its operands at theirs
pub positions-added : (positions : List Position) (at : Position) (nodes : List Node) (node : Node) → length positions ≡ length nodes → IsOrdered nodes
    → AllByRecursion (λ operand. operand < length nodes) (operands node)
    → positions_at (positions ++ at ∷ []) (walk_of (nodes ++ node ∷ []) (length nodes))
    ≡ at ∷ flat_map (λ operand. positions_at positions (walk_of nodes operand)) (operands node)
positions-added positions at nodes node placed ordered below =
    let longer = positions ++ at ∷ [] in
    let under = flat_map (walk_of nodes) (operands node) in
    ap (positions_at longer) (walk-added nodes node)
    ∙ ap (λ place. slice_index_or longer place start ∷ positions_at longer under) (sym placed)
    ∙ ap (λ first. first ∷ positions_at longer under) (get_or-append_seam positions at [] start)
    ∙ ap (λ those. at ∷ those)
    (positions-kept positions (at ∷ []) under
    (subst (λ bound. AllByRecursion (λ number. number < bound) under) (sym placed) (walks-there nodes ordered (operands node) below))
    ∙ positions-of-walks positions nodes (operands node))

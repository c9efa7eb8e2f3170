-- The walk of a program goes once over each node, and over the expressions of its tree in order.
use Rattle.std.specs.Prelude.{◌≡◌, ℕ, zero, suc, ◌+◌, ◌<◌, ◌≤◌, ◌==◌, cond, ℤ, pos, List, [], ◌∷◌, ◌++◌, map, take, length, slice_index_or, All}
use Rattle.std.specs.List.{AllByRecursion, count_by, flat_map}
use Rattle.std.proofs.Common.{refl, ap, sym, subst, ◌∙◌, arith, inl, inr}
use Rattle.std.proofs.Math.Seq.{take-suc}
use Rattle.std.proofs.lemmas.Bool.{cases_eq, eq-eqb, ne_eqb}
use Rattle.std.proofs.lemmas.Grind.{flat_map-append}
use Rattle.std.proofs.lemmas.List.{append-nil, map-append, take_all}
use Rattle.std.proofs.lemmas.List.Sums.{sum_by-append, sum_by-cons}
use Rattle.moa_tree.specs.declared.tree.Node.{Node}
use Rattle.moa_tree.specs.declared.tree.Node.TheVariants as node
use Rattle.moa_tree.specs.declared.tree.Statement.{Statement}
use Rattle.moa_tree.specs.declared.tree.Statement.TheVariants as statement
use Rattle.moa_tree.specs.Expr.{Expr}
use Rattle.moa_tree.specs.Pool.{expr_of, IsOrdered, item_of, operands, tree_at, trees, walk_of}
use Rattle.moa_tree.specs.Pools.{IsProgram, Pools, nodes_of, tree_of, walk}
use Rattle.moa_tree.specs.Subexpressions.{subexpressions, subexpressions_of}
use Rattle.moa_tree.proofs.PoolLemmas.{tree-of-node, walk-of-node}

-- how often a number stands in a list
abbrev occurs : ℕ → List ℕ → ℕ
occurs n numbers = count_by (λ other. other == n) numbers

abbrev AllBelow : ℕ → List ℕ → Type 0
AllBelow bound numbers = AllByRecursion (λ number. number < bound) numbers

occurs-append : (n : ℕ) (xs ys : List ℕ) → occurs n (xs ++ ys) ≡ occurs n xs + occurs n ys
occurs-append n xs ys = sum_by-append (λ other. cond (other == n) 1 0) xs ys

occurs-here : (n : ℕ) (xs : List ℕ) → occurs n (n ∷ xs) ≡ 1 + occurs n xs
occurs-here n xs = sum_by-cons (λ other. cond (other == n) 1 0) n xs ∙ ap (λ b. cond b 1 0 + occurs n xs) (eq-eqb n n refl)

occurs-later : (n x : ℕ) (xs : List ℕ) → (x ≡ n → ⊥) → occurs n (x ∷ xs) ≡ occurs n xs
occurs-later n x xs h =
    sum_by-cons (λ other. cond (other == n) 1 0) x xs ∙ ap (λ b. cond b 1 0 + occurs n xs) (ne_eqb x n h)
    ∙ (let e : 0 + occurs n xs ≡ occurs n xs = omega arith in e)

absent : (n bound : ℕ) (xs : List ℕ) → bound ≤ n → AllBelow bound xs → occurs n xs ≡ 0
absent n bound [] above h = refl
absent n bound (x ∷ xs) above h = occurs-later n x xs (λ e. omega (arith, e, above, h.0)) ∙ absent n bound xs above h.1

-- a list is taken apart at a number that stands in it
split_at : (n : ℕ) (xs : List ℕ) → 0 < occurs n xs → (before : List ℕ) × (behind : List ℕ) × (xs ≡ before ++ n ∷ behind)
split_at n [] h = absurd (omega (arith, h))
split_at n (x ∷ xs) h = elim (cases_eq x n) [
  | inl e ↦ ([], xs, ap (λ y. y ∷ xs) e)
  | inr e ↦
      let parts = split_at n xs (omega (arith, h, occurs-later n x xs e)) in
      (x ∷ parts.0, parts.1, ap (λ l. x ∷ l) parts.2)
]

narrow : (bound : ℕ) (xs : List ℕ) → AllBelow (suc bound) xs → occurs bound xs ≡ 0 → AllBelow bound xs
narrow bound [] h e = tt
narrow bound (x ∷ xs) h e = elim (cases_eq x bound) [
  | inl same ↦ absurd (let here = occurs-here bound xs in let seen : occurs bound (x ∷ xs) ≡ occurs bound (bound ∷ xs) = ap (λ y. occurs bound (y ∷ xs)) same in omega (arith, here, seen, e))
  | inr other ↦ (omega (arith, h.0, other), narrow bound xs h.1 (sym (occurs-later bound x xs other) ∙ e))
]

widen : (a b : ℕ) (xs : List ℕ) → a ≤ b → AllBelow a xs → AllBelow b xs
widen a b [] le h = tt
widen a b (x ∷ xs) le h = (omega (arith, le, h.0), widen a b xs le h.1)

join : (bound : ℕ) (xs ys : List ℕ) → AllBelow bound xs → AllBelow bound ys → AllBelow bound (xs ++ ys)
join bound [] ys h k = k
join bound (x ∷ xs) ys h k = (h.0, join bound xs ys h.1 k)

cut : (bound : ℕ) (xs ys : List ℕ) → AllBelow bound (xs ++ ys) → AllBelow bound xs × AllBelow bound ys
cut bound [] ys h = (tt, h)
cut bound (x ∷ xs) ys h = let rest = cut bound xs ys h.1 in ((h.0, rest.0), rest.1)

-- a number in the place of which its operands come
exchanged : (n number : ℕ) (before behind inner : List ℕ)
    → occurs n (before ++ number ∷ behind) + occurs n inner ≡ occurs n (number ∷ []) + occurs n (before ++ (inner ++ behind))
exchanged n number before behind inner =
    let a = occurs-append n before (number ∷ behind) in
    let b = occurs-append n (number ∷ []) behind in
    let c = occurs-append n before (inner ++ behind) in
    let d = occurs-append n inner behind in
    omega (arith, a, b, c, d)

walked : (w : ℕ → List ℕ) (n number : ℕ) (before behind inner : List ℕ) → w number ≡ number ∷ flat_map w inner
    → occurs n (flat_map w (before ++ number ∷ behind)) ≡ occurs n (number ∷ []) + occurs n (flat_map w (before ++ (inner ++ behind)))
walked w n number before behind inner e =
    let a = ap (occurs n) (flat_map-append w before (number ∷ behind)) in
    let b = ap (occurs n) (flat_map-append w before (inner ++ behind) ∙ ap (λ l. flat_map w before ++ l) (flat_map-append w inner behind)) in
    let c = exchanged n number (flat_map w before) (flat_map w behind) (flat_map w inner) in
    let d = ap (λ l. occurs n (flat_map w before ++ (l ++ flat_map w behind))) e in
    let f = occurs-append n (flat_map w before) (number ∷ (flat_map w inner ++ flat_map w behind)) in
    let g = occurs-append n (number ∷ []) (flat_map w inner ++ flat_map w behind) in
    let h = occurs-append n (flat_map w before) (flat_map w inner ++ flat_map w behind) in
    omega (arith, a, b, d, f, g, h)

module _ (nodes : List Node) (ordered : IsOrdered nodes) (other : Node) where
  -- the operands of a node
  abbrev inner : ℕ → List ℕ
  inner number = operands (slice_index_or nodes number other)

  -- what is walked from nodes below a bound is below it
  under-more : (bound : ℕ) → suc bound ≤ length nodes → ((numbers : List ℕ) → AllBelow bound numbers → AllBelow bound (flat_map (walk_of nodes) numbers))
      → (numbers : List ℕ) → AllBelow (suc bound) numbers → AllBelow (suc bound) (flat_map (walk_of nodes) numbers)
  under-more bound within h [] below = tt
  under-more bound within h (number ∷ numbers) below =
      let there : number < length nodes = omega (arith, within, below.0) in
      let lower = widen number bound (inner number) (omega (arith, below.0)) (ordered number other there) in
      join (suc bound) (walk_of nodes number) (flat_map (walk_of nodes) numbers)
      (subst (AllBelow (suc bound)) (sym (walk-of-node nodes ordered number other there))
      (below.0, widen bound (suc bound) (flat_map (walk_of nodes) (inner number)) (omega arith) (h (inner number) lower)))
      (under-more bound within h numbers below.1)

  under : (bound : ℕ) → bound ≤ length nodes → (numbers : List ℕ) → AllBelow bound numbers → AllBelow bound (flat_map (walk_of nodes) numbers)
  under zero within [] below = tt
  under zero within (number ∷ numbers) below = absurd (omega (arith, below.0))
  under (suc bound) within numbers below =
      under-more bound within (λ others h. under bound (omega (arith, within)) others h) numbers below

  -- the operands of the nodes below a bound are below it
  front-under : (bound : ℕ) → bound ≤ length nodes → AllBelow bound (flat_map operands (take bound nodes))
  front-under zero within = tt
  front-under (suc bound) within =
      let there : bound < length nodes = omega (arith, within) in
      subst (λ l. AllBelow (suc bound) (flat_map operands l)) (sym (take-suc nodes bound other there))
      (subst (AllBelow (suc bound)) (sym (flat_map-append operands (take bound nodes) (slice_index_or nodes bound other ∷ [])))
      (join (suc bound) (flat_map operands (take bound nodes)) (inner bound ++ [])
      (widen bound (suc bound) (flat_map operands (take bound nodes)) (omega arith) (front-under bound (omega (arith, within))))
      (subst (AllBelow (suc bound)) (sym (append-nil (inner bound))) (widen bound (suc bound) (inner bound) (omega arith) (ordered bound other there)))))

  front-more : (n bound : ℕ) → suc bound ≤ length nodes
      → occurs n (flat_map operands (take (suc bound) nodes)) ≡ occurs n (flat_map operands (take bound nodes)) + occurs n (inner bound)
  front-more n bound within =
      ap (λ l. occurs n (flat_map operands l)) (take-suc nodes bound other (omega (arith, within)))
      ∙ ap (occurs n) (flat_map-append operands (take bound nodes) (slice_index_or nodes bound other ∷ []))
      ∙ ap (λ l. occurs n (flat_map operands (take bound nodes) ++ l)) (append-nil (inner bound))
      ∙ occurs-append n (flat_map operands (take bound nodes)) (inner bound)

  -- each of the nodes below a bound is used once, by the roots or as an operand
  abbrev UsedOnce : ℕ → List ℕ → Type 0
  UsedOnce bound roots = (n : ℕ) → n < bound → occurs n roots + occurs n (flat_map operands (take bound nodes)) ≡ 1

  -- then so are those below the last one, once its operands have come into its place
  used-below : (bound : ℕ) → suc bound ≤ length nodes → (before behind : List ℕ) → UsedOnce (suc bound) (before ++ bound ∷ behind)
      → UsedOnce bound (before ++ (inner bound ++ behind))
  used-below bound within before behind h n below =
      let a = h n (omega (arith, below)) in
      let b = front-more n bound within in
      let c = exchanged n bound before behind (inner bound) in
      let d = occurs-later n bound [] (λ e. omega (arith, e, below)) in
      let none : occurs n [] ≡ 0 = refl in
      omega (arith, a, b, c, d, none)

  used-there : (bound : ℕ) → suc bound ≤ length nodes → (roots : List ℕ) → UsedOnce (suc bound) roots → occurs bound roots ≡ 1
  used-there bound within roots h =
      let a = h bound (omega arith) in
      let b = front-more bound bound within in
      let c = absent bound bound (flat_map operands (take bound nodes)) (omega arith) (front-under bound (omega (arith, within))) in
      let d = absent bound bound (inner bound) (omega arith) (ordered bound other (omega (arith, within))) in
      omega (arith, a, b, c, d)

  -- the two sides of a number that stands once in a list
  sides : (bound : ℕ) (before behind : List ℕ) → AllBelow (suc bound) (before ++ bound ∷ behind) → occurs bound (before ++ bound ∷ behind) ≡ 1
      → AllBelow bound before × AllBelow bound behind
  sides bound before behind below once =
      let parts = cut (suc bound) before (bound ∷ behind) below in
      let a = occurs-append bound before (bound ∷ behind) in
      let b = occurs-here bound behind in
      (narrow bound before parts.0 (omega (arith, a, b, once)), narrow bound behind parts.1.1 (omega (arith, a, b, once)))

  walked-once : (bound : ℕ) → bound ≤ length nodes → (roots : List ℕ) → AllBelow bound roots → UsedOnce bound roots
      → (n : ℕ) → n < bound → occurs n (flat_map (walk_of nodes) roots) ≡ 1
  walked-once zero within roots below used n h = absurd (omega (arith, h))
  walked-once (suc bound) within roots below used n h =
      let there = used-there bound within roots used in
      let parts = split_at bound roots (omega (arith, there)) in
      let before = parts.0 in
      let behind = parts.1 in
      let both = sides bound before behind (subst (AllBelow (suc bound)) parts.2 below) (sym (ap (occurs bound) parts.2) ∙ there) in
      let shorter = before ++ (inner bound ++ behind) in
      let lower : AllBelow bound shorter =
      join bound before (inner bound ++ behind) both.0
      (join bound (inner bound) behind (ordered bound other (omega (arith, within))) both.1) in
      let a : occurs n (flat_map (walk_of nodes) roots) ≡ occurs n (bound ∷ []) + occurs n (flat_map (walk_of nodes) shorter) =
      ap (λ l. occurs n (flat_map (walk_of nodes) l)) parts.2
      ∙ walked (walk_of nodes) n bound before behind (inner bound) (walk-of-node nodes ordered bound other (omega (arith, within))) in
      let none : occurs n [] ≡ 0 = refl in
      elim (cases_eq bound n) [
        | inl e ↦
            let b : occurs n (bound ∷ []) ≡ 1 + occurs n [] = ap (λ k. occurs n (k ∷ [])) e ∙ occurs-here n [] in
            let c = absent n bound (flat_map (walk_of nodes) shorter) (omega (arith, e)) (under bound (omega (arith, within)) shorter lower) in
            omega (arith, a, b, c, none)
        | inr e ↦
            let b = occurs-later n bound [] e in
            let c = walked-once bound (omega (arith, within)) shorter lower
            (used-below bound within before behind (λ k below_k. sym (ap (λ l. occurs k l + occurs k (flat_map operands (take (suc bound) nodes))) parts.2) ∙ used k below_k))
            n (omega (arith, h, e)) in
            omega (arith, a, b, c, none)
      ]

-- what is walked from nodes that are there is there
pub walks-there : (nodes : List Node) → IsOrdered nodes → (numbers : List ℕ) → AllBelow (length nodes) numbers → AllBelow (length nodes) (flat_map (walk_of nodes) numbers)
walks-there nodes ordered = under nodes ordered (node.Iota (pos 0)) (length nodes) (omega arith)

-- the nodes that statements name are there
roots-below : (bound : ℕ) (statements : List Statement) → All (λ s. AllBelow bound (nodes_of s)) statements → AllBelow bound (flat_map nodes_of statements)
roots-below bound [] h = tt
roots-below bound (first ∷ others) h =
    join bound (nodes_of first) (flat_map nodes_of others) (h 0 first (omega arith)) (roots-below bound others (λ k d below. h (suc k) d (omega (arith, below))))

pub walk-within : (pools : Pools) → IsProgram pools → AllBelow (length pools.nodes) (walk pools)
walk-within pools program =
    walks-there pools.nodes program.ordered (flat_map nodes_of pools.statements) (roots-below (length pools.nodes) pools.statements program.nodes_there)

pub walk-once : (pools : Pools) → IsProgram pools → (number : ℕ) → number < length pools.nodes → occurs number (walk pools) ≡ 1
walk-once pools program number there =
    let roots = flat_map nodes_of pools.statements in
    walked-once pools.nodes program.ordered (node.Iota (pos 0)) (length pools.nodes) (omega arith) roots
    (roots-below (length pools.nodes) pools.statements program.nodes_there)
    (λ n below.
    let a = program.each_once n below in
    let b = occurs-append n (flat_map operands pools.nodes) roots in
    let c = ap (λ l. occurs n (flat_map operands l)) (take_all (length pools.nodes) pools.nodes (omega arith)) in
    omega (arith, a, b, c))
    number there

one : (t : List Expr) (of : ℕ) (whole : Expr)
    → whole ∷ subexpressions (tree_at t of) ≡ whole ∷ flat_map (λ operand. subexpressions (tree_at t operand)) (of ∷ [])
one t of whole = ap (λ l. whole ∷ l) (sym (append-nil (subexpressions (tree_at t of))))

two : (t : List Expr) (left right : ℕ) (whole : Expr)
    → whole ∷ (subexpressions (tree_at t left) ++ subexpressions (tree_at t right))
    ≡ whole ∷ flat_map (λ operand. subexpressions (tree_at t operand)) (left ∷ right ∷ [])
two t left right whole =
    ap (λ l. whole ∷ (subexpressions (tree_at t left) ++ l)) (sym (append-nil (subexpressions (tree_at t right))))

-- the expressions in an expression are itself and those in its operands
expressions-of-node : (pool : List ℤ) (t : List Expr) (n : Node)
    → subexpressions (expr_of pool t n) ≡ expr_of pool t n ∷ flat_map (λ operand. subexpressions (tree_at t operand)) (operands n)
expressions-of-node pool t (node.Number value) = refl
expressions-of-node pool t (node.Use name) = refl
expressions-of-node pool t (node.Iota extent) = refl
expressions-of-node pool t (node.One op of) = one t of (expr_of pool t (node.One op of))
expressions-of-node pool t (node.Two op left right) = two t left right (expr_of pool t (node.Two op left right))
expressions-of-node pool t (node.Psi list of) = one t of (expr_of pool t (node.Psi list of))
expressions-of-node pool t (node.Take list of) = one t of (expr_of pool t (node.Take list of))
expressions-of-node pool t (node.Drop list of) = one t of (expr_of pool t (node.Drop list of))
expressions-of-node pool t (node.Reverse of) = one t of (expr_of pool t (node.Reverse of))
expressions-of-node pool t (node.Rotate by of) = one t of (expr_of pool t (node.Rotate by of))
expressions-of-node pool t (node.Transpose of) = one t of (expr_of pool t (node.Transpose of))
expressions-of-node pool t (node.Permute list of) = one t of (expr_of pool t (node.Permute list of))
expressions-of-node pool t (node.Cat left right) = two t left right (expr_of pool t (node.Cat left right))
expressions-of-node pool t (node.Reshape list of) = one t of (expr_of pool t (node.Reshape list of))
expressions-of-node pool t (node.Ravel of) = one t of (expr_of pool t (node.Ravel of))
expressions-of-node pool t (node.Outer op left right) = two t left right (expr_of pool t (node.Outer op left right))
expressions-of-node pool t (node.Inner fold op left right) = two t left right (expr_of pool t (node.Inner fold op left right))
expressions-of-node pool t (node.Reduce fold of) = one t of (expr_of pool t (node.Reduce fold of))
expressions-of-node pool t (node.Scan fold of) = one t of (expr_of pool t (node.Scan fold of))

module _ (pool : List ℤ) (nodes : List Node) (ordered : IsOrdered nodes) (other : Node) where
  abbrev tree : ℕ → Expr
  tree number = tree_at (trees pool nodes) number

  -- the walks of some nodes go over the expressions in their trees, in order
  abbrev GoesOver : List ℕ → Type 0
  GoesOver numbers = map tree (flat_map (walk_of nodes) numbers) ≡ flat_map (λ number. subexpressions (tree number)) numbers

  over-more : (bound : ℕ) → suc bound ≤ length nodes → ((numbers : List ℕ) → AllBelow bound numbers → GoesOver numbers)
      → (numbers : List ℕ) → AllBelow (suc bound) numbers → GoesOver numbers
  over-more bound within h [] below = refl
  over-more bound within h (number ∷ numbers) below =
      let there : number < length nodes = omega (arith, within, below.0) in
      let n = slice_index_or nodes number other in
      let e = tree-of-node pool nodes ordered number other there in
      let lower = widen number bound (operands n) (omega (arith, below.0)) (ordered number other there) in
      map-append tree (walk_of nodes number) (flat_map (walk_of nodes) numbers)
      ∙ ap (λ l. map tree l ++ map tree (flat_map (walk_of nodes) numbers)) (walk-of-node nodes ordered number other there)
      ∙ ap (λ l. (tree number ∷ l) ++ map tree (flat_map (walk_of nodes) numbers)) (h (operands n) lower)
      ∙ ap (λ first. (first ∷ flat_map (λ operand. subexpressions (tree operand)) (operands n)) ++ map tree (flat_map (walk_of nodes) numbers)) e
      ∙ ap (λ l. l ++ map tree (flat_map (walk_of nodes) numbers)) (sym (expressions-of-node pool (trees pool nodes) n) ∙ ap subexpressions (sym e))
      ∙ ap (λ l. subexpressions (tree number) ++ l) (over-more bound within h numbers below.1)

  over : (bound : ℕ) → bound ≤ length nodes → (numbers : List ℕ) → AllBelow bound numbers → GoesOver numbers
  over zero within [] below = refl
  over zero within (number ∷ numbers) below = absurd (omega (arith, below.0))
  over (suc bound) within numbers below = over-more bound within (λ others h. over bound (omega (arith, within)) others h) numbers below

  over-statements : (statements : List Statement)
      → flat_map (λ number. subexpressions (tree number)) (flat_map nodes_of statements) ≡ flat_map subexpressions_of (map (item_of pool (trees pool nodes)) statements)
  over-statements [] = refl
  over-statements (statement.Input name extents at ∷ others) = over-statements others
  over-statements (statement.Name name number at ∷ others) = ap (λ l. subexpressions (tree number) ++ l) (over-statements others)
  over-statements (statement.Output name number at ∷ others) = ap (λ l. subexpressions (tree number) ++ l) (over-statements others)

pub walk-expressions : (pools : Pools) → IsProgram pools
    → map (tree_at (trees pools.numbers pools.nodes)) (walk pools) ≡ flat_map subexpressions_of (tree_of pools).statements
walk-expressions pools program =
    over pools.numbers pools.nodes program.ordered (node.Iota (pos 0)) (length pools.nodes) (omega arith) (flat_map nodes_of pools.statements)
    (roots-below (length pools.nodes) pools.statements program.nodes_there)
    ∙ over-statements pools.numbers pools.nodes program.ordered (node.Iota (pos 0)) pools.statements

-- the walk of a node goes over the expressions in its tree
pub walk-each : (pools : Pools) → IsProgram pools → (number : ℕ) → number < length pools.nodes
    → map (tree_at (trees pools.numbers pools.nodes)) (walk_of pools.nodes number) ≡ subexpressions (tree_at (trees pools.numbers pools.nodes) number)
walk-each pools program number there =
    let t = tree_at (trees pools.numbers pools.nodes) in
    ap (map t) (sym (append-nil (walk_of pools.nodes number)))
    ∙ over pools.numbers pools.nodes program.ordered (node.Iota (pos 0)) (length pools.nodes) (omega arith) (number ∷ []) (there, tt)
    ∙ append-nil (subexpressions (t number))

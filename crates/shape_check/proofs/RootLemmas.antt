-- The last node of a program is the expression of a statement.
use Rattle.std.proofs.Common.{◌≡◌, ℕ, zero, suc, ◌+◌, ◌-◌, ◌<◌, ◌≤◌, cond, List, [], ◌∷◌, ◌++◌, refl, ap, sym, subst, ◌∙◌, arith, inl, inr, length, take, get_or}
use Rattle.std.specs.Prelude.{◌==◌, pos}
use Rattle.std.specs.List.{AllByRecursion, count_by, flat_map}
use Rattle.std.proofs.Math.Seq.{take-suc}
use Rattle.std.proofs.lemmas.Bool.{cases_eq, ne_eqb}
use Rattle.std.proofs.lemmas.Grind.{flat_map-append}
use Rattle.std.proofs.lemmas.List.{append-nil, take_all, take_more}
use Rattle.std.proofs.lemmas.List.Sums.{sum_by-append, sum_by-cons}
use Rattle.moa_tree.specs.declared.tree.Node.{Node}
use Rattle.moa_tree.specs.declared.tree.Node.TheVariants as node
use Rattle.moa_tree.specs.declared.tree.Statement.{Statement}
use Rattle.moa_tree.specs.Pool.{IsOrdered, operands}
use Rattle.moa_tree.specs.Pools.{IsProgram, Pools, nodes_of}
use Rattle.shape_check.proofs.NodeLemmas.{all-join, all-map}

abbrev AllBelow : ℕ → List ℕ → Type 0
AllBelow bound numbers = AllByRecursion (λ number. number < bound) numbers

widen : (a b : ℕ) (xs : List ℕ) → a ≤ b → AllBelow a xs → AllBelow b xs
widen a b xs le = all-map (λ n. n < a) (λ n. n < b) (λ n h. omega (arith, le, h)) xs

absent : (n bound : ℕ) (xs : List ℕ) → bound ≤ n → AllBelow bound xs → count_by (λ other. other == n) xs ≡ 0
absent n bound [] above h = refl
absent n bound (x ∷ xs) above h =
    let ne = ne_eqb x n (λ e. omega (arith, e, above, h.0)) in
    let e = sum_by-cons (λ other. cond (other == n) 1 0) x xs ∙ ap (λ b. cond b 1 0 + count_by (λ other. other == n) xs) ne in
    omega (arith, e, absent n bound xs above h.1)

pub bound_more : (statements : List Statement) (i : ℕ) (d : Statement) (old new : ℕ) → i < length statements → old ≤ new → AllBelow old (flat_map nodes_of (take i statements))
    → AllBelow new (nodes_of (get_or statements i d)) → AllBelow new (flat_map nodes_of (take (i + 1) statements))
bound_more statements i d old new h le before here =
    subst (λ l. AllBelow new (flat_map nodes_of l)) (sym (take_more statements i d h))
    (subst (AllBelow new) (sym (flat_map-append nodes_of (take i statements) (get_or statements i d ∷ [])))
    (all-join (λ n. n < new) (flat_map nodes_of (take i statements)) (nodes_of (get_or statements i d) ++ [])
    (widen old new (flat_map nodes_of (take i statements)) le before)
    (subst (AllBelow new) (sym (append-nil (nodes_of (get_or statements i d)))) here)))

module _ (nodes : List Node) (ordered : IsOrdered nodes) (last : ℕ) (is_last : suc last ≡ length nodes) where
  front : (k : ℕ) → k ≤ length nodes → AllBelow last (flat_map operands (take k nodes))
  front zero within = tt
  front (suc k) within =
      let there : k < length nodes = omega (arith, within) in
      let d : Node = node.Iota (pos 0) in
      subst (λ l. AllBelow last (flat_map operands l)) (sym (take-suc nodes k d there))
      (subst (AllBelow last) (sym (flat_map-append operands (take k nodes) (get_or nodes k d ∷ [])))
      (all-join (λ n. n < last) (flat_map operands (take k nodes)) (operands (get_or nodes k d) ++ []) (front k (omega (arith, within)))
      (subst (AllBelow last) (sym (append-nil (operands (get_or nodes k d)))) (widen k last (operands (get_or nodes k d)) (omega (arith, within, is_last)) (ordered k d there)))))

pub counted : (pools : Pools) → IsProgram pools → (count i : ℕ) → count ≤ length pools.nodes → length pools.statements ≤ i
    → AllBelow count (flat_map nodes_of (take i pools.statements)) → count ≡ length pools.nodes
counted pools program count i le past above = elim (cases_eq count (length pools.nodes)) [
  | inl e ↦ e
  | inr ne ↦
      let last = length pools.nodes - 1 in
      let is_last : suc last ≡ length pools.nodes = omega (arith, ne, le) in
      let once = program.each_once last (omega (arith, is_last)) in
      let roots = subst (λ l. AllBelow count (flat_map nodes_of l)) (take_all i pools.statements past) above in
      let a = absent last count (flat_map nodes_of pools.statements) (omega (arith, ne, le, is_last)) roots in
      let ops = subst (λ l. AllBelow last (flat_map operands l)) (take_all (length pools.nodes) pools.nodes (omega arith)) (front pools.nodes program.ordered last is_last (length pools.nodes) (omega arith)) in
      let b = absent last last (flat_map operands pools.nodes) (omega arith) ops in
      let e = sum_by-append (λ other. cond (other == last) 1 0) (flat_map operands pools.nodes) (flat_map nodes_of pools.statements) in
      absurd (omega (arith, once, a, b, e))
]

-- Pools in the making stay so when something is added, and are those of a program once nothing is left without use.
use Rattle.std.specs.Prelude.{◌≡◌, ℕ, ◌+◌, ◌<◌, ◌≤◌, ◌==◌, ℤ, Bool, true, false, cond, nat_le, nat_lt, List, [], ◌∷◌, ◌++◌, length, slice_index_or, All}
use Rattle.std.specs.List.{AllByRecursion, count_by, flat_map}
use Rattle.std.proofs.Common.{refl, ap, ◌∙◌, arith, inl, inr, length-append}
use Rattle.std.proofs.Math.Bool.{and-false}
use Rattle.std.proofs.lemmas.Bool.{cases_eq, cases_lt, eq-eqb, le-ltb, lt-leb, ne_eqb}
use Rattle.shapes_core.specs.Limits.{most_items}
use Rattle.text_tokens.specs.declared.token.Position.{Position}
use Rattle.moa_tree.specs.declared.tree.Node.{Node}
use Rattle.moa_tree.specs.declared.tree.Numbers.{Numbers}
use Rattle.moa_tree.specs.declared.tree.Statement.{Statement}
use Rattle.moa_tree.specs.declared.tree.Version.{Version}
use Rattle.moa_tree.specs.Canonical.{canonical}
use Rattle.moa_tree.specs.Pool.{IsOrdered, operands}
use Rattle.moa_tree.specs.Pools.{AreThere, IsProgram, Pools, all_lists, covers, extents_of, lists_of, nodes_of, references, tree_of}
use Rattle.moa_tree.specs.Readings.{Reads}
use Rattle.moa_reader.specs.Build.{IsOpen, no_pools, with_node, with_numbers, with_statement}
use Rattle.moa_reader.proofs.CountLemmas.{all-cut, all-join, all-map, all-parts, count-cons, count-last, count-none, count-part, each-more}

abbrev pub AllBelow : ℕ → List ℕ → Type 0
AllBelow bound numbers = AllByRecursion (λ number. number < bound) numbers

abbrev pub AllThere : List ℤ → List Numbers → Type 0
AllThere numbers lists = AllByRecursion (AreThere numbers) lists

widen : (a b : ℕ) (numbers : List ℕ) → a ≤ b → AllBelow a numbers → AllBelow b numbers
widen a b numbers le = all-map (λ number. number < a) (λ number. number < b) (λ number below. omega (arith, le, below)) numbers

-- every use of a node is of one that is there
uses-there : (pools : Pools) → IsOrdered pools.nodes → All (λ s. AllBelow (length pools.nodes) (nodes_of s)) pools.statements
    → AllBelow (length pools.nodes) (references pools)
uses-there pools ordered there =
    let P : ℕ → Type 0 = λ number. number < length pools.nodes in
    all-join P (flat_map operands pools.nodes) (flat_map nodes_of pools.statements)
    (all-parts P operands pools.nodes (λ k d within. widen k (length pools.nodes) (operands (slice_index_or pools.nodes k d)) (omega (arith, within)) (ordered k d within)))
    (all-parts P nodes_of pools.statements there)

lists-there : (pools : Pools) → All (λ n. AllThere pools.numbers (lists_of n)) pools.nodes → All (λ s. AllThere pools.numbers (extents_of s)) pools.statements
    → AllThere pools.numbers (all_lists pools)
lists-there pools there extents =
    all-join (AreThere pools.numbers) (flat_map lists_of pools.nodes) (flat_map extents_of pools.statements)
    (all-parts (AreThere pools.numbers) lists_of pools.nodes there) (all-parts (AreThere pools.numbers) extents_of pools.statements extents)

pub open_none : (version : Version) → IsOpen [] [] (no_pools version)
open_none version = record {
  placed = refl;
  ordered = λ k d within. absurd (omega (arith, within));
  lists_there = λ k d within. absurd (omega (arith, within));
  nodes_there = λ k d within. absurd (omega (arith, within));
  extents_there = λ k d within. absurd (omega (arith, within));
  roots_there = tt;
  free_lists_there = tt;
  each_once = λ k within. absurd (omega (arith, within));
  lists_apart = λ place. omega arith;
}

-- a node has its operands from those without use, and its lists from those that belong to nothing
module _ (roots : List ℕ) (lists : List Numbers) (pools : Pools) (node : Node) (at : Position) where
  abbrev taken : List ℕ
  taken = operands node ++ roots

  used-once : IsOpen taken (lists_of node ++ lists) pools → (number : ℕ) → number < length (pools.nodes ++ node ∷ [])
      → count_by (λ other. other == number) ((length pools.nodes ∷ roots) ++ references (with_node pools node at)) ≡ 1
  used-once h number within =
      let p : ℕ → Bool = λ other. other == number in
      let below : ℕ → Type 0 = λ other. other < length pools.nodes in
      let rest = roots ++ references (with_node pools node at) in
      let moved : count_by p rest ≡ count_by p (taken ++ references pools) = count-part p operands pools.nodes node roots (flat_map nodes_of pools.statements) in
      elim (cases_eq (length pools.nodes) number) [
        | inl e ↦
            let there = all-join below taken (references pools) h.roots_there (uses-there pools h.ordered h.nodes_there) in
            let none = count-none p (taken ++ references pools)
            (all-map below (λ other. p other ≡ false) (λ other lower. ne_eqb other number (λ same. omega (arith, same, lower, e))) (taken ++ references pools) there) in
            let first = count-cons p (length pools.nodes) rest true (eq-eqb (length pools.nodes) number e) in
            omega (arith, moved, none, first)
        | inr e ↦
            let once = h.each_once number (omega (arith, e, within, length-append pools.nodes (node ∷ []))) in
            let first = count-cons p (length pools.nodes) rest false (ne_eqb (length pools.nodes) number e) in
            omega (arith, moved, once, first)
      ]

  node_open : IsOpen (operands node ++ roots) (lists_of node ++ lists) pools → IsOpen (length pools.nodes ∷ roots) lists (with_node pools node at)
  node_open h =
      let longer : length (pools.nodes ++ node ∷ []) ≡ length pools.nodes + 1 = length-append pools.nodes (node ∷ []) in
      let below : ℕ → Type 0 = λ other. other < length pools.nodes in
      let named = all-cut below (operands node) roots h.roots_there in
      let held = all-cut (AreThere pools.numbers) (lists_of node) lists h.free_lists_there in
      record {
        placed = omega (arith, h.placed, longer, length-append pools.positions (at ∷ []));
        ordered = each-more (λ number n. AllBelow number (operands n)) pools.nodes node h.ordered named.0;
        lists_there = each-more (λ number n. AllThere pools.numbers (lists_of n)) pools.nodes node h.lists_there held.0;
        nodes_there = λ k d within. widen (length pools.nodes) (length (pools.nodes ++ node ∷ [])) (nodes_of (slice_index_or pools.statements k d)) (omega (arith, longer)) (h.nodes_there k d within);
        extents_there = h.extents_there;
        roots_there = (omega (arith, longer), widen (length pools.nodes) (length (pools.nodes ++ node ∷ [])) roots (omega (arith, longer)) named.1);
        free_lists_there = held.1;
        each_once = used-once h;
        lists_apart = λ place.
            let moved = count-part (λ list. covers list place) lists_of pools.nodes node lists (flat_map extents_of pools.statements) in
            let apart = h.lists_apart place in
            omega (arith, moved, apart);
      }

pub open_node : (named roots : List ℕ) (held lists : List Numbers) (old new : Pools) (node : Node) (at : Position) (number : ℕ)
    → operands node ≡ named → lists_of node ≡ held → new ≡ with_node old node at → number ≡ length old.nodes
    → IsOpen (named ++ roots) (held ++ lists) old → IsOpen (number ∷ roots) lists new
open_node named roots held lists old new node at number names holds added numbered h =
    rw (numbered, added) (node_open roots lists old node at (rw (names, holds) h))

-- and so has a statement
statement_open : (roots : List ℕ) (lists : List Numbers) (pools : Pools) (statement : Statement)
    → IsOpen (nodes_of statement ++ roots) (extents_of statement ++ lists) pools → IsOpen roots lists (with_statement pools statement)
statement_open roots lists pools statement h =
    let below : ℕ → Type 0 = λ other. other < length pools.nodes in
    let named = all-cut below (nodes_of statement) roots h.roots_there in
    let held = all-cut (AreThere pools.numbers) (extents_of statement) lists h.free_lists_there in
    record {
      placed = h.placed;
      ordered = h.ordered;
      lists_there = h.lists_there;
      nodes_there = each-more (λ number s. AllBelow (length pools.nodes) (nodes_of s)) pools.statements statement h.nodes_there named.0;
      extents_there = each-more (λ number s. AllThere pools.numbers (extents_of s)) pools.statements statement h.extents_there held.0;
      roots_there = named.1;
      free_lists_there = held.1;
      each_once = λ number within.
          let moved = count-last (λ other. other == number) nodes_of pools.statements statement roots (flat_map operands pools.nodes) in
          moved ∙ h.each_once number within;
      lists_apart = λ place.
          let moved = count-last (λ list. covers list place) extents_of pools.statements statement lists (flat_map lists_of pools.nodes) in
          let apart = h.lists_apart place in
          omega (arith, moved, apart);
    }

pub open_statement : (named roots : List ℕ) (held lists : List Numbers) (old new : Pools) (statement : Statement)
    → nodes_of statement ≡ named → extents_of statement ≡ held → new ≡ with_statement old statement
    → IsOpen (named ++ roots) (held ++ lists) old → IsOpen roots lists new
open_statement named roots held lists old new statement names holds added h =
    rw added (statement_open roots lists old statement (rw (names, holds) h))

-- which of two nodes without use comes first does not matter
pub open_exchanged : (left right : ℕ) (roots : List ℕ) (lists : List Numbers) (pools : Pools)
    → IsOpen (right ∷ left ∷ roots) lists pools → IsOpen (left ∷ right ∷ roots) lists pools
open_exchanged left right roots lists pools h = record {
  placed = h.placed;
  ordered = h.ordered;
  lists_there = h.lists_there;
  nodes_there = h.nodes_there;
  extents_there = h.extents_there;
  roots_there = (h.roots_there.1.0, (h.roots_there.0, h.roots_there.1.1));
  free_lists_there = h.free_lists_there;
  each_once = λ number within.
      let p : ℕ → Bool = λ other. other == number in
      let rest = roots ++ references pools in
      let once = h.each_once number within in
      omega (
        arith,
        once,
        count-cons p left (right ∷ rest) (p left) refl,
        count-cons p right rest (p right) refl,
        count-cons p right (left ∷ rest) (p right) refl,
        count-cons p left rest (p left) refl,
      );
  lists_apart = h.lists_apart;
}

-- a list of the pool has no place behind the pool
covers-none : (numbers : List ℤ) (place : ℕ) (list : Numbers) → length numbers ≤ place → AreThere numbers list → covers list place ≡ false
covers-none numbers place list behind there =
    let late : nat_lt place (list.start + list.count) ≡ false = le-ltb place (list.start + list.count) (omega (arith, behind, there)) in
    rw late (and-false (nat_le list.start place))

at-most-one : (b : Bool) → cond b 1 0 ≤ 1
at-most-one true = omega arith
at-most-one false = omega arith

-- a list that lies behind the pool, where numbers are added
list_open : (roots : List ℕ) (lists : List Numbers) (pools : Pools) (values : List ℤ) (list : Numbers)
    → list.start ≡ length pools.numbers → list.start + list.count ≡ length (pools.numbers ++ values)
    → IsOpen roots lists pools → IsOpen roots (list ∷ lists) (with_numbers pools values)
list_open roots lists pools values list start end h =
    let longer : length pools.numbers ≤ length (pools.numbers ++ values) = omega (arith, length-append pools.numbers values) in
    let keep = all-map (AreThere pools.numbers) (AreThere (pools.numbers ++ values)) (λ other there. omega (arith, longer, there)) in
    record {
      placed = h.placed;
      ordered = h.ordered;
      lists_there = λ k d within. keep (lists_of (slice_index_or pools.nodes k d)) (h.lists_there k d within);
      nodes_there = h.nodes_there;
      extents_there = λ k d within. keep (extents_of (slice_index_or pools.statements k d)) (h.extents_there k d within);
      roots_there = h.roots_there;
      free_lists_there = (omega (arith, end), keep lists h.free_lists_there);
      each_once = h.each_once;
      lists_apart = λ place.
          let p : Numbers → Bool = λ other. covers other place in
          let others = lists ++ all_lists pools in
          let apart = h.lists_apart place in
          elim (cases_lt place (length pools.numbers)) [
            | inr behind ↦
                let there = all-join (AreThere pools.numbers) lists (all_lists pools) h.free_lists_there (lists-there pools h.lists_there h.extents_there) in
                let none = count-none p others (all-map (AreThere pools.numbers) (λ other. p other ≡ false) (λ other lies. covers-none pools.numbers place other behind lies) others there) in
                omega (arith, none, count-cons p list others (p list) refl, at-most-one (p list))
            | inl before ↦
                let early : nat_le list.start place ≡ false = lt-leb list.start place (omega (arith, start, before)) in
                let first = count-cons p list others false (rw early refl) in
                omega (arith, first, apart)
          ];
    }

pub open_list : (roots : List ℕ) (lists : List Numbers) (old new : Pools) (values : List ℤ) (list : Numbers)
    → new ≡ with_numbers old values → list.start ≡ length old.numbers → list.start + list.count ≡ length new.numbers
    → IsOpen roots lists old → IsOpen roots (list ∷ lists) new
open_list roots lists old new values list added start end h =
    rw added (list_open roots lists old values list start (end ∙ ap (λ pools. length pools.numbers) added) h)

-- where nothing is left without use
pub closed_program : (pools : Pools) → IsOpen [] [] pools → Reads (canonical (tree_of pools)) (tree_of pools)
    → length pools.nodes + length pools.numbers + length pools.statements ≤ most_items → IsProgram pools
closed_program pools h reads few = record {
  placed = h.placed;
  ordered = h.ordered;
  lists_there = h.lists_there;
  nodes_there = h.nodes_there;
  extents_there = h.extents_there;
  each_once = h.each_once;
  lists_apart = h.lists_apart;
  reads = reads;
  few = few;
}

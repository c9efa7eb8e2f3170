-- The scans along a walk.
use Rattle.std.proofs.Common.{◌≡◌, ℕ, suc, ◌+◌, ◌<◌, List, [], ◌∷◌, ◌++◌, refl, ap, sym, ◌∙◌, arith, length, map, take, get_or, append_assoc}
use Rattle.std.specs.Prelude.{slice_get, slice_index_or, Some, pos}
use Rattle.std.specs.List.{flat_map}
use Rattle.std.proofs.lemmas.List.{append-nil, get_or_read, length-map, length-take-le, map_more}
use Rattle.std.proofs.lemmas.Option.{get_or_from_slice_get}
use Rattle.moa_tree.specs.declared.tree.Node.{Node}
use Rattle.moa_tree.specs.declared.tree.Node.TheVariants as node
use Rattle.moa_tree.specs.Pool.{IsOrdered, listed, operands, walk_of}
use Rattle.moa_tree.specs.declared.tree.Operands.{Operands}
use Rattle.moa_tree.specs.declared.tree.Operands.TheVariants as operand
use Rattle.shape_check.specs.declared.scans.PoolScan.{PoolScan}
use Rattle.shape_check.proofs.NodeLemmas.{WalksStep, flat-flat, walk-step}
use Rattle.shapes_core.specs.declared.area.AreaKind.TheVariants as area
use Rattle.shape_check.specs.Layout.{Array, numbered}
use Rattle.shape_check.specs.Scans.{node_at, numbered_jobs, scan_of, scans_at}

pub scans-step : WalksStep → (nodes : List Node) → IsOrdered nodes → (number : ℕ) (n : Node) → slice_get nodes number ≡ Some n
    → scans_at nodes (walk_of nodes number) ≡ scan_of n ++ flat_map (λ o. scans_at nodes (walk_of nodes o)) (operands n)
scans-step law nodes ordered number n there =
    ap (scans_at nodes) (walk-step law nodes ordered number n there)
    ∙ ap (λ m. scan_of m ++ scans_at nodes (flat_map (walk_of nodes) (operands n))) (get_or_from_slice_get nodes number n (node.Iota (pos 0)) there)
    ∙ ap (λ l. scan_of n ++ l) (flat-flat (λ m. scan_of (node_at nodes m)) (walk_of nodes) (operands n))

-- what is found by the operands that are listed
module _ (law : WalksStep) (nodes : List Node) (ordered : IsOrdered nodes) (number : ℕ) (n : Node) (there : slice_get nodes number ≡ Some n)
    (old : List PoolScan) where
  abbrev of_all : List ℕ → List PoolScan
  of_all numbers = flat_map (λ o. scans_at nodes (walk_of nodes o)) numbers

  by_list : (found : Operands) → listed found ≡ operands n → (old ++ scan_of n) ++ of_all (listed found) ≡ old ++ scans_at nodes (walk_of nodes number)
  by_list found e =
      ap (λ l. (old ++ scan_of n) ++ of_all l) e ∙ append_assoc old (scan_of n) (of_all (operands n))
      ∙ ap (λ l. old ++ l) (sym (scans-step law nodes ordered number n there))

  pub none_found : listed operand.None ≡ operands n → old ++ scan_of n ≡ old ++ scans_at nodes (walk_of nodes number)
  none_found e = sym (append-nil (old ++ scan_of n)) ∙ by_list operand.None e

  pub one_found : (of : ℕ) → listed (operand.One of) ≡ operands n
      → (old ++ scan_of n) ++ scans_at nodes (walk_of nodes of) ≡ old ++ scans_at nodes (walk_of nodes number)
  one_found of e = ap (λ l. (old ++ scan_of n) ++ l) (sym (append-nil (scans_at nodes (walk_of nodes of)))) ∙ by_list (operand.One of) e

  pub two_found : (left right : ℕ) → listed (operand.Two left right) ≡ operands n
      → ((old ++ scan_of n) ++ scans_at nodes (walk_of nodes left)) ++ scans_at nodes (walk_of nodes right) ≡ old ++ scans_at nodes (walk_of nodes number)
  two_found left right e =
      append_assoc (old ++ scan_of n) (scans_at nodes (walk_of nodes left)) (scans_at nodes (walk_of nodes right))
      ∙ ap (λ l. (old ++ scan_of n) ++ (scans_at nodes (walk_of nodes left) ++ l)) (sym (append-nil (scans_at nodes (walk_of nodes right))))
      ∙ by_list (operand.Two left right) e

-- one job more
pub numbered_more : (area : ℕ) (scans : List PoolScan) (scan : PoolScan)
    → numbered_jobs area (scans ++ scan ∷ []) ≡ numbered_jobs area scans ++ record { area = area + length scans; node = scan.node; fold = Some scan.fold } ∷ []
numbered_more area [] scan = ap (λ a. record { area = a; node = scan.node; fold = Some scan.fold } ∷ []) (omega arith)
numbered_more area (first ∷ scans) scan =
    ap (λ l. record { area = area; node = first.node; fold = Some first.fold } ∷ l)
    (numbered_more (suc area) scans scan
    ∙ ap (λ a. numbered_jobs (suc area) scans ++ record { area = a; node = scan.node; fold = Some scan.fold } ∷ []) (omega arith))

-- one array more
pub arrays_more : (number : ℕ) (shapes : List (List ℕ)) (shape : List ℕ)
    → numbered number (shapes ++ shape ∷ []) ≡ numbered number shapes ++ (area.Scan (number + length shapes), shape) ∷ []
arrays_more number [] shape = ap (λ n. (area.Scan n, shape) ∷ []) (omega arith)
arrays_more number (first ∷ shapes) shape =
    ap (λ l. (area.Scan number, first) ∷ l)
    (arrays_more (suc number) shapes shape
    ∙ ap (λ n. numbered (suc number) shapes ++ (area.Scan n, shape) ∷ []) (omega arith))

pub length-numbered : (number : ℕ) (shapes : List (List ℕ)) → length (numbered number shapes) ≡ length shapes
length-numbered number [] = refl
length-numbered number (first ∷ shapes) = ap suc (length-numbered (suc number) shapes)

-- one scan more is added
pub push_more : (shapes : List (List ℕ)) (scans : List PoolScan) (i : ℕ) (d : PoolScan) → i < length scans → (old now new : List Array)
    → now ≡ old ++ numbered (length old) (map (λ scan. slice_index_or shapes scan.node []) (take i scans))
    → length now ≡ length old + i → (shape : List ℕ) → shape ≡ get_or shapes (get_or scans i d).node shape → (get_or scans i d).node < length shapes
    → (number : ℕ) → number ≡ length now → new ≡ now ++ (area.Scan number, shape) ∷ []
    → new ≡ old ++ numbered (length old) (map (λ scan. slice_index_or shapes scan.node []) (take (i + 1) scans))
push_more shapes scans i d h old now new before longer shape read within number numbers added =
    let f : PoolScan → List ℕ = λ scan. slice_index_or shapes scan.node [] in
    let known : shape ≡ f (get_or scans i d) = get_or_read shapes (get_or scans i d).node shape within read [] in
    let many : length old + length (map f (take i scans)) ≡ length now = omega (arith, longer, length-map (take i scans) f, length-take-le i scans (omega (arith, h))) in
    added ∙ ap (λ n. now ++ (area.Scan n, shape) ∷ []) numbers ∙ ap (λ l. l ++ (area.Scan (length now), shape) ∷ []) before
    ∙ append_assoc old (numbered (length old) (map f (take i scans))) ((area.Scan (length now), shape) ∷ [])
    ∙ ap (λ n. old ++ (numbered (length old) (map f (take i scans)) ++ (area.Scan n, shape) ∷ [])) (sym many)
    ∙ ap (λ s. old ++ (numbered (length old) (map f (take i scans)) ++ (area.Scan (length old + length (map f (take i scans))), s) ∷ [])) known
    ∙ ap (λ l. old ++ l) (sym (arrays_more (length old) (map f (take i scans)) (f (get_or scans i d))))
    ∙ ap (λ l. old ++ numbered (length old) l) (sym (map_more f scans i d h))

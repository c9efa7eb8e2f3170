-- Costs are added one after another.
use Rattle.std.proofs.Common.{◌≡◌, ℕ, ◌+◌, ◌*◌, ◌<◌, ◌≤◌, List, [], ◌∷◌, ap, sym, subst, ◌∙◌, arith, length, take, get_or}
use Rattle.std.specs.Prelude.{All}
use Rattle.std.specs.List.{sum_by}
use Rattle.std.proofs.lemmas.List.{get_or_read, take_all, take_more}
use Rattle.std.proofs.lemmas.List.Sums.{sum_by-append, sum_by-cons}
use Rattle.shapes_core.specs.Shape.{total}
use Rattle.moa_tree.specs.Pool.{IsOrdered}
use Rattle.moa_tree.specs.Pools.{Pools}
use Rattle.shape_check.specs.declared.uses.Counts.{Counts}
use Rattle.shape_check.specs.declared.scans.PoolScan.{PoolScan}
use Rattle.shape_check.specs.declared.totals.Totals.{Totals}
use Rattle.shape_check.specs.Costs.{Prices, shape_in}
use Rattle.shape_check.specs.Uses.{IsCapped, IsPriced}
use Rattle.shape_check.specs.Judged.{capped, node_tree}
use Rattle.shape_check.specs.Scans.{IsShaped, IsWith, scan_size, scan_work}
use Rattle.shape_check.proofs.CountLemmas.{first_shape}
use Rattle.shape_check.proofs.NodeLemmas.{WalksStep}

pub with_none : (totals : Totals) → IsWith 0 0 totals totals
with_none totals = record { size = λ more. ap (λ k. capped (totals.size + k)) (omega arith); work = λ more. ap (λ k. capped (totals.work + k)) (omega arith) }

pub with_both : (a b c d : ℕ) (x y z : Totals) → IsWith a b x y → IsWith c d y z → IsWith (a + c) (b + d) x z
with_both a b c d x y z first second = record {
  size = λ more. second.size more ∙ first.size (c + more) ∙ ap (λ k. capped (x.size + k)) (omega arith);
  work = λ more. second.work more ∙ first.work (d + more) ∙ ap (λ k. capped (x.work + k)) (omega arith);
}

pub sum-more : {X : Type 0} (f : X → ℕ) (xs : List X) (i : ℕ) (d : X) → i < length xs → sum_by f (take (i + 1) xs) ≡ sum_by f (take i xs) + f (get_or xs i d)
sum-more f xs i d h =
    ap (sum_by f) (take_more xs i d h) ∙ sum_by-append f (take i xs) (get_or xs i d ∷ [])
    ∙ ap (λ k. sum_by f (take i xs) + k) (sum_by-cons f (get_or xs i d) [] ∙ (let e : f (get_or xs i d) + 0 ≡ f (get_or xs i d) = omega arith in e))

module _ (law : WalksStep) (pools : Pools) (ordered : IsOrdered pools.nodes) (prices : Prices) (shapes : List (List ℕ)) (scans : List PoolScan)
    (shaped : All (IsShaped pools prices shapes) scans) (old : Totals) where
  -- the scans up to a place are added
  abbrev pub AreWith : ℕ → Totals → Type 0
  AreWith i new = IsWith (sum_by (scan_size pools prices) (take i scans)) (sum_by (scan_work pools prices) (take i scans)) old new

  pub one_scan_more : (i : ℕ) → i < length scans → (d : PoolScan) (middle new : Totals) (counts : Counts) (shape : List ℕ)
      → AreWith i middle → shape ≡ get_or shapes (get_or scans i d).node shape → length shapes ≡ length pools.nodes
      → IsPriced pools prices (get_or scans i d).node counts
      → ((nodes work : ℕ) → IsCapped nodes work counts → IsWith (2 + (1 + nodes)) ((1 + total shape) * (1 + (1 + work))) middle new)
      → AreWith (i + 1) new
  one_scan_more i h d middle new counts shape before read sized priced added =
      let s = get_or scans i d in
      let known = shaped i d h in
      let e : shape ≡ shape_in prices (node_tree pools s.node) =
      get_or_read shapes s.node shape (omega (arith, known.there, sized)) read []
      ∙ first_shape law pools ordered prices shapes s.node known.there known.shaped in
      let one : IsWith (scan_size pools prices s) (scan_work pools prices s) middle new =
      subst (λ sh. IsWith (scan_size pools prices s) ((1 + total sh) * (1 + (1 + Rattle.shape_check.specs.Costs.element_work prices (node_tree pools s.node)))) middle new) e
      (added (Rattle.shape_check.specs.Costs.nodes prices (node_tree pools s.node)) (Rattle.shape_check.specs.Costs.element_work prices (node_tree pools s.node)) priced) in
      subst (λ k. IsWith k (sum_by (scan_work pools prices) (take (i + 1) scans)) old new) (sym (sum-more (scan_size pools prices) scans i d h))
      (subst (λ k. IsWith (sum_by (scan_size pools prices) (take i scans) + scan_size pools prices s) k old new) (sym (sum-more (scan_work pools prices) scans i d h))
      (with_both (sum_by (scan_size pools prices) (take i scans)) (sum_by (scan_work pools prices) (take i scans)) (scan_size pools prices s) (scan_work pools prices s) old middle new before one))

  pub all_scans : (i : ℕ) (new : Totals) → length scans ≤ i → AreWith i new
      → IsWith (sum_by (scan_size pools prices) scans) (sum_by (scan_work pools prices) scans) old new
  all_scans i new h known = subst (λ l. IsWith (sum_by (scan_size pools prices) l) (sum_by (scan_work pools prices) l) old new) (take_all i scans h) known

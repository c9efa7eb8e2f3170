-- What becomes of a surveyed program by the limits of the whole program.
use Rattle.std.proofs.Common.{◌≡◌, ◌^◌, ◌<◌, ◌≤◌, List, sym, subst}
use Rattle.std.specs.Prelude.{None, Ok, Err, Result, MatchResult}
use Rattle.shapes_core.specs.Limits.{greatest_size, greatest_work, most_words}
use Rattle.shapes_core.specs.declared.area.Area.{Area}
use Rattle.moa_tree.specs.Pools.{Pools}
use Rattle.shape_check.specs.Blocks.{IsLayout, array_words}
use Rattle.shape_check.specs.Judged.{items_in}
use Rattle.shape_check.specs.Kept.{Explains, IsChecked}
use Rattle.shape_check.specs.Layout.{Array, arrays, placed}
use Rattle.shape_check.specs.Limited.{IsBlockRefused, checking_of}
use Rattle.shape_check.specs.Limited.IsBlockRefused.{no_memory, too_many}
use Rattle.shape_check.specs.Progress.{Surveyed}
use Rattle.shape_check.specs.declared.error.CheckError.{CheckError}
use Rattle.shape_check.specs.declared.error.CheckError.TheVariants as error
use Rattle.shape_check.specs.declared.progress.Progress.{Progress}
use Rattle.shape_check.proofs.BlockLemmas.{layout_kept}
use Rattle.shape_check.proofs.CheckLemmas.{is_checked, words_refused, work_refused}

module _ (pools : Pools) (p : Progress) (s : Surveyed pools p) (small : p.totals.size ≤ greatest_size) where
  -- the work is within its limit, or beyond it
  pub costs_told : {T : Type 0} (result : Result T CheckError) → p.totals.work < 2 ^ 64
      → MatchResult result (λ _. p.totals.work ≤ greatest_work) (λ wrong. (greatest_work < p.totals.work) × (wrong ≡ error.Limit None 6 p.totals.work))
      → MatchResult result (λ _. (p.totals.size ≤ greatest_size) × (p.totals.work ≤ greatest_work)) (λ wrong. Explains pools wrong)
  costs_told (Ok done) fits told = (small, told)
  costs_told (Err wrong) fits told = subst (Explains pools) (sym told.1) (work_refused pools p s small told.0 fits)

  module _ (quick : p.totals.work ≤ greatest_work) (all : List Array) (they : all ≡ arrays (items_in pools)) where
    -- a block that is not too large has a layout
    pub block_laid : array_words all ≤ most_words → IsLayout (placed 0 all)
    block_laid small = subst (λ l. IsLayout (placed 0 l)) (sym they)
        (layout_kept (items_in pools) s.shapes s.verdict s.few (subst (λ l. array_words l ≤ most_words) they small))

    block_refused : (wrong : CheckError) → IsBlockRefused all wrong → Explains pools wrong
    block_refused wrong (too_many {value = value} e h fits) = words_refused pools p s small quick all they value e h fits
    block_refused wrong no_memory = tt

    pub block_told : (result : Result (List Area) CheckError)
        → MatchResult result (λ layout. (array_words all ≤ most_words) × (layout ≡ placed 0 all)) (λ wrong. IsBlockRefused all wrong)
        → MatchResult result (λ layout. IsChecked (checking_of pools p layout)) (λ wrong. Explains pools wrong)
    block_told (Ok layout) told = is_checked pools p s small quick all they told.0 layout told.1
    block_told (Err wrong) told = block_refused wrong told

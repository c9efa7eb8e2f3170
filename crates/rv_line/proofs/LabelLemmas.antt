-- Which instructions have a label, and where instructions stand, one instruction after another.
use Rattle.std.proofs.Common.{◌≡◌, ℕ, suc, zero, ◌+◌, ◌<◌, ◌≤◌, List, [], ◌∷◌, ◌++◌, length, take, drop, set, get_or, refl, sym, ap, ◌∙◌, inl, inr, arith, add-zero, eq-eqb, append_assoc}
use Rattle.std.specs.Prelude.{Bool, true, false, Option, Some, None, IfSome, if◌then◌else◌}
use Rattle.std.specs.Prelude.{◌||◌}
use Rattle.std.specs.List.{list_any}
use Rattle.std.proofs.Math.Bool.{or-true, or-false}
use Rattle.std.proofs.lemmas.Bool.{cases_eq, ne_eqb}
use Rattle.std.proofs.lemmas.List.{drop_more, get_or-set_same, get_or-set_other}
use Rattle.std.proofs.lemmas.List.Folds.{list_any_more}
use Rattle.rv_line.specs.Emitted.{target_of, has_target, is_labelled, places_from}
use Rattle.rv_line.specs.Fits.{FitLines}
use Rattle.rv_line.specs.Labels.{TargetsWithin}
use Rattle.rv_line.specs.declared.line.Line.{Line}
use Rattle.rv_line.specs.declared.line.Line.TheVariants.{Branch as BranchLine, Jal}

-- the targets of instructions that fit are instructions or the end
pub targets_within : (count at : ℕ) (lines : List Line) → FitLines count at lines → TargetsWithin count lines
targets_within count at [] fit = tt
targets_within count at (BranchLine code left right target ∷ lines) fit = (fit.0.target.exists, targets_within count (at + 1) lines fit.1)
targets_within count at (Jal to target ∷ lines) fit = (fit.0.target.exists, targets_within count (at + 1) lines fit.1)
targets_within count at (other ∷ lines) fit = (tt, targets_within count (at + 1) lines fit.1)

-- one of those targets
target_within : (count : ℕ) (lines : List Line) (i : ℕ) (d : Line) → TargetsWithin count lines → i < length lines → IfSome (target_of (get_or lines i d)) (λ target. target ≤ count)
target_within count [] i d within below = absurd (omega arith)
target_within count (line ∷ lines) zero d within below = within.0
target_within count (line ∷ lines) (suc i) d within below = target_within count lines i d within.1 (omega arith)

-- the same of a target that was looked up
pub found_within : (count : ℕ) (lines : List Line) (i : ℕ) (d : Line) (found : Option ℕ) (target : ℕ) → TargetsWithin count lines → i < length lines → found ≡ target_of (get_or lines i d) → found ≡ Some target → target ≤ count
found_within count lines i d found target within below looked is =
    rw (sym looked ∙ is) at (target_within count lines i d within below)

-- one more instruction is looked at, which has a target
pub labelled_more : (lines : List Line) (i : ℕ) (d : Line) (labelled : List Bool) (found : Option ℕ) (target number : ℕ) → i < length lines → found ≡ target_of (get_or lines i d) → found ≡ Some target → number < length labelled → get_or labelled number false ≡ is_labelled (take i lines) number → get_or (set labelled target true) number false ≡ is_labelled (take (i + 1) lines) number
labelled_more lines i d labelled found target number below looked is within before =
    rw (list_any_more (has_target number) lines i d below, sym looked ∙ is) (
    elim (cases_eq target number) [
      | inl same ↦ rw same (
          get_or-set_same labelled number true false within
          ∙ sym (ap (λ b. list_any (has_target number) (take i lines) || b) (eq-eqb number number refl) ∙ or-true _)
          )
      | inr other ↦
          get_or-set_other labelled target number true false (λ e. other (sym e))
          ∙ before ∙ sym (ap (λ b. list_any (has_target number) (take i lines) || b) (ne_eqb target number other) ∙ or-false _)
    ]
    )

-- one more instruction is looked at, which has none
pub labelled_same : (lines : List Line) (i : ℕ) (d : Line) (labelled : List Bool) (found : Option ℕ) (number : ℕ) → i < length lines → found ≡ target_of (get_or lines i d) → found ≡ None → get_or labelled number false ≡ is_labelled (take i lines) number → get_or labelled number false ≡ is_labelled (take (i + 1) lines) number
labelled_same lines i d labelled found number below looked is before =
    rw (list_any_more (has_target number) lines i d below, sym looked ∙ is) (before ∙ sym (or-false _))

-- what is done, and what is left, one instruction on
pub places_more : (labelled : ℕ → Bool) (lines : List Line) (at next place : ℕ) (d : Line) (places whole : List ℕ) → at < length lines → place ≡ next + (if labelled at then 1 else 0) → places ++ places_from labelled next at (drop at lines) ≡ whole → places ++ place ∷ [] ++ places_from labelled (place + 1) (at + 1) (drop (at + 1) lines) ≡ whole
places_more labelled lines at next place d places whole below is before =
    append_assoc places (place ∷ []) (places_from labelled (place + 1) (at + 1) (drop (at + 1) lines))
    ∙ rw is (rw (drop_more lines at d below) at before)

pub length-places_from : (labelled : ℕ → Bool) (next at : ℕ) (lines : List Line) → length (places_from labelled next at lines) ≡ length lines
length-places_from labelled next at [] = refl
length-places_from labelled next at (line ∷ lines) =
    ap suc (length-places_from labelled (next + (if labelled at then 1 else 0) + 1) (at + 1) lines)

-- a label takes a place
pub place_labelled : (labelled : Bool) (place : ℕ) → labelled ≡ true → place + 1 ≡ place + (if labelled then 1 else 0)
place_labelled labelled place is = rw is refl

pub place_unlabelled : (labelled : Bool) (place : ℕ) → labelled ≡ false → place ≡ place + (if labelled then 1 else 0)
place_unlabelled labelled place is = rw is (sym (add-zero place))

-- Labels stand for what they are defined as, and targets in reach are those without a cause.
use Rattle.std.proofs.Common.{◌≡◌, ℕ, suc, zero, ◌+◌, ◌*◌, ◌<◌, ◌≤◌, List, [], ◌∷◌, length, get_or, refl, sym, ap, ◌∙◌, arith}
use Rattle.std.specs.Prelude.{Bool, true, false, ◌≢◌, nat_le, cond, Contains, AllPairs}
use Rattle.std.specs.List.{AllByRecursion, AllZip, find}
use Rattle.std.specs.Option.{option_map, unwrap_or}
use Rattle.std.specs.declared.option.Option.{Option}
use Rattle.std.specs.declared.option.Option.TheVariants.{None, Some}
use Rattle.std.proofs.lemmas.Bool.{and_parts, false_from_ne_true, leb-true, le-leb}
use Rattle.std.proofs.lemmas.List.{length-map}
use Rattle.std.proofs.lemmas.List.Elements.{All-contains, All-from_recursion}
use Rattle.rv_line.specs.Fits.{FitsLine, FitLines, IsInReach}
use Rattle.rv_line.specs.Instructions.{SpellsLine}
use Rattle.rv_line.specs.declared.line.Line.{Line}
use Rattle.rv_reader.specs.Bodies.{names_of}
use Rattle.rv_reader.specs.BodyLines.{Draft}
use Rattle.rv_reader.specs.BodyLines.Draft.{Whole, ToBranch, ToJump}
use Rattle.rv_reader.specs.Cuts.{same}
use Rattle.rv_reader.specs.Refusals.{Refusal, cause_unless, reach_cause, refused_or, settled, stands_for, target_cause, targets_refusal}
use Rattle.rv_reader.proofs.CutLemmas.{same_true, same_itself}
use Rattle.rv_reader.proofs.DraftLemmas.{IsDraft}
use Rattle.rv_reader.proofs.InstructionLemmas.{Aims}
use Rattle.rv_reader.proofs.InstructionLemmas.Aims.{whole, branch, jump}
use Rattle.rv_reader.proofs.OperandLemmas.{some_same, none_not_some}

name_at : (labels : List (List ℕ × ℕ)) (k : ℕ) (label : List ℕ × ℕ) → get_or (names_of labels) k label.0 ≡ (get_or labels k label).0
name_at [] k label = refl
name_at (first ∷ labels) zero label = refl
name_at (first ∷ labels) (suc k) label = name_at labels k label

stands_from : (labels : List (List ℕ × ℕ)) (name : List ℕ) (target k : ℕ) → AllPairs (λ one other. one ≢ other) (names_of labels) → k < length labels → get_or labels k (name, target) ≡ (name, target) → stands_for labels name ≡ Some target
stands_from [] name target k differ below is = absurd (omega arith)
stands_from (label ∷ labels) name target zero differ below is =
    let named : label.0 ≡ name = ap (λ l. l.0) is in
    let here : same name label.0 ≡ true = ap (same name) named ∙ same_itself name in
    rw here (ap (λ l. Some l.1) is)
stands_from (label ∷ labels) name target (suc k) differ below is =
    let later : get_or (names_of labels) k name ≡ name = name_at labels k (name, target) ∙ ap (λ l. l.0) is in
    let long = length-map labels (λ l. l.0) in
    let other : label.0 ≢ name = rw later at (differ 0 (suc k) name (omega arith) (omega arith)) in
    let not_here : same name label.0 ≡ false = false_from_ne_true (same name label.0) (λ h. other (sym (same_true name label.0 h))) in
    rw not_here (stands_from labels name target k (λ i j d before within. differ (suc i) (suc j) d (omega arith) (omega arith)) (omega arith) is)

-- a label stands for what it is defined as
pub stands_is : (labels : List (List ℕ × ℕ)) (name : List ℕ) (target : ℕ) → AllPairs (λ one other. one ≢ other) (names_of labels) → Contains labels (name, target) → stands_for labels name ≡ Some target
stands_is labels name target differ found = stands_from labels name target found.0 differ found.1 found.2

pub stands_back : (labels : List (List ℕ × ℕ)) (name : List ℕ) (target : ℕ) → stands_for labels name ≡ Some target → Contains labels (name, target)
stands_back [] name target found = absurd (none_not_some found)
stands_back (label ∷ labels) name target found = by_test (stands_back labels name target) (same name label.0) refl found
  where
    pair : (l : List ℕ × ℕ) → l.0 ≡ name → l.1 ≡ target → l ≡ (name, target)
    pair l e f = rw (sym e, sym f) refl

    by_test : (stands_for labels name ≡ Some target → Contains labels (name, target)) → (b : Bool) → same name label.0 ≡ b → option_map (λ l. l.1) (cond b (Some label) (find (λ l. same name l.0) labels)) ≡ Some target → Contains (label ∷ labels) (name, target)
    by_test others true is here = (0, omega arith, pair label (sym (same_true name label.0 is)) (some_same here))
    by_test others false is later = let at = others later in (suc at.0, omega (arith, at.1), at.2)

pub refused_back : (place : ℕ) (cause : Option ℕ) (other : Refusal) → refused_or place cause other ≡ None → (cause ≡ None) × (other ≡ None)
refused_back place None other h = (refl, h)
refused_back place (Some cause) other h = absurd (none_not_some (sym h))

pub unless_none : (holds : Bool) (cause : ℕ) → cause_unless holds cause ≡ None → holds ≡ true
unless_none true cause h = refl
unless_none false cause h = absurd (none_not_some (sym h))

reach_none : (low high count at target : ℕ) → IsInReach low high count at target → reach_cause low high at (Some target) ≡ None
reach_none low high count at target is = rw (le-leb (4 * at) (4 * target + low) is.back, le-leb (4 * target) (4 * at + high) is.ahead) refl

none_reach : (low high count at target : ℕ) → target ≤ count → reach_cause low high at (Some target) ≡ None → IsInReach low high count at target
none_reach low high count at target exists h =
    let parts = and_parts (nat_le (4 * at) (4 * target + low)) (nat_le (4 * target) (4 * at + high)) (unless_none _ 11 h) in
    record { exists = exists; back = leb-true (4 * at) (4 * target + low) parts.0; ahead = leb-true (4 * target) (4 * at + high) parts.1 }

-- an instruction with a target in reach has no cause
pub aims_none : (labels : List (List ℕ × ℕ)) (count at : ℕ) {draft : Draft} {line : Line} → AllPairs (λ one other. one ≢ other) (names_of labels) → Aims labels draft line → FitsLine count at line → target_cause labels at draft ≡ None
aims_none labels count at differ (whole line) fits = refl
aims_none labels count at differ (branch code left right target label found) fits =
    ap (reach_cause 4096 4094 at) (stands_is labels label target differ found) ∙ reach_none 4096 4094 count at target fits.target
aims_none labels count at differ (jump to target label found) fits =
    ap (reach_cause 1048576 1048574 at) (stands_is labels label target differ found) ∙ reach_none 1048576 1048574 count at target fits.target

pub aimed_none : (labels : List (List ℕ × ℕ)) (count at : ℕ) (drafts : List Draft) (lines : List Line) (places : List ℕ) → AllPairs (λ one other. one ≢ other) (names_of labels) → AllZip (Aims labels) drafts lines → FitLines count at lines → targets_refusal labels at drafts places ≡ None
aimed_none labels count at [] lines places differ aims fit = refl
aimed_none labels count at (draft ∷ drafts) lines [] differ aims fit = refl
aimed_none labels count at (draft ∷ drafts) [] (place ∷ places) differ aims fit = absurd aims
aimed_none labels count at (draft ∷ drafts) (line ∷ lines) (place ∷ places) differ aims fit =
    ap (λ cause. refused_or place cause (targets_refusal labels (at + 1) drafts places)) (aims_none labels count at differ aims.0 fit.0)
    ∙ aimed_none labels count (at + 1) drafts lines places differ aims.1 fit.1

-- what an instruction without a cause spells, with its target
pub record IsSettled (labels : List (List ℕ × ℕ)) (count at : ℕ) (core : List ℕ) (line : Line) : Type 0 where
  pub spells : SpellsLine labels core line
  pub fits : FitsLine count at line

within : (labels : List (List ℕ × ℕ)) (count : ℕ) (name : List ℕ) (target : ℕ) → AllByRecursion (λ label. label.1 ≤ count) labels → Contains labels (name, target) → target ≤ count
within labels count name target are found = All-contains (λ label. label.1 ≤ count) labels (name, target) (All-from_recursion (λ label. label.1 ≤ count) labels are) found

-- the target for which a label stands
record IsAimed (low high : ℕ) (labels : List (List ℕ × ℕ)) (count at : ℕ) (name : List ℕ) (target : ℕ) : Type 0 where
  defined : Contains labels (name, target)
  reached : IsInReach low high count at target

aimed_back : (low high : ℕ) (labels : List (List ℕ × ℕ)) (count at : ℕ) (name : List ℕ) → AllByRecursion (λ label. label.1 ≤ count) labels → reach_cause low high at (stands_for labels name) ≡ None → IsAimed low high labels count at name (unwrap_or (stands_for labels name) 0)
aimed_back low high labels count at name are none = by_target (stands_for labels name) refl none
  where
    by_target : (target : Option ℕ) → stands_for labels name ≡ target → reach_cause low high at target ≡ None → IsAimed low high labels count at name (unwrap_or target 0)
    by_target None stands h = absurd (none_not_some (sym h))
    by_target (Some target) stands h =
        let found = stands_back labels name target stands in
        record { defined = found; reached = none_reach low high count at target (within labels count name target are found) h }

pub settled_back : (labels : List (List ℕ × ℕ)) (count at : ℕ) (core : List ℕ) (draft : Draft) → AllByRecursion (λ label. label.1 ≤ count) labels → IsDraft core draft → target_cause labels at draft ≡ None → IsSettled labels count at core (settled labels draft)
settled_back labels count at core (Whole line) are is none = record { spells = is.spells labels; fits = is.fits count at }
settled_back labels count at core (ToBranch code left right label) are is none =
    let aimed = aimed_back 4096 4094 labels count at label are none in
    record {
      spells = record { name = label; defined = aimed.defined; takes = is.takes };
      fits = record { left = is.left_small; right = is.right_small; target = aimed.reached };
    }
settled_back labels count at core (ToJump to label) are is none =
    let aimed = aimed_back 1048576 1048574 labels count at label are none in
    record {
      spells = record { name = label; defined = aimed.defined; takes = is.takes };
      fits = record { to = is.to_small; target = aimed.reached };
    }

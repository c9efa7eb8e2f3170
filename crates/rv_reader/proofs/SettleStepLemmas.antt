-- Instructions with their targets, one after the other.
use Rattle.std.proofs.Common.{◌≡◌, ℕ, zero, suc, ◌+◌, ◌<◌, List, [], ◌∷◌, ◌++◌, length, drop, take, get_or, drop-cons, refl, ap, ◌∙◌, arith}
use Rattle.std.specs.Prelude.{map}
use Rattle.std.proofs.lemmas.List.{map-append, take_more}
use Rattle.rv_reader.specs.Refusals.{refused_or, settled, target_cause, targets_refusal}
use Rattle.rv_reader.specs.Views.{drafted}
use Rattle.rv_reader.specs.declared.draft.Draft.{Draft as ReadDraft}

-- what is left, by the first of it
pub refusal_step : (labels : List (List ℕ × ℕ)) (drafts : List ReadDraft) (places : List ℕ) (at : ℕ) (d : ReadDraft) → at < length drafts → at < length places
    → targets_refusal labels at (map drafted (drop at drafts)) (drop at places) ≡ refused_or (get_or places at 0) (target_cause labels at (drafted (get_or drafts at d))) (targets_refusal labels (at + 1) (map drafted (drop (at + 1) drafts)) (drop (at + 1) places))
refusal_step labels drafts places at d one other =
    let e : suc at ≡ at + 1 = omega arith in
    ap (λ l. targets_refusal labels at (map drafted l) (drop at places)) (drop-cons drafts at d one)
    ∙ ap (λ l. targets_refusal labels at (map drafted (get_or drafts at d ∷ drop (suc at) drafts)) l) (drop-cons places at 0 other)
    ∙ ap (λ k. refused_or (get_or places at 0) (target_cause labels at (drafted (get_or drafts at d))) (targets_refusal labels (at + 1) (map drafted (drop k drafts)) (drop k places))) e

-- one instruction more
pub settled_step : (labels : List (List ℕ × ℕ)) (drafts : List ReadDraft) (at : ℕ) (d : ReadDraft) → at < length drafts
    → map (settled labels) (map drafted (take (at + 1) drafts)) ≡ map (settled labels) (map drafted (take at drafts)) ++ settled labels (drafted (get_or drafts at d)) ∷ []
settled_step labels drafts at d within =
    ap (λ l. map (settled labels) (map drafted l)) (take_more drafts at d within)
    ∙ ap (map (settled labels)) (map-append drafted (take at drafts) (get_or drafts at d ∷ []))
    ∙ map-append (settled labels) (map drafted (take at drafts)) (drafted (get_or drafts at d) ∷ [])

-- an item that is there, whatever stands for one that is not
pub item_same : (one other : List ReadDraft) (at : ℕ) (d e : ReadDraft) → one ≡ other → at < length other → get_or one at d ≡ get_or other at e
item_same one other at d e is within = ap (λ l. get_or l at d) is ∙ default other at within
  where
    default : (items : List ReadDraft) (k : ℕ) → k < length items → get_or items k d ≡ get_or items k e
    default [] k h = absurd (omega arith)
    default (item ∷ items) zero h = refl
    default (item ∷ items) (suc k) h = default items k (omega (arith, h))

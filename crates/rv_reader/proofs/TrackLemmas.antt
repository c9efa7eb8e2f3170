-- What is kept beside the areas so far, with an area more.
use Rattle.std.proofs.Common.{◌≡◌, ℕ, ◌+◌, ◌≤◌, List, [], ◌∷◌, ◌++◌, length, refl, sym, ap, ◌∙◌, arith}
use Rattle.std.specs.Prelude.{true}
use Rattle.std.specs.List.{last_or}
use Rattle.std.specs.declared.option.Option.{Option}
use Rattle.std.specs.declared.option.Option.TheVariants.{None, Some}
use Rattle.std.proofs.lemmas.Bool.{eqb-true}
use Rattle.std.proofs.lemmas.List.{append-nil, length-append}
use Rattle.shapes_core.specs.Limits.{greatest_extent}
use Rattle.shapes_core.specs.Shape.{total}
use Rattle.shapes_core.specs.declared.area.Area.{Area}
use Rattle.shapes_core.specs.declared.area.AreaKind.{AreaKind}
use Rattle.shapes_core.specs.declared.area.AreaKind.TheVariants.{In, Out, Scan}
use Rattle.rv_line.specs.Fits.{area_names}
use Rattle.rv_reader.specs.AreaRows.{kinds, may_follow, words_of}
use Rattle.rv_reader.specs.Kinds.{next_number}
use Rattle.rv_reader.specs.Tracked.{IsTracked, name_in, next_behind}
use Rattle.rv_reader.proofs.AreaLemmas.{last_push, names_push, words_push}

-- where nothing is added
pub no_name : (names : List (List ℕ)) → names ++ [] ≡ names
no_name names = append-nil names

follow_next : (last : Option AreaKind) (kind : AreaKind) (next : ℕ) → next ≡ next_number last → may_follow last kind ≡ true → next_behind next kind ≡ next_number (Some kind)
follow_next last (In name) next is follows = refl
follow_next last (Out name) next is follows = refl
follow_next None (Scan number) next is follows = let e = eqb-true number 0 follows in omega (arith, e, is)
follow_next (Some (In name)) (Scan number) next is follows = let e = eqb-true number 0 follows in omega (arith, e, is)
follow_next (Some (Out name)) (Scan number) next is follows = let e = eqb-true number 0 follows in omega (arith, e, is)
follow_next (Some (Scan before)) (Scan number) next is follows = let e = eqb-true number (before + 1) follows in omega (arith, e, is)

behind_small : (next : ℕ) (kind : AreaKind) → next_behind next kind ≤ next + 1
behind_small next (In name) = omega arith
behind_small next (Out name) = omega arith
behind_small next (Scan number) = omega arith

-- with an area more
pub tracked_step : (areas new_areas : List Area) (known new_known : List (List ℕ)) (words new_words next new_next : ℕ) (area : Area) → IsTracked areas known words next → may_follow (last_or None (kinds areas)) area.kind ≡ true → new_areas ≡ areas ++ area ∷ []
    → new_known ≡ known ++ name_in area.kind → new_words ≡ words + total area.shape → total area.shape ≤ greatest_extent → new_next ≡ next_behind next area.kind → IsTracked new_areas new_known new_words new_next
tracked_step areas new_areas known new_known words new_words next new_next area tracked follows a k w small n =
    let long = ap length a ∙ length-append areas (area ∷ []) in
    let behind = behind_small next area.kind in
    let next_small = tracked.next_small in
    let words_small = tracked.words_small in
    record {
      names_are = k ∙ ap (λ l. l ++ name_in area.kind) tracked.names_are ∙ sym (names_push areas area) ∙ ap (λ l. area_names (kinds l)) (sym a);
      words_are = w ∙ ap (λ v. v + total area.shape) tracked.words_are ∙ sym (words_push areas area) ∙ ap words_of (sym a);
      next_is = n ∙ follow_next (last_or None (kinds areas)) area.kind next tracked.next_is follows ∙ ap next_number (sym (last_push None areas area)) ∙ ap (λ l. next_number (last_or None (kinds l))) (sym a);
      next_small = omega (arith, long, behind, next_small, n);
      words_small = omega (arith, long, words_small, small, w);
    }

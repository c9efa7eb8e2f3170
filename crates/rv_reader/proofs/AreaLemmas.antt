-- Rows that spell areas are not refused, and rows that are not refused spell the areas that are read of them.
use Rattle.std.proofs.Common.{◌≡◌, ℕ, ◌+◌, List, [], ◌∷◌, ◌++◌, refl, sym, ap, subst, ◌∙◌, append_assoc}
use Rattle.std.specs.Prelude.{Bool, true, false, not, ◌==◌, cond}
use Rattle.std.specs.List.{AllByRecursion, last_or}
use Rattle.std.specs.declared.option.Option.{Option}
use Rattle.std.specs.declared.option.Option.TheVariants.{None, Some}
use Rattle.std.specs.declared.result.Result.{Result}
use Rattle.std.specs.declared.result.Result.TheVariants.{Ok, Err}
use Rattle.std.proofs.lemmas.Bool.{eq-eqb, eqb-true}
use Rattle.std.proofs.lemmas.List.{append-nil}
use Rattle.std.proofs.lemmas.List.Sums.{sum_by_push}
use Rattle.shapes_core.specs.Shape.{is_shape, total}
use Rattle.shapes_core.specs.declared.area.Area.{Area}
use Rattle.shapes_core.specs.declared.area.AreaKind.{AreaKind}
use Rattle.shapes_core.specs.declared.area.AreaKind.TheVariants.{In, Out, Scan}
use Rattle.rv_line.specs.Fits.{AreInOrder, AreOuts, ArePacked, AreScans, IsArea, area_names}
use Rattle.rv_line.specs.Rows.{SpellRows}
use Rattle.rv_reader.specs.AreaRows.{area_of, checked, is_repeated, kinds, may_follow, row_of, words_of}
use Rattle.rv_reader.specs.Tracked.{name_in}
use Rattle.rv_reader.specs.Refusals.{area_in, areas_of, cause_in, refused_or, rows_refusal}
use Rattle.rv_reader.proofs.BodyLemmas.{AreApart, apart_push, not_before}
use Rattle.rv_reader.proofs.CutLemmas.{true_not_false}
use Rattle.rv_reader.proofs.DraftLemmas.{ok_same, err_not_ok}
use Rattle.rv_reader.proofs.OperandLemmas.{none_not_some}
use Rattle.rv_reader.proofs.RowLemmas.{area_is, area_back}

-- each kind may stand behind the one before it
abbrev pub AllFollow : Option AreaKind → List AreaKind → Type 0
AllFollow last [] = Unit {0}
AllFollow last (kind ∷ others) = (may_follow last kind ≡ true) × AllFollow (Some kind) others

scans_follow : (n : ℕ) (others : List AreaKind) → AreScans (n + 1) others → AllFollow (Some (Scan n)) others
scans_follow n [] are = tt
scans_follow n (In name ∷ others) are = absurd are
scans_follow n (Out name ∷ others) are = absurd are
scans_follow n (Scan found ∷ others) are = (eq-eqb found (n + 1) are.0, scans_follow found others (subst (λ k. AreScans (k + 1) others) (sym are.0) are.1))

-- what may follow where no scan stands before
first_scan : (number : ℕ) (others : List AreaKind) → AreScans 0 (Scan number ∷ others) → ((number == 0) ≡ true) × AllFollow (Some (Scan number)) others
first_scan number others are = (eq-eqb number 0 are.0, scans_follow number others (subst (λ k. AreScans (k + 1) others) (sym are.0) are.1))

outs_follow : (last : List ℕ) (others : List AreaKind) → AreOuts others → AllFollow (Some (Out last)) others
outs_follow last [] are = tt
outs_follow last (In name ∷ others) are = absurd are
outs_follow last (Out name ∷ others) are = (refl, outs_follow name others are)
outs_follow last (Scan number ∷ others) are = first_scan number others are

ins_follow : (last : List ℕ) (others : List AreaKind) → AreInOrder others → AllFollow (Some (In last)) others
ins_follow last [] are = tt
ins_follow last (In name ∷ others) are = (refl, ins_follow name others are)
ins_follow last (Out name ∷ others) are = (refl, outs_follow name others are)
ins_follow last (Scan number ∷ others) are = first_scan number others are

pub order_follows : (others : List AreaKind) → AreInOrder others → AllFollow None others
order_follows [] are = tt
order_follows (In name ∷ others) are = (refl, ins_follow name others are)
order_follows (Out name ∷ others) are = (refl, outs_follow name others are)
order_follows (Scan number ∷ others) are = first_scan number others are

follow_scans : (n : ℕ) (others : List AreaKind) → AllFollow (Some (Scan n)) others → AreScans (n + 1) others
follow_scans n [] are = tt
follow_scans n (In name ∷ others) are = absurd (true_not_false (sym are.0))
follow_scans n (Out name ∷ others) are = absurd (true_not_false (sym are.0))
follow_scans n (Scan found ∷ others) are =
    let is = eqb-true found (n + 1) are.0 in
    (is, subst (λ k. AreScans (k + 1) others) is (follow_scans found others are.1))

scan_first : (number : ℕ) (others : List AreaKind) → (number == 0) ≡ true → AllFollow (Some (Scan number)) others → AreScans 0 (Scan number ∷ others)
scan_first number others first are =
    let is = eqb-true number 0 first in
    (is, subst (λ k. AreScans (k + 1) others) is (follow_scans number others are))

follow_outs : (last : List ℕ) (others : List AreaKind) → AllFollow (Some (Out last)) others → AreOuts others
follow_outs last [] are = tt
follow_outs last (In name ∷ others) are = absurd (true_not_false (sym are.0))
follow_outs last (Out name ∷ others) are = follow_outs name others are.1
follow_outs last (Scan number ∷ others) are = scan_first number others are.0 are.1

follow_ins : (last : List ℕ) (others : List AreaKind) → AllFollow (Some (In last)) others → AreInOrder others
follow_ins last [] are = tt
follow_ins last (In name ∷ others) are = follow_ins name others are.1
follow_ins last (Out name ∷ others) are = follow_outs name others are.1
follow_ins last (Scan number ∷ others) are = scan_first number others are.0 are.1

pub follows_order : (others : List AreaKind) → AllFollow None others → AreInOrder others
follows_order [] are = tt
follows_order (In name ∷ others) are = follow_ins name others are.1
follows_order (Out name ∷ others) are = follow_outs name others are.1
follows_order (Scan number ∷ others) are = scan_first number others are.0 are.1

names_cons : (kind : AreaKind) (others : List AreaKind) → area_names (kind ∷ others) ≡ name_in kind ++ area_names others
names_cons (In name) others = refl
names_cons (Out name) others = refl
names_cons (Scan number) others = refl

pub names_push : (before : List Area) (area : Area) → area_names (kinds (before ++ area ∷ [])) ≡ area_names (kinds before) ++ name_in area.kind
names_push [] area = names_cons area.kind [] ∙ append-nil (name_in area.kind)
names_push (one ∷ before) area =
    names_cons one.kind (kinds (before ++ area ∷ []))
    ∙ ap (λ t. name_in one.kind ++ t) (names_push before area)
    ∙ sym (append_assoc (name_in one.kind) (area_names (kinds before)) (name_in area.kind))
    ∙ ap (λ t. t ++ name_in area.kind) (sym (names_cons one.kind (kinds before)))

pub last_push : (first : Option AreaKind) (before : List Area) (area : Area) → last_or first (kinds (before ++ area ∷ [])) ≡ Some area.kind
last_push first [] area = refl
last_push first (one ∷ before) area = last_push (Some one.kind) before area

pub words_push : (before : List Area) (area : Area) → words_of (before ++ area ∷ []) ≡ words_of before + total area.shape
words_push before area = sum_by_push (λ one. total one.shape) before area

names_next : (before : List Area) (area : Area) (others : List AreaKind) → area_names (kinds before) ++ area_names (area.kind ∷ others) ≡ area_names (kinds (before ++ area ∷ [])) ++ area_names others
names_next before area others =
    ap (λ t. area_names (kinds before) ++ t) (names_cons area.kind others)
    ∙ sym (append_assoc (area_names (kinds before)) (name_in area.kind) (area_names others))
    ∙ ap (λ t. t ++ area_names others) (sym (names_push before area))

not_repeated : (before : List (List ℕ)) (kind : AreaKind) (others : List AreaKind) → AreApart (before ++ area_names (kind ∷ others)) → is_repeated before kind ≡ false
not_repeated before (In name) others apart = not_before before name (area_names others) apart
not_repeated before (Out name) others apart = not_before before name (area_names others) apart
not_repeated before (Scan number) others apart = refl

repeated_apart : (before : List (List ℕ)) (kind : AreaKind) → AreApart before → is_repeated before kind ≡ false → AreApart (before ++ name_in kind)
repeated_apart before (In name) apart new = apart_push before name apart new
repeated_apart before (Out name) apart new = apart_push before name apart new
repeated_apart before (Scan number) apart new = rw (append-nil before) apart

checked_ok : (before : List Area) (area : Area) (found : Option Area) → found ≡ Some area → may_follow (last_or None (kinds before)) area.kind ≡ true → is_shape area.shape ≡ true → is_repeated (area_names (kinds before)) area.kind ≡ false → checked before found ≡ Ok area
checked_ok before area found is follows shaped new = ap (checked before) is ∙ rw (follows, shaped, new) refl

-- rows that spell areas are not refused
pub rows_read : (rows : List (List ℕ)) (spill place : ℕ) (before areas : List Area) → SpellRows rows spill areas → AllByRecursion IsArea areas → AllFollow (last_or None (kinds before)) (kinds areas) → AreApart (area_names (kinds before) ++ area_names (kinds areas)) → ArePacked (words_of before) areas → rows_refusal spill place before rows ≡ None
rows_read [] spill place before areas spells each follow apart packed = refl
rows_read (row ∷ rows) spill place before [] spells each follow apart packed = absurd spells
rows_read (row ∷ rows) spill place before (area ∷ areas) spells each follow apart packed =
    let found : area_of spill (words_of before) row ≡ Some area = ap (λ start. area_of spill start row) (sym packed.0) ∙ area_is row spill area each.0 spells.0 in
    let ok : row_of spill before row ≡ Ok area =
    checked_ok before area (area_of spill (words_of before) row) found follow.0 each.0.shaped (not_repeated (area_names (kinds before)) area.kind (kinds areas) apart) in
    let next_follow : AllFollow (last_or None (kinds (before ++ area ∷ []))) (kinds areas) = subst (λ last. AllFollow last (kinds areas)) (sym (last_push None before area)) follow.1 in
    let next_packed : ArePacked (words_of (before ++ area ∷ [])) areas = subst (λ start. ArePacked start areas) (sym (words_push before area)) packed.1 in
    ap (λ read. refused_or place (cause_in read) (rows_refusal spill (place + 1) (before ++ area_in read) rows)) ok
    ∙ rows_read rows spill (place + 1) (before ++ area ∷ []) areas spells.1 each.1 next_follow (subst AreApart (names_next before area (kinds areas)) apart) next_packed

-- what is checked of an area
pub record IsChecked (before : List Area) (found : Option Area) (area : Area) : Type 0 where
  pub is : found ≡ Some area
  pub follows : may_follow (last_or None (kinds before)) area.kind ≡ true
  pub shaped : is_shape area.shape ≡ true
  pub new : is_repeated (area_names (kinds before)) area.kind ≡ false

pub checked_back : (before : List Area) (found : Option Area) (area : Area) → checked before found ≡ Ok area → IsChecked before found area
checked_back before None area h = absurd (err_not_ok h)
checked_back before (Some one) area h = by_tests (may_follow (last_or None (kinds before)) one.kind) (is_shape one.shape) (is_repeated (area_names (kinds before)) one.kind) refl refl refl h
  where
    by_tests : (follows shaped known : Bool) → may_follow (last_or None (kinds before)) one.kind ≡ follows → is_shape one.shape ≡ shaped → is_repeated (area_names (kinds before)) one.kind ≡ known
        → cond {A = Result Area ℕ} (not follows) (Err 4) (cond (not shaped) (Err 12) (cond known (Err 5) (Ok one))) ≡ Ok area → IsChecked before (Some one) area
    by_tests false shaped known a b c e = absurd (err_not_ok e)
    by_tests true false known a b c e = absurd (err_not_ok e)
    by_tests true true true a b c e = absurd (err_not_ok e)
    by_tests true true false a b c e = subst (IsChecked before (Some one)) (ok_same e) (record { is = refl; follows = a; shaped = b; new = c })

-- what rows spell that are not refused
pub record AreRows (spill : ℕ) (before : List Area) (rows : List (List ℕ)) (areas : List Area) : Type 0 where
  pub spell : SpellRows rows spill areas
  pub each : AllByRecursion IsArea areas
  pub follow : AllFollow (last_or None (kinds before)) (kinds areas)
  pub apart : AreApart (area_names (kinds before) ++ area_names (kinds areas))
  pub packed : ArePacked (words_of before) areas

pub rows_back : (rows : List (List ℕ)) (spill place : ℕ) (before : List Area) → AreApart (area_names (kinds before)) → rows_refusal spill place before rows ≡ None → AreRows spill before rows (areas_of spill before rows)
rows_back [] spill place before apart none = record { spell = tt; each = tt; follow = tt; apart = rw (append-nil (area_names (kinds before))) apart; packed = tt }
rows_back (row ∷ rows) spill place before apart none = by_found (λ next. rows_back rows spill (place + 1) next) (row_of spill before row) refl none
  where
    by_found : ((next : List Area) → AreApart (area_names (kinds next)) → rows_refusal spill (place + 1) next rows ≡ None → AreRows spill next rows (areas_of spill next rows)) → (found : Result Area ℕ) → row_of spill before row ≡ found
        → refused_or place (cause_in found) (rows_refusal spill (place + 1) (before ++ area_in found) rows) ≡ None → AreRows spill before (row ∷ rows) (area_in found ++ areas_of spill (before ++ area_in found) rows)
    by_found others (Err cause) is h = absurd (none_not_some (sym h))
    by_found others (Ok area) is h =
        let found = checked_back before (area_of spill (words_of before) row) area is in
        let read = area_back row spill (words_of before) area found.is in
        let next : AreApart (area_names (kinds (before ++ area ∷ []))) = subst AreApart (sym (names_push before area)) (repeated_apart (area_names (kinds before)) area.kind apart found.new) in
        let rest = others (before ++ area ∷ []) next h in
        record {
          spell = (rw (sym read.starts) at read.spells, rest.spell);
          each = (record { named = read.named; shaped = found.shaped }, rest.each);
          follow = (found.follows, subst (λ last. AllFollow last (kinds (areas_of spill (before ++ area ∷ []) rows))) (last_push None before area) rest.follow);
          apart = subst AreApart (sym (names_next before area (kinds (areas_of spill (before ++ area ∷ []) rows)))) rest.apart;
          packed = (read.starts, subst (λ start. ArePacked start (areas_of spill (before ++ area ∷ []) rows)) (words_push before area) rest.packed);
        }

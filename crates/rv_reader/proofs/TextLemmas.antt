-- A text that spells parts is not refused, and a text that is not refused spells its parts.
use Rattle.std.proofs.Common.{◌≡◌, ℕ, ◌+◌, ◌-◌, ◌≤◌, ◌^◌, List, [], ◌∷◌, ◌++◌, length, drop, take, refl, sym, ap, subst, ◌∙◌, arith}
use Rattle.std.specs.Prelude.{Bool, true, false, not, MatchOption, nat_eq, nat_le, cond, codes, map}
use Rattle.std.specs.List.{list_all, starts_with}
use Rattle.std.specs.Option.{option_or, unwrap_or}
use Rattle.std.specs.Str.Lines.{lines}
use Rattle.std.specs.declared.option.Option.{Option}
use Rattle.std.specs.declared.option.Option.TheVariants.{None, Some}
use Rattle.std.proofs.lemmas.Bool.{leb-true, le-leb, not-true}
use Rattle.std.proofs.Math.Seq.{drop-append_seam, take-append_seam}
use Rattle.std.proofs.lemmas.List.{length-map, take-append-drop}
use Rattle.shapes_core.specs.Limits.{most_words}
use Rattle.rv_line.specs.Fits.{area_names}
use Rattle.rv_line.specs.Numbers.{IsNumber}
use Rattle.rv_line.specs.Parts.{Parts}
use Rattle.rv_line.specs.Rows.{is_row, SpellRows, SpellsRow, SpellsKind}
use Rattle.rv_line.specs.Spells.{EndsRows, Spells}
use Rattle.shapes_core.specs.declared.area.Area.{Area}
use Rattle.shapes_core.specs.declared.area.AreaKind.{AreaKind}
use Rattle.shapes_core.specs.declared.area.AreaKind.TheVariants.{In, Out, Scan}
use Rattle.rv_reader.specs.Bodies.{names_of}
use Rattle.rv_reader.specs.AreaRows.{kinds}
use Rattle.rv_reader.specs.Cuts.{same}
use Rattle.rv_reader.specs.Operands.{number_of}
use Rattle.rv_reader.specs.Refusals.{at_most, body_in, body_place, body_refusal, cause_unless, cause_without, drafts_of, header_refusal, labels_of, line_at, number_behind, places_of, refusal, refusal_of, parts_in, parts_of, refused_or, rows_in, rows_refusal, areas_of, settled, spill_of, spill_words, steps_of, targets_refusal, Refusal}
use Rattle.rv_reader.proofs.AreaLemmas.{follows_order, order_follows, rows_back, rows_read}
use Rattle.rv_reader.proofs.BodyLemmas.{AreApart, apart_from, body_back, body_read, differ_from, labels_apart, labels_named, labels_within}
use Rattle.rv_reader.proofs.CutLemmas.{begins, cut, same_true, same_itself, since-append, until-append}
use Rattle.rv_reader.proofs.OperandLemmas.{is_number_of, none_not_some, number_is, some_from}
use Rattle.rv_reader.proofs.SettleLemmas.{aimed_none, refused_back, unless_none}

-- a number behind a front
record IsBehind (front : List ℕ) (most : ℕ) (text : List ℕ) (number : ℕ) : Type 0 where
  digits : List ℕ
  spelled : text ≡ front ++ digits
  is : IsNumber digits number
  small : number ≤ most

at_most_is : (most number : ℕ) (found : Option ℕ) → found ≡ Some number → number ≤ most → at_most most found ≡ Some number
at_most_is most number found is small = ap (at_most most) is ∙ rw (le-leb number most small) refl

at_most_back : (most number : ℕ) (found : Option ℕ) → at_most most found ≡ Some number → (found ≡ Some number) × (number ≤ most)
at_most_back most number None h = absurd (none_not_some h)
at_most_back most number (Some n) h =
    let found = some_from (nat_le n most) n number h in
    (ap (λ k. Some k) found.1, subst (λ k. k ≤ most) found.1 (leb-true n most found.0))

behind_is : (front digits : List ℕ) (most number : ℕ) → IsNumber digits number → number ≤ most → number_behind front most (front ++ digits) ≡ Some number
behind_is front digits most number is small =
    let starts : starts_with nat_eq (front ++ digits) front ≡ true = ap (same front) (take-append_seam front digits) ∙ same_itself front in
    rw starts (at_most_is most number (number_of (drop (length front) (front ++ digits))) (ap number_of (drop-append_seam front digits) ∙ number_is digits number is) small)

is_behind : (front : List ℕ) (most : ℕ) (text : List ℕ) (number : ℕ) → number_behind front most text ≡ Some number → IsBehind front most text number
is_behind front most text number found = by_test (starts_with nat_eq text front) refl found
  where
    by_test : (b : Bool) → starts_with nat_eq text front ≡ b → cond b (at_most most (number_of (drop (length front) text))) None ≡ Some number → IsBehind front most text number
    by_test false is h = absurd (none_not_some h)
    by_test true is h =
        let parts = at_most_back most number (number_of (drop (length front) text)) h in
        let same_front : front ≡ take (length front) text = same_true front (take (length front) text) is in
        record {
          digits = drop (length front) text;
          spelled = sym (take-append-drop (length front) text) ∙ ap (λ t. t ++ drop (length front) text) (sym same_front);
          is = is_number_of (drop (length front) text) number parts.0;
          small = parts.1;
        }

-- where each of two refusals is none
both_none : (one two : Refusal) → option_or one two ≡ None → (one ≡ None) × (two ≡ None)
both_none None two h = (refl, h)
both_none (Some found) two h = absurd (none_not_some (sym h))

-- the first three lines are a header's
pub record IsHeader (texts : List (List ℕ)) : Type 0 where
  pub steps : List ℕ
  pub steps_value : ℕ
  pub spill : List ℕ
  pub spill_value : ℕ
  pub split : texts ≡ codes "# psi 1" ∷ (codes "# steps " ++ steps) ∷ (codes "# spill " ++ spill) ∷ drop 3 texts
  pub steps_is : IsNumber steps steps_value
  pub steps_small : steps_value ≤ 2 ^ 63 - 1
  pub steps_read : steps_of texts ≡ Some steps_value
  pub spill_is : IsNumber spill spill_value
  pub spill_small : spill_value ≤ most_words
  pub spill_read : spill_of texts ≡ Some spill_value

without_back : (cause : ℕ) (found : Option ℕ) → cause_without cause found ≡ None → (number : ℕ) × (found ≡ Some number)
without_back cause None h = absurd (none_not_some (sym h))
without_back cause (Some number) h = (number, refl)

nil_not_cons : {a : ℕ} {rest : List ℕ} → [] ≡ a ∷ rest → ⊥
nil_not_cons {a} {rest} e = absurd (cc)

three_lines : (texts : List (List ℕ)) (a b c : ℕ) (one two three : List ℕ) → line_at texts 0 ≡ a ∷ one → line_at texts 1 ≡ b ∷ two → line_at texts 2 ≡ c ∷ three → texts ≡ (a ∷ one) ∷ (b ∷ two) ∷ (c ∷ three) ∷ drop 3 texts
three_lines [] a b c one two three x y z = absurd (nil_not_cons x)
three_lines (first ∷ []) a b c one two three x y z = absurd (nil_not_cons y)
three_lines (first ∷ second ∷ []) a b c one two three x y z = absurd (nil_not_cons z)
three_lines (first ∷ second ∷ third ∷ rest) a b c one two three x y z = rw (sym x, sym y, sym z) refl

header_back : (texts : List (List ℕ)) → header_refusal texts ≡ None → IsHeader texts
header_back texts none =
    let a = refused_back 1 (cause_unless (same (line_at texts 0) (codes "# psi 1")) 1) (refused_or 2 (cause_without 2 (steps_of texts)) (refused_or 3 (cause_without 3 (spill_of texts)) None)) none in
    let b = refused_back 2 (cause_without 2 (steps_of texts)) (refused_or 3 (cause_without 3 (spill_of texts)) None) a.1 in
    let c = refused_back 3 (cause_without 3 (spill_of texts)) None b.1 in
    let first = same_true (line_at texts 0) (codes "# psi 1") (unless_none (same (line_at texts 0) (codes "# psi 1")) 1 a.0) in
    let steps_found = without_back 2 (steps_of texts) b.0 in
    let spill_found = without_back 3 (spill_of texts) c.0 in
    let second = is_behind (codes "# steps ") (2 ^ 63 - 1) (line_at texts 1) steps_found.0 steps_found.1 in
    let third = is_behind (codes "# spill ") most_words (line_at texts 2) spill_found.0 spill_found.1 in
    record {
      steps = second.digits;
      steps_value = steps_found.0;
      spill = third.digits;
      spill_value = spill_found.0;
      split = three_lines texts 35 35 35 (codes " psi 1") (codes " steps " ++ second.digits) (codes " spill " ++ third.digits) first second.spelled third.spelled;
      steps_is = second.is;
      steps_small = second.small;
      steps_read = steps_found.1;
      spill_is = third.is;
      spill_small = third.small;
      spill_read = spill_found.1;
    }

header_none : (steps spill : List ℕ) (steps_value spill_value : ℕ) (rest : List (List ℕ)) → IsNumber steps steps_value → steps_value ≤ 2 ^ 63 - 1 → IsNumber spill spill_value → spill_value ≤ most_words
    → header_refusal (codes "# psi 1" ∷ (codes "# steps " ++ steps) ∷ (codes "# spill " ++ spill) ∷ rest) ≡ None
header_none steps spill steps_value spill_value rest steps_is steps_small spill_is spill_small =
    ap (λ found. refused_or 2 (cause_without 2 found) (refused_or 3 (cause_without 3 (number_behind (codes "# spill ") most_words (codes "# spill " ++ spill))) None)) (behind_is (codes "# steps ") steps (2 ^ 63 - 1) steps_value steps_is steps_small)
    ∙ ap (λ found. refused_or 3 (cause_without 3 found) None) (behind_is (codes "# spill ") spill most_words spill_value spill_is spill_small)

-- a row begins as a row
row_begins : (row : List ℕ) (word : ℕ) (area : Area) → SpellsRow row word area → is_row row ≡ true
row_begins row word area spells = by_kind area.kind spells.kind
  where
    by_kind : (kind : AreaKind) → SpellsKind spells.front kind → is_row row ≡ true
    by_kind (In name) known = rw (spells.spelled, known) refl
    by_kind (Out name) known = rw (spells.spelled, known) refl
    by_kind (Scan number) known = rw (spells.spelled, known.1) refl

are_rows : (rows : List (List ℕ)) (spill : ℕ) (areas : List Area) → SpellRows rows spill areas → list_all (λ row. not (not (is_row row))) rows ≡ true
are_rows [] spill areas spells = refl
are_rows (row ∷ rows) spill [] spells = absurd spells
are_rows (row ∷ rows) spill (area ∷ areas) spells = rw (row_begins row (spill + area.start) area spells.0) (are_rows rows spill areas spells.1)

ends_rows : (body : List (List ℕ)) → EndsRows body → begins (λ row. not (is_row row)) body ≡ true
ends_rows [] ends = refl
ends_rows (text ∷ body) ends = rw ends refl

rows_end : (body : List (List ℕ)) → begins (λ row. not (is_row row)) body ≡ true → EndsRows body
rows_end [] first = tt
rows_end (text ∷ body) first = not-true (is_row text) first

four_none : (a b c d : Refusal) → a ≡ None → b ≡ None → c ≡ None → d ≡ None → option_or a (option_or b (option_or c d)) ≡ None
four_none a b c d e f g h = rw (e, f, g, h) refl

-- the lines of a text that spells parts
abbrev spelled_lines : (text : List ℕ) (parts : Parts) → Spells text parts → List (List ℕ)
spelled_lines text parts spells = codes "# psi 1" ∷ (codes "# steps " ++ spells.steps) ∷ (codes "# spill " ++ spells.spill) ∷ (spells.rows ++ spells.body)

none_apart : AreApart []
none_apart = apart_from [] (λ i j d below within. absurd (omega arith))

spelled_refusal : (text : List ℕ) (parts : Parts) (spells : Spells text parts) → refusal_of (spelled_lines text parts spells) ≡ None
spelled_refusal text parts spells =
    let texts = spelled_lines text parts spells in
    let steps_below = spells.steps_small in
    let are = are_rows spells.rows parts.header.spill parts.areas spells.rows_spell in
    let first = ends_rows spells.body spells.rows_end in
    let rows_is : rows_in texts ≡ spells.rows = until-append (λ row. not (is_row row)) spells.rows spells.body are first in
    let body_is : body_in texts ≡ spells.body = since-append (λ row. not (is_row row)) spells.rows spells.body are first in
    let spill_is : spill_words texts ≡ parts.header.spill =
    ap (λ found. unwrap_or found 0) (behind_is (codes "# spill ") spells.spill most_words parts.header.spill spells.spill_number spells.spill_small) in
    let place_is : body_place texts ≡ length spells.rows + 4 = ap (λ rows. length rows + 4) rows_is in
    let areas = spells.areas in
    let rows_none : rows_refusal (spill_words texts) 4 [] (rows_in texts) ≡ None =
    ap (λ spill. rows_refusal spill 4 [] (rows_in texts)) spill_is
    ∙ ap (rows_refusal parts.header.spill 4 []) rows_is
    ∙ rows_read spells.rows parts.header.spill 4 [] parts.areas spells.rows_spell areas.each (order_follows (kinds parts.areas) areas.in_order) (apart_from (area_names (kinds parts.areas)) areas.differ) areas.packed in
    let named = labels_named spells.labels spells.body_spells in
    let read = body_read spells.labels (length parts.lines) named spells.body_spells spells.lines_fit in
    let body_none : body_refusal (body_place texts) [] (body_in texts) ≡ None =
    ap (λ place. body_refusal place [] (body_in texts)) place_is
    ∙ ap (body_refusal (length spells.rows + 4) []) body_is
    ∙ read.unrefused [] (apart_from (names_of spells.labels) spells.labels_differ) in
    let aimed : targets_refusal (labels_of 0 (body_in texts)) 0 (drafts_of (body_in texts)) (places_of (body_place texts) (body_in texts)) ≡ None =
    ap (λ body. targets_refusal (labels_of 0 body) 0 (drafts_of body) (places_of (body_place texts) body)) body_is
    ∙ ap (λ labels. targets_refusal labels 0 (drafts_of spells.body) (places_of (body_place texts) spells.body)) read.labels_are
    ∙ aimed_none spells.labels (length parts.lines) 0 (drafts_of spells.body) parts.lines (places_of (body_place texts) spells.body) spells.labels_differ read.aims spells.lines_fit in
    four_none _ _ _ _
    (header_none spells.steps spells.spill parts.header.steps parts.header.spill (spells.rows ++ spells.body) spells.steps_number (omega (arith, steps_below)) spells.spill_number spells.spill_small)
    rows_none body_none aimed

-- a text that spells parts is not refused
pub not_refused : (text : List ℕ) (parts : Parts) → Spells text parts → refusal text ≡ None
not_refused text parts spells = ap refusal_of spells.split ∙ spelled_refusal text parts spells

-- a text that is not refused spells its parts
pub spells_parts : (text : List ℕ) → refusal text ≡ None → Spells text (parts_of text)
spells_parts text none = from_lines (lines text) refl none
  where
    from_lines : (texts : List (List ℕ)) → lines text ≡ texts → refusal_of texts ≡ None → Spells text (parts_in texts)
    from_lines texts split h =
        let a = both_none (header_refusal texts) _ h in
        let b = both_none (rows_refusal (spill_words texts) 4 [] (rows_in texts)) _ a.1 in
        let c = both_none (body_refusal (body_place texts) [] (body_in texts)) _ b.1 in
        let header = header_back texts a.0 in
        let rows = rows_back (rows_in texts) (spill_words texts) 4 [] none_apart b.0 in
        let labels = labels_of 0 (body_in texts) in
        let lines_are = map (settled labels) (drafts_of (body_in texts)) in
        let long = length-map (drafts_of (body_in texts)) (settled labels) in
        let count_is : 0 + length (drafts_of (body_in texts)) ≤ length lines_are = omega (arith, long) in
        let body = body_back labels (length lines_are) (body_in texts) (body_place texts) 0 [] (labels_within 0 (length lines_are) (body_in texts) count_is) c.0 c.1 in
        let whole = cut (λ row. not (is_row row)) (drop 3 texts) in
        let steps_value : unwrap_or (steps_of texts) 0 ≡ header.steps_value = ap (λ found. unwrap_or found 0) header.steps_read in
        let spill_value : spill_words texts ≡ header.spill_value = ap (λ found. unwrap_or found 0) header.spill_read in
        let steps_below = header.steps_small in
        let spill_below = header.spill_small in
        record {
          steps = header.steps;
          spill = header.spill;
          rows = rows_in texts;
          body = body_in texts;
          labels = labels;
          split = split ∙ header.split ∙ ap (λ rest. codes "# psi 1" ∷ (codes "# steps " ++ header.steps) ∷ (codes "# spill " ++ header.spill) ∷ rest) whole.whole;
          steps_number = subst (IsNumber header.steps) (sym steps_value) header.steps_is;
          steps_small = omega (arith, steps_value, steps_below);
          spill_number = subst (IsNumber header.spill) (sym spill_value) header.spill_is;
          spill_small = omega (arith, spill_value, spill_below);
          rows_spell = rows.spell;
          rows_end = rows_end (body_in texts) whole.behind;
          areas = record { each = rows.each; in_order = follows_order (kinds (areas_of (spill_words texts) [] (rows_in texts))) rows.follow; differ = differ_from _ rows.apart; packed = rows.packed };
          body_spells = body.spells;
          labels_differ = differ_from (names_of labels) (labels_apart (body_place texts) 0 [] (body_in texts) c.0 none_apart);
          lines_fit = body.fits;
        }

-- each text spells its parts, or it is refused and spells none
pub spells_or_refused : (text : List ℕ) → MatchOption (refusal text) (Spells text (parts_of text)) (λ r. (parts : Parts) → Spells text parts → ⊥)
spells_or_refused text = by_refusal (refusal text) refl
  where
    by_refusal : (found : Refusal) → refusal text ≡ found → MatchOption found (Spells text (parts_of text)) (λ r. (parts : Parts) → Spells text parts → ⊥)
    by_refusal None is = spells_parts text is
    by_refusal (Some at) is = λ parts spells. none_not_some (sym (not_refused text parts spells) ∙ is)

-- The texts that miss a spelling by little spell no program.
use Rattle.std.proofs.Common.{◌≡◌, ℕ, ◌+◌, ◌<◌, ◌≤◌, List, [], ◌∷◌, ◌++◌, length, get_or, drop, refl, sym, ap, subst, ◌∙◌, inl, inr, arith, append_assoc}
use Rattle.std.specs.Prelude.{ℤ, pos, ◌≤ℤ◌, ◌≢◌, Bool, true, false, ◌&&◌, ◌==◌, nat_le, cond, codes, AllPairs, map}
use Rattle.std.specs.Fmt.{decimal}
use Rattle.std.specs.List.{list_all, list_any}
use Rattle.std.specs.Str.Lines.{lines}
use Rattle.std.specs.Str.Parse.{IsNumeral, AllDigits, digits_value, signed_digits_value}
use Rattle.std.proofs.Math.Bool.{or-true}
use Rattle.std.proofs.lemmas.Bool.{cases_eq, eqb-true, ne_eqb}
use Rattle.std.proofs.lemmas.Fmt.{decimal_digit, decimal_nonempty, first_decimal}
use Rattle.std.proofs.lemmas.Int.{ints}
use Rattle.std.proofs.lemmas.List.{get_or_append_left}
use Rattle.std.proofs.lemmas.List.Folds.{list_any-append}
use Rattle.std.proofs.lemmas.Str.Parse.{digit_from_value}
use Rattle.shapes_core.specs.Name.{IsName, is_letter, is_name_byte}
use Rattle.shapes_core.specs.declared.area.Area.{Area}
use Rattle.shapes_core.specs.declared.area.AreaKind.{AreaKind}
use Rattle.shapes_core.specs.declared.area.AreaKind.TheVariants.{In, Out, Scan}
use Rattle.rv_line.specs.Emitted.{register_text}
use Rattle.rv_line.specs.SpellingExamples.{leading_zero_text, large_imm_text, no_label_text, wrong_offset_text, repeated_label_text}
use Rattle.rv_line.specs.Fits.{Accepts, AreAreas, FitsLine, FitLines, IsArea, IsNamed}
use Rattle.rv_line.specs.Instructions.{is_space_or_tab, AreBlanks, Takes, TakesImm, SpellsLine}
use Rattle.rv_line.specs.Numbers.{IsNumber, without_minus}
use Rattle.rv_line.specs.Parts.{Parts}
use Rattle.rv_line.specs.Rows.{is_row, SpellRows, SpellsRow, SpellsKind, spaced}
use Rattle.rv_line.specs.Spells.{Spells, SpellLines, EndsRows}
use Rattle.rv_line.specs.Mnemonics.{imm_mnemonic}
use Rattle.rv_line.specs.declared.line.Imm.{Imm}
use Rattle.rv_line.specs.declared.line.Imm.TheVariants.{Slli, Srli, Srai, Slliw, Srliw, Sraiw}
use Rattle.rv_line.specs.declared.line.Line.{Line}
use Rattle.rv_line.specs.declared.line.Line.TheVariants.{Imm as ImmLine, Branch as BranchLine, Lui}
use Rattle.rv_line.proofs.FormLemmas.{form, form_spelled}
use Rattle.rv_line.proofs.LinesLemmas.{both}
use Rattle.rv_line.proofs.RefusalLemmas.{IsInstruction, first_line, no_texts, IsLabelLine, FirstLabel, first_label, no_rows}

-- the texts behind the header, where the first is no row, are the body
body_is : (text : List ℕ) (parts : Parts) (one two three first : List ℕ) (rest : List (List ℕ)) (spells : Spells text parts) → lines text ≡ one ∷ two ∷ three ∷ first ∷ rest → is_row first ≡ false → SpellLines spells.labels (first ∷ rest) (length spells.rows + 4) 0 parts.lines parts.places spells.labels
body_is text parts one two three first rest spells split other =
    let behind : first ∷ rest ≡ spells.rows ++ spells.body = ap (drop 3) (sym split ∙ spells.split) in
    let none : spells.rows ≡ [] = no_rows spells.rows spells.body parts.header.spill parts.areas first rest behind other spells.rows_spell in
    let body : first ∷ rest ≡ spells.body = behind ∙ rw none refl in
    rw body spells.body_spells

-- a label that is not there
tight_branch : IsInstruction (codes "beq x0, x0, gone")
tight_branch = record { tight = record { bare = refl; first = refl; last = refl }; some = omega arith; begins = λ e. omega arith; ends = λ e. omega arith }

no_branch : (labels : List (List ℕ × ℕ)) (line : Line) → labels ≡ [] → SpellsLine labels (codes "beq x0, x0, gone") line → ⊥
no_branch labels line none spelled = by_form line spelled (form_spelled labels (codes "beq x0, x0, gone") line spelled)
  where
    by_form : (line : Line) → SpellsLine labels (codes "beq x0, x0, gone") line → 4 ≡ form line → ⊥
    by_form (BranchLine code left right target) spelled e = let below : spelled.defined.0 < 0 = rw none at spelled.defined.1 in omega arith
    by_form other spelled e = omega arith

pub no_label_refused : (parts : Parts) → Spells no_label_text parts → ⊥
no_label_refused parts spells =
    let body = body_is no_label_text parts _ _ _ (codes "beq x0, x0, gone") [] spells refl refl in
    let first = first_line spells.labels tight_branch body in
    no_branch spells.labels first.line (no_texts spells.labels first.others) first.spelled

-- a label twice
tight_label : IsLabelLine (codes "a")
tight_label = record { tight = record { bare = refl; first = refl; last = refl }; begins = λ e. omega arith; no_mnemonic = refl }

two_labels : (labels : List (List ℕ × ℕ)) (place : ℕ) (program : List Line) (places : List ℕ) (first : FirstLabel labels (codes "a") (codes "a:" ∷ []) place 0 program places labels) → (more : List (List ℕ × ℕ)) × (labels ≡ (codes "a", 0) ∷ (codes "a", 0) ∷ more)
two_labels labels place program places first =
    let second = first_label labels (codes "a") tight_label refl first.others in
    (second.more, first.is ∙ ap (λ ls. (codes "a", 0) ∷ ls) second.is)

not_twice : (labels more : List (List ℕ × ℕ)) → labels ≡ (codes "a", 0) ∷ (codes "a", 0) ∷ more → AllPairs (λ one other. one ≢ other) (map (λ label. label.0) labels) → ⊥
not_twice labels more is differ =
    let P : List (List ℕ × ℕ) → Type 0 = λ ls. AllPairs (λ one other. one ≢ other) (map (λ label. label.0) ls) in
    let pairs = subst P is differ in
    pairs 0 1 [] (omega arith) (omega arith) refl

pub repeated_label_refused : (parts : Parts) → Spells repeated_label_text parts → ⊥
repeated_label_refused parts spells =
    let body = body_is repeated_label_text parts _ _ _ (codes "a:") (codes "a:" ∷ []) spells refl refl in
    let first = first_label spells.labels (codes "a") tight_label refl body in
    let labels = two_labels spells.labels (length spells.rows + 4) parts.lines parts.places first in
    not_twice spells.labels labels.0 labels.1 spells.labels_differ

-- what follows the blanks at the front
abbrev skip_blanks : List ℕ → List ℕ
skip_blanks [] = []
skip_blanks (byte ∷ bytes) = cond (is_space_or_tab byte) (skip_blanks bytes) (byte ∷ bytes)

skip_gap : (gap : List ℕ) (byte : ℕ) (bytes : List ℕ) → AreBlanks gap → is_space_or_tab byte ≡ false → skip_blanks (gap ++ byte ∷ bytes) ≡ byte ∷ bytes
skip_gap [] byte bytes blanks solid = rw solid refl
skip_gap (other ∷ gap) byte bytes blanks solid =
    let parts = both (is_space_or_tab other) (list_all is_space_or_tab gap) blanks in
    rw parts.0 (skip_gap gap byte bytes parts.1 solid)

-- a register with a leading zero
behind_five : (before rest : List ℕ) → AreBlanks before → codes "5, 1" ≡ before ++ 44 ∷ rest → ⊥
behind_five [] rest blanks e = let first : ◌≡◌ {A = ℕ} 53 44 = ap (λ t. get_or t 0 0) e in omega arith
behind_five (byte ∷ before) rest blanks e =
    let first : 53 ≡ byte = ap (λ t. get_or t 0 0) e in
    let blank : is_space_or_tab byte ≡ true = (both (is_space_or_tab byte) (list_all is_space_or_tab before) blanks).0 in
    let P : ℕ → Type 0 = λ b. is_space_or_tab b ≡ true in
    let wrong : false ≡ true = subst P (sym first) blank in
    absurd (cc)

no_leading_zero : (register : ℕ) (before rest : List ℕ) → register < 32 → AreBlanks before → codes "05, 1" ≡ decimal register ++ (before ++ 44 ∷ rest) → ⊥
no_leading_zero register before rest small blanks e =
    elim (cases_eq register 0) [
      | inl zero_is ↦
          let zero_text : decimal register ≡ 48 ∷ [] = rw zero_is (decimal_digit 0 (omega arith)) in
          let shown : codes "05, 1" ≡ 48 ∷ (before ++ 44 ∷ rest) = rw zero_text at e in
          behind_five before rest blanks (ap (drop 1) shown)
      | inr other ↦
          let some = decimal_nonempty register (omega arith) in
          let high = first_decimal register (omega arith) (omega arith) in
          let first : 48 ≡ get_or (decimal register ++ (before ++ 44 ∷ rest)) 0 0 = ap (λ t. get_or t 0 0) e in
          let same : get_or (decimal register ++ (before ++ 44 ∷ rest)) 0 0 ≡ get_or (decimal register) 0 0 = get_or_append_left (decimal register) (before ++ 44 ∷ rest) 0 0 some in
          omega arith
    ]

tight_lui : IsInstruction (codes "lui x05, 1")
tight_lui = record { tight = record { bare = refl; first = refl; last = refl }; some = omega arith; begins = λ e. omega arith; ends = λ e. omega arith }

no_register : (register : ℕ) (digits : List ℕ) → register < 32 → Takes (codes "lui x05, 1") (codes "lui") (register_text register ∷ digits ∷ []) → ⊥
no_register register digits small takes =
    let operands = takes.separated in
    let before = operands.0 in
    let rest = operands.1 ++ operands.2 in
    let spelled : codes " x05, 1" ≡ takes.gap ++ takes.rest = ap (drop 3) takes.spelled in
    let shown : codes " x05, 1" ≡ takes.gap ++ 120 ∷ (decimal register ++ (before ++ 44 ∷ rest)) = spelled ∙ ap (λ t. takes.gap ++ t) operands.3 in
    let skipped : codes "x05, 1" ≡ 120 ∷ (decimal register ++ (before ++ 44 ∷ rest)) = ap skip_blanks shown ∙ skip_gap takes.gap 120 (decimal register ++ (before ++ 44 ∷ rest)) takes.apart refl in
    no_leading_zero register before rest small operands.4 (ap (drop 1) skipped)

no_lui : (labels : List (List ℕ × ℕ)) (count at : ℕ) (line : Line) → FitsLine count at line → SpellsLine labels (codes "lui x05, 1") line → ⊥
no_lui labels count at line fits spelled = by_form line fits spelled (form_spelled labels (codes "lui x05, 1") line spelled)
  where
    by_form : (line : Line) → FitsLine count at line → SpellsLine labels (codes "lui x05, 1") line → 5 ≡ form line → ⊥
    by_form (Lui to imm) fits spelled e = no_register to spelled.digits fits.to spelled.takes
    by_form other fits spelled e = omega arith

first_fits : (count at : ℕ) (program : List Line) (line : Line) (more : List Line) → program ≡ line ∷ more → FitLines count at program → FitsLine count at line
first_fits count at program line more is fit = (rw is at fit).0

pub leading_zero_refused : (parts : Parts) → Spells leading_zero_text parts → ⊥
leading_zero_refused parts spells =
    let body = body_is leading_zero_text parts _ _ _ (codes "lui x05, 1") [] spells refl refl in
    let first = first_line spells.labels tight_lui body in
    no_lui spells.labels (length parts.lines) 0 first.line (first_fits (length parts.lines) 0 parts.lines first.line first.lines first.is spells.lines_fit) first.spelled

-- what stands behind the last comma
abbrev behind_comma : List ℕ → List ℕ
behind_comma [] = []
behind_comma (byte ∷ bytes) = cond (list_any (λ other. other == 44) bytes) (behind_comma bytes) (cond (byte == 44) bytes (byte ∷ bytes))

behind_comma-append : (front rest : List ℕ) → list_any (λ other. other == 44) rest ≡ false → behind_comma (front ++ 44 ∷ rest) ≡ rest
behind_comma-append [] rest none = rw none refl
behind_comma-append (byte ∷ front) rest none =
    rw (list_any-append (λ other. other == 44) front (44 ∷ rest), or-true) (behind_comma-append front rest none)

blanks_no_comma : (blanks : List ℕ) → AreBlanks blanks → list_any (λ other. other == 44) blanks ≡ false
blanks_no_comma [] are = refl
blanks_no_comma (byte ∷ blanks) are =
    let parts = both (is_space_or_tab byte) (list_all is_space_or_tab blanks) are in
    rw (ne_eqb byte 44 (λ e. not_comma (rw e at parts.0))) (blanks_no_comma blanks parts.1)
  where
    not_comma : is_space_or_tab 44 ≡ true → ⊥
    not_comma h = absurd (cc)

digits_no_comma : (digits : List ℕ) → AllDigits 10 digits → list_any (λ other. other == 44) digits ≡ false
digits_no_comma [] all = refl
digits_no_comma (byte ∷ digits) all =
    let range = digit_from_value byte all.0 in
    rw (ne_eqb byte 44 (λ e. omega arith)) (digits_no_comma digits all.1)

-- a number with a sign begins with no blank, and has no comma
record IsSolid (text : List ℕ) : Type 0 where
  first : ℕ
  others : List ℕ
  is : text ≡ first ∷ others
  solid : is_space_or_tab first ≡ false
  no_comma : list_any (λ other. other == 44) text ≡ false

digit_solid : (byte : ℕ) → 48 ≤ byte → is_space_or_tab byte ≡ false
digit_solid byte low = rw (ne_eqb byte 32 (λ e. omega arith), ne_eqb byte 9 (λ e. omega arith)) refl

signed_solid : (text : List ℕ) → IsNumeral 10 (without_minus text) → IsSolid text
signed_solid [] numeral = absurd (omega (arith, numeral.0))
signed_solid (byte ∷ bytes) numeral = by_sign (byte == 45) refl numeral
  where
    by_sign : (b : Bool) → (byte == 45) ≡ b → IsNumeral 10 (cond b bytes (byte ∷ bytes)) → IsSolid (byte ∷ bytes)
    by_sign true is numeral =
        let minus : byte ≡ 45 = eqb-true byte 45 is in
        record { first = byte; others = bytes; is = refl; solid = rw minus refl; no_comma = rw minus (digits_no_comma bytes numeral.1) }
    by_sign false is numeral =
        let range = digit_from_value byte numeral.1.0 in
        record { first = byte; others = bytes; is = refl; solid = digit_solid byte range.0; no_comma = digits_no_comma (byte ∷ bytes) numeral.1 }

-- an immediate out of range
tight_addi : IsInstruction (codes "addi x5, x0, 2048")
tight_addi = record { tight = record { bare = refl; first = refl; last = refl }; some = omega arith; begins = λ e. omega arith; ends = λ e. omega arith }

last_operand : (core mnemonic one two digits : List ℕ) → IsNumeral 10 (without_minus digits) → Takes core mnemonic (one ∷ two ∷ digits ∷ []) → skip_blanks (behind_comma core) ≡ digits
last_operand core mnemonic one two digits numeral takes =
    let solid = signed_solid digits numeral in
    let first = takes.separated in
    let second = first.6 in
    let front = mnemonic ++ takes.gap ++ one ++ first.0 ++ 44 ∷ [] ++ first.1 ++ two ++ second.0 in
    let whole : core ≡ front ++ 44 ∷ (second.1 ++ second.2) =
    takes.spelled ∙ ap (λ t. mnemonic ++ (takes.gap ++ t)) (first.3 ∙ ap (λ t. one ++ (first.0 ++ (44 ∷ (first.1 ++ t)))) second.3) ∙ simp append_assoc refl in
    let no_comma : list_any (λ other. other == 44) (second.1 ++ digits) ≡ false =
    rw (list_any-append (λ other. other == 44) second.1 digits, blanks_no_comma second.1 second.5) solid.no_comma in
    let shown : core ≡ front ++ 44 ∷ (second.1 ++ digits) = whole ∙ ap (λ t. front ++ 44 ∷ (second.1 ++ t)) second.6 in
    ap (λ t. skip_blanks (behind_comma t)) shown
    ∙ ap skip_blanks (behind_comma-append front (second.1 ++ digits) no_comma ∙ ap (λ t. second.1 ++ t) solid.is)
    ∙ skip_gap second.1 solid.first solid.others second.5 solid.solid
    ∙ sym solid.is

at_most_2047 : (code : Imm) (z : ℤ) → Accepts code z → z ≤ℤ pos 2047
at_most_2047 Slli z known = let high = known.high in omega (arith, ints)
at_most_2047 Srli z known = let high = known.high in omega (arith, ints)
at_most_2047 Srai z known = let high = known.high in omega (arith, ints)
at_most_2047 Slliw z known = let high = known.high in omega (arith, ints)
at_most_2047 Srliw z known = let high = known.high in omega (arith, ints)
at_most_2047 Sraiw z known = let high = known.high in omega (arith, ints)
at_most_2047 other z known = known.high

no_imm : (code : Imm) (to from : ℕ) (imm : ℤ) → Accepts code imm → TakesImm (codes "addi x5, x0, 2048") (imm_mnemonic code) (register_text to ∷ register_text from ∷ []) imm → ⊥
no_imm code to from imm fits spelled =
    let digits : codes "2048" ≡ spelled.digits = last_operand (codes "addi x5, x0, 2048") (imm_mnemonic code) (register_text to) (register_text from) spelled.digits spelled.number.digits spelled.takes in
    let value : pos 2048 ≡ imm = ap (signed_digits_value 10) digits ∙ spelled.number.value in
    let high : imm ≤ℤ pos 2047 = at_most_2047 code imm fits in
    let wrong : pos 2048 ≤ℤ pos 2047 = rw (sym value) at high in
    omega (arith, ints)

no_addi : (labels : List (List ℕ × ℕ)) (count at : ℕ) (line : Line) → FitsLine count at line → SpellsLine labels (codes "addi x5, x0, 2048") line → ⊥
no_addi labels count at line fits spelled = by_form line fits spelled (form_spelled labels (codes "addi x5, x0, 2048") line spelled)
  where
    by_form : (line : Line) → FitsLine count at line → SpellsLine labels (codes "addi x5, x0, 2048") line → 1 ≡ form line → ⊥
    by_form (ImmLine code to from imm) fits spelled e = no_imm code to from imm fits.imm spelled
    by_form other fits spelled e = omega arith

pub large_imm_refused : (parts : Parts) → Spells large_imm_text parts → ⊥
large_imm_refused parts spells =
    let body = body_is large_imm_text parts _ _ _ (codes "addi x5, x0, 2048") [] spells refl refl in
    let first = first_line spells.labels tight_addi body in
    no_addi spells.labels (length parts.lines) 0 first.line (first_fits (length parts.lines) 0 parts.lines first.line first.lines first.is spells.lines_fit) first.spelled

-- an offset that is not the spill
name_word : (name rest : List ℕ) → IsName name → codes "C 1" ≡ name ++ 32 ∷ rest → codes "1" ≡ rest
name_word [] rest is e = absurd (cc)
name_word (first ∷ []) rest is e = ap (drop 2) e
name_word (first ∷ second ∷ others) rest is e =
    let bytes = both (is_letter first && list_all is_name_byte (second ∷ others)) (nat_le (length (second ∷ others)) 63) is in
    let behind = both (is_letter first) (list_all is_name_byte (second ∷ others)) bytes.0 in
    let byte = both (is_name_byte second) (list_all is_name_byte others) behind.1 in
    let blank : 32 ≡ second = ap (λ t. get_or t 1 0) e in
    let P : ℕ → Type 0 = λ b. is_name_byte b ≡ true in
    let wrong : false ≡ true = subst P (sym blank) byte.0 in
    absurd (cc)

offset_not_zero : (offset : List ℕ) (extents : List (List ℕ)) → IsNumber offset 0 → codes "1" ≡ offset ++ spaced extents → ⊥
offset_not_zero [] extents number e = omega (arith, number.digits.0)
offset_not_zero (byte ∷ []) extents number e =
    let first : 49 ≡ byte = ap (λ t. get_or t 0 0) e in
    let P : ℕ → Type 0 = λ b. digits_value 10 (b ∷ []) ≡ 0 in
    let wrong : ◌≡◌ {A = ℕ} 1 0 = subst P (sym first) number.value in
    omega arith
offset_not_zero (byte ∷ other ∷ bytes) extents number e = omega (arith, ap length e)

no_row : (area : Area) (word : ℕ) → word ≡ 0 → IsArea area → SpellsRow (codes "# out C 1") word area → ⊥
no_row area word is known spells = by_kind area.kind known.named spells.kind
  where
    by_kind : (kind : AreaKind) → IsNamed kind → SpellsKind spells.front kind → ⊥
    by_kind (In name) named front =
        let third : ◌≡◌ {A = ℕ} 111 105 = ap (λ t. get_or t 2 0) (spells.spelled ∙ ap (λ t. t ++ codes " " ++ spells.offset ++ spaced spells.extents) front) in omega arith
    by_kind (Out name) named front =
        let whole : codes "# out C 1" ≡ codes "# out " ++ name ++ codes " " ++ spells.offset ++ spaced spells.extents = spells.spelled ∙ ap (λ t. t ++ codes " " ++ spells.offset ++ spaced spells.extents) front in
        let behind : codes "C 1" ≡ name ++ codes " " ++ spells.offset ++ spaced spells.extents = ap (drop 6) whole in
        let regrouped : name ++ codes " " ++ spells.offset ++ spaced spells.extents ≡ name ++ 32 ∷ (spells.offset ++ spaced spells.extents) = simp append_assoc refl in
        offset_not_zero spells.offset spells.extents (rw is at spells.begins) (name_word name (spells.offset ++ spaced spells.extents) named (behind ∙ regrouped))
    by_kind (Scan number) named known =
        let third : ◌≡◌ {A = ℕ} 111 115 = ap (λ t. get_or t 2 0) (spells.spelled ∙ ap (λ t. t ++ codes " " ++ spells.offset ++ spaced spells.extents) known.1) in omega arith

no_such_rows : (rows body : List (List ℕ)) (spill : ℕ) (areas : List Area) → codes "# out C 1" ∷ [] ≡ rows ++ body → spill ≡ 0 → SpellRows rows spill areas → AreAreas areas → EndsRows body → ⊥
no_such_rows [] body spill areas split none spells are ends =
    let P : List (List ℕ) → Type 0 = EndsRows in
    let wrong : true ≡ false = subst P (sym split) ends in
    absurd (cc)
no_such_rows (row ∷ rows) body spill [] split none spells are ends = absurd spells
no_such_rows (row ∷ rows) body spill (area ∷ areas) split none spells are ends =
    let same : codes "# out C 1" ≡ row = ap (λ ts. get_or ts 0 []) split in
    no_row area (spill + area.start) (omega (arith, are.packed.0)) are.each.0 (rw (sym same) at spells.0)

pub wrong_offset_refused : (parts : Parts) → Spells wrong_offset_text parts → ⊥
wrong_offset_refused parts spells =
    let rest : codes "# out C 1" ∷ [] ≡ spells.rows ++ spells.body = ap (drop 3) spells.split in
    let spill_text : codes "0" ≡ spells.spill = ap (λ ts. drop 8 (get_or ts 2 [])) spells.split in
    let spill : 0 ≡ parts.header.spill = ap (digits_value 10) spill_text ∙ spells.spill_number.value in
    no_such_rows spells.rows spells.body parts.header.spill parts.areas rest (sym spill) spells.rows_spell spells.areas spells.rows_end

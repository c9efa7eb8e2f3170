-- A line with no comment and no blank at its ends says just itself, so that its first and last bytes tell what it can be.
use Rattle.std.proofs.Common.{◌≡◌, ℕ, ◌+◌, ◌<◌, List, [], ◌∷◌, ◌++◌, length, get_or, refl, sym, ap, ◌∙◌, arith, append_assoc}
use Rattle.std.specs.Prelude.{◌≢◌, true, false, ◌==◌, not, codes}
use Rattle.std.specs.List.{list_all}
use Rattle.std.proofs.lemmas.List.{append-nil, length-append, same_from_push}
use Rattle.std.proofs.lemmas.List.Folds.{list_all-append}
use Rattle.shapes_core.specs.declared.area.Area.{Area}
use Rattle.shapes_core.specs.declared.area.AreaKind.{AreaKind}
use Rattle.shapes_core.specs.declared.area.AreaKind.TheVariants.{In, Out, Scan}
use Rattle.rv_line.specs.Instructions.{is_space_or_tab, AreBlanks, IsComment, Says, SpellsLine}
use Rattle.rv_line.specs.Rows.{is_row, SpellRows, SpellsRow, SpellsKind}
use Rattle.rv_line.specs.Spells.{SpellLines}
use Rattle.rv_line.specs.Spells.SaysNothing.{empty, section, global}
use Rattle.rv_line.specs.Spells.SpellLines.{end, skip, label, instruction}
use Rattle.rv_line.specs.declared.line.Line.{Line}
use Rattle.rv_line.proofs.FormLemmas.{first_word, form_of, no_line}
use Rattle.rv_line.proofs.LinesLemmas.{both}

-- the last byte, or `before` where there is none
abbrev pub last_of : ℕ → List ℕ → ℕ
last_of before [] = before
last_of before (byte ∷ bytes) = last_of byte bytes

-- a line with no comment, and no blank at either end
pub record IsTight (text : List ℕ) : Type 0 where
  pub bare : list_all (λ byte. not (byte == 35)) text ≡ true
  pub first : is_space_or_tab (get_or text 0 0) ≡ false
  pub last : is_space_or_tab (last_of 0 text) ≡ false

true_not_false : true ≡ false → ⊥
true_not_false e = absurd (cc)

no_comment : (front comment : List ℕ) → list_all (λ byte. not (byte == 35)) (front ++ comment) ≡ true → IsComment comment → comment ≡ []
no_comment front [] bare is = refl
no_comment front (byte ∷ bytes) bare is =
    let split = rw (list_all-append (λ other. not (other == 35)) front (byte ∷ bytes)) at bare in
    let behind = (both (list_all (λ other. not (other == 35)) front) (list_all (λ other. not (other == 35)) (byte ∷ bytes)) split).1 in
    let here : not (byte == 35) ≡ true = (both (not (byte == 35)) (list_all (λ other. not (other == 35)) bytes) behind).0 in
    absurd (true_not_false (sym (rw is at here)))

no_lead : (lead rest : List ℕ) → is_space_or_tab (get_or (lead ++ rest) 0 0) ≡ false → AreBlanks lead → lead ≡ []
no_lead [] rest first blanks = refl
no_lead (byte ∷ lead) rest first blanks = absurd (true_not_false (sym (both (is_space_or_tab byte) (list_all is_space_or_tab lead) blanks).0 ∙ first))

pub last_of-append : (before : ℕ) (front : List ℕ) (byte : ℕ) (bytes : List ℕ) → last_of before (front ++ byte ∷ bytes) ≡ last_of byte bytes
last_of-append before [] byte bytes = refl
last_of-append before (other ∷ front) byte bytes = last_of-append other front byte bytes

last_blank : (byte : ℕ) (bytes : List ℕ) → AreBlanks (byte ∷ bytes) → is_space_or_tab (last_of byte bytes) ≡ true
last_blank byte [] blanks = (both (is_space_or_tab byte) true blanks).0
last_blank byte (other ∷ bytes) blanks = last_blank other bytes (both (is_space_or_tab byte) (list_all is_space_or_tab (other ∷ bytes)) blanks).1

no_trail : (front trail : List ℕ) → is_space_or_tab (last_of 0 (front ++ trail)) ≡ false → AreBlanks trail → trail ≡ []
no_trail front [] last blanks = refl
no_trail front (byte ∷ trail) last blanks =
    absurd (true_not_false (sym (last_blank byte trail blanks) ∙ (rw (last_of-append 0 front byte trail) at last)))

core_alone : (text lead core trail comment : List ℕ) → IsTight text → text ≡ lead ++ (core ++ (trail ++ comment)) → AreBlanks lead → AreBlanks trail → IsComment comment → text ≡ core
core_alone text lead core trail comment tight spelled before behind ended =
    let regrouped : lead ++ (core ++ (trail ++ comment)) ≡ lead ++ (core ++ trail) ++ comment = simp append_assoc refl in
    let comment_is : comment ≡ [] = no_comment (lead ++ (core ++ trail)) comment (rw (spelled ∙ regrouped) at tight.bare) ended in
    let shorter : text ≡ lead ++ (core ++ trail) = spelled ∙ rw (comment_is, append-nil trail) refl in
    let trail_is : trail ≡ [] = no_trail (lead ++ core) trail (rw (shorter ∙ sym (append_assoc lead core trail)) at tight.last) behind in
    let shortest : text ≡ lead ++ core = shorter ∙ rw (trail_is, append-nil core) refl in
    let lead_is : lead ≡ [] = no_lead lead core (rw shortest at tight.first) before in
    shortest ∙ rw lead_is refl

-- what a tight line says is the whole line
pub tight_core : (text core : List ℕ) → IsTight text → Says text core → text ≡ core
tight_core text core tight says = core_alone text says.lead core says.trail says.comment tight says.spelled says.before says.behind says.ended

-- a tight line that is neither a directive nor a label is an instruction
pub record IsInstruction (text : List ℕ) : Type 0 where
  pub tight : IsTight text
  pub some : 0 < length text
  pub begins : get_or text 0 0 ≢ 46
  pub ends : last_of 0 text ≢ 58

-- the first of the instructions is spelled by this text, and the others by the other texts
pub record First (labels : List (List ℕ × ℕ)) (text : List ℕ) (texts : List (List ℕ)) (place at : ℕ) (program : List Line) (defined : List (List ℕ × ℕ)) : Type 0 where
  pub line : Line
  pub lines : List Line
  pub places : List ℕ
  pub is : program ≡ line ∷ lines
  pub spelled : SpellsLine labels text line
  pub others : SpellLines labels texts (place + 1) (at + 1) lines places defined

pub first_line : (labels : List (List ℕ × ℕ)) {text : List ℕ} {texts : List (List ℕ)} {place at : ℕ} {program : List Line} {places : List ℕ} {defined : List (List ℕ × ℕ)} → IsInstruction text → SpellLines labels (text ∷ texts) place at program places defined → First labels text texts place at program defined
first_line labels {text} is (skip (empty says) rest) =
    let alone = tight_core text [] is.tight says in
    let some = is.some in
    absurd (omega (arith, ap length alone))
first_line labels {text} is (skip (section says) rest) = absurd (is.begins (ap (λ t. get_or t 0 0) (tight_core text (codes ".text") is.tight says)))
first_line labels {text} is (skip (global core says g) rest) = absurd (is.begins (ap (λ t. get_or t 0 0) (tight_core text core is.tight says ∙ g.spelled)))
first_line labels {text} is (label name says named rest) =
    absurd (is.ends (ap (last_of 0) (tight_core text (name ++ codes ":") is.tight says) ∙ last_of-append 0 name 58 []))
first_line labels {text} is (instruction {line} {program} {places} core says spelled rest) =
    record { line = line; lines = program; places = places; is = refl; spelled = rw (sym (tight_core text core is.tight says)) at spelled; others = rest }

-- no texts define no labels
pub no_texts : (labels : List (List ℕ × ℕ)) {place at : ℕ} {program : List Line} {places : List ℕ} {defined : List (List ℕ × ℕ)} → SpellLines labels [] place at program places defined → defined ≡ []
no_texts labels end = refl

-- a tight line that is a label
pub record IsLabelLine (name : List ℕ) : Type 0 where
  pub tight : IsTight (name ++ codes ":")
  pub begins : get_or (name ++ codes ":") 0 0 ≢ 46
  pub no_mnemonic : form_of (first_word (name ++ codes ":")) ≡ 12

-- the first of the texts defines this label, and the others are spelled alone
pub record FirstLabel (labels : List (List ℕ × ℕ)) (name : List ℕ) (texts : List (List ℕ)) (place at : ℕ) (program : List Line) (places : List ℕ) (defined : List (List ℕ × ℕ)) : Type 0 where
  pub more : List (List ℕ × ℕ)
  pub is : defined ≡ (name, at) ∷ more
  pub others : SpellLines labels texts (place + 1) at program places more

pub first_label : (labels : List (List ℕ × ℕ)) (name : List ℕ) {texts : List (List ℕ)} {text : List ℕ} {place at : ℕ} {program : List Line} {places : List ℕ} {defined : List (List ℕ × ℕ)} → IsLabelLine name → text ≡ name ++ codes ":" → SpellLines labels (text ∷ texts) place at program places defined → FirstLabel labels name texts place at program places defined
first_label labels name {text} is same (skip (empty says) rest) =
    let alone = tight_core (name ++ codes ":") [] is.tight (rw same at says) in
    absurd (omega (arith, length-append name (58 ∷ []), ap length alone))
first_label labels name {text} is same (skip (section says) rest) = absurd (is.begins (ap (λ t. get_or t 0 0) (tight_core (name ++ codes ":") (codes ".text") is.tight (rw same at says))))
first_label labels name {text} is same (skip (global core says g) rest) = absurd (is.begins (ap (λ t. get_or t 0 0) (tight_core (name ++ codes ":") core is.tight (rw same at says) ∙ g.spelled)))
first_label labels name {text} {at} is same (label {defined} found says named rest) =
    let names : name ≡ found = (same_from_push name found 58 58 (tight_core (name ++ codes ":") (found ++ codes ":") is.tight (rw same at says))).0 in
    record { more = defined; is = ap (λ n. (n, at) ∷ defined) (sym names); others = rest }
first_label labels name {text} is same (instruction {line} core says spelled rest) =
    absurd (no_line labels core line (rw (tight_core (name ++ codes ":") core is.tight (rw same at says)) at is.no_mnemonic) spelled)

-- a row begins as a row
pub row_begins : (row : List ℕ) (word : ℕ) (area : Area) → SpellsRow row word area → is_row row ≡ true
row_begins row word area spells = by_kind area.kind spells.kind
  where
    by_kind : (kind : AreaKind) → SpellsKind spells.front kind → is_row row ≡ true
    by_kind (In name) known = rw (spells.spelled, known) refl
    by_kind (Out name) known = rw (spells.spelled, known) refl
    by_kind (Scan number) known = rw (spells.spelled, known.1) refl

-- where the first line is no row there are no rows
pub no_rows : (rows body : List (List ℕ)) (spill : ℕ) (areas : List Area) (first : List ℕ) (rest : List (List ℕ)) → first ∷ rest ≡ rows ++ body → is_row first ≡ false → SpellRows rows spill areas → rows ≡ []
no_rows [] body spill areas first rest split other spells = refl
no_rows (row ∷ rows) body spill [] first rest split other spells = absurd spells
no_rows (row ∷ rows) body spill (area ∷ areas) first rest split other spells =
    let same : first ≡ row = cc in
    absurd (true_not_false (sym (row_begins row (spill + area.start) area spells.0) ∙ rw same at other))

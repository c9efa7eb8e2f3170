-- The lines of a body spell one list of instructions, which stand on one list of lines, and define one list of labels.
use Rattle.std.proofs.Common.{◌≡◌, ℕ, ◌+◌, List, [], ◌∷◌, ◌++◌, get_or, refl, ap, ◌∙◌}
use Rattle.std.specs.Prelude.{true, false, ◌==◌, not, cond, codes}
use Rattle.std.specs.List.{list_all, AllByRecursion}
use Rattle.std.proofs.lemmas.Bool.{ne_eqb}
use Rattle.rv_line.specs.Fits.{FitLines}
use Rattle.rv_line.specs.Instructions.{is_space_or_tab, is_label_byte, IsLabel, IsGlobal, Says}
use Rattle.rv_line.specs.Spells.{SaysNothing, SpellLines}
use Rattle.rv_line.specs.Spells.SaysNothing.{empty, section, global}
use Rattle.rv_line.specs.Spells.SpellLines.{end, skip, label, instruction}
use Rattle.rv_line.specs.declared.line.Line.{Line}
use Rattle.rv_line.proofs.CutLemmas.{until, until-append, core_of, says_core, none_is, all_of_both, blanks_bare}
use Rattle.rv_line.proofs.LineReadingLemmas.{AreTextLabels, is_label_core, is_code, last_parts, line_of, ReadsLine, line_read}
use Rattle.rv_line.proofs.LinesLemmas.{both}
use Rattle.rv_line.proofs.OperandReadingLemmas.{ends_behind, operand_ends, label_bytes, label_operand}
use Rattle.rv_line.proofs.RefusalLemmas.{last_of, last_of-append, IsTight}

-- the labels that are defined from a line on, by those that are defined behind it: `same` where the line is no instruction, and `next`
-- where it is
abbrev labels_with : List ℕ → ℕ → List (List ℕ × ℕ) → List (List ℕ × ℕ) → List (List ℕ × ℕ)
labels_with core at same next = cond (is_label_core core) ((until (λ byte. byte == 58) core, at) ∷ same) (cond (is_code core) next same)

-- the labels that texts define, the first instruction of which has a number
abbrev pub labels_of : List (List ℕ) → ℕ → List (List ℕ × ℕ)
labels_of [] at = []
labels_of (text ∷ texts) at = labels_with (core_of text) at (labels_of texts at) (labels_of texts (at + 1))

abbrev lines_with : List (List ℕ × ℕ) → List ℕ → List Line → List Line
lines_with labels core rest = cond (is_label_core core) rest (cond (is_code core) (line_of labels core ∷ rest) rest)

-- the instructions that texts spell
abbrev pub lines_of : List (List ℕ × ℕ) → List (List ℕ) → List Line
lines_of labels [] = []
lines_of labels (text ∷ texts) = lines_with labels (core_of text) (lines_of labels texts)

abbrev places_with : List ℕ → ℕ → List ℕ → List ℕ
places_with core place rest = cond (is_label_core core) rest (cond (is_code core) (place ∷ rest) rest)

-- the places where they stand, the first text being at a place
abbrev pub places_of : List (List ℕ) → ℕ → List ℕ
places_of [] place = []
places_of (text ∷ texts) place = places_with (core_of text) place (places_of texts (place + 1))

-- a core that spells nothing
record IsSkipped (core : List ℕ) : Type 0 where
  tight : IsTight core
  no_code : is_code core ≡ false
  no_label : is_label_core core ≡ false

nothing_skipped : IsSkipped []
nothing_skipped = record { tight = record { bare = refl; first = refl; last = refl }; no_code = refl; no_label = refl }

section_skipped : IsSkipped (codes ".text")
section_skipped = record { tight = record { bare = refl; first = refl; last = refl }; no_code = refl; no_label = refl }

global_skipped : (core : List ℕ) → IsGlobal core → IsSkipped core
global_skipped core is =
    let ends = ends_behind (codes ".globl") (is.gap ++ is.name) refl (ends_behind is.gap is.name (blanks_bare is.gap is.apart) (operand_ends is.name (label_operand is.name is.label))) in
    let last = last_parts (last_of 0 (codes ".globl" ++ (is.gap ++ is.name))) ends.last in
    rw is.spelled (record { tight = record { bare = ends.bare; first = refl; last = last.0 }; no_code = refl; no_label = last.1 })

-- the line of a label
record IsNamed (name core : List ℕ) : Type 0 where
  tight : IsTight core
  is_label : is_label_core core ≡ true
  name_is : until (λ byte. byte == 58) core ≡ name

first_of_label : (name : List ℕ) → IsLabel name → is_space_or_tab (get_or (name ++ codes ":") 0 0) ≡ false
first_of_label [] is = refl
first_of_label (byte ∷ name) is = by_byte byte (both (is_label_byte byte) (list_all is_label_byte name) (label_bytes (byte ∷ name) is).0).0
  where
    no_space : is_label_byte 32 ≡ true → ⊥
    no_space h = absurd (cc)

    no_tab : is_label_byte 9 ≡ true → ⊥
    no_tab h = absurd (cc)

    by_byte : (b : ℕ) → is_label_byte b ≡ true → is_space_or_tab b ≡ false
    by_byte b h = rw (ne_eqb b 32 (λ e. no_space (rw e at h)), ne_eqb b 9 (λ e. no_tab (rw e at h))) refl

label_named : (name : List ℕ) → IsLabel name → IsNamed name (name ++ codes ":")
label_named name is =
    let bytes = (label_bytes name is).0 in
    let last = last_of-append 0 name 58 [] in
    record {
      tight = record {
        bare = all_of_both (λ byte. not (byte == 35)) name (codes ":") (none_is is_label_byte 35 refl name bytes) refl;
        first = first_of_label name is;
        last = rw last refl;
      };
      is_label = rw last refl;
      name_is = until-append (λ byte. byte == 58) name (codes ":") (none_is is_label_byte 58 refl name bytes) refl;
    }

-- what is read of texts
pub record BodyRead (labels : List (List ℕ × ℕ)) (texts : List (List ℕ)) (place at : ℕ) (lines : List Line) (places : List ℕ) (defined : List (List ℕ × ℕ)) : Type 0 where
  pub labels_are : labels_of texts at ≡ defined
  pub lines_are : lines_of labels texts ≡ lines
  pub places_are : places_of texts place ≡ places

skips : (labels : List (List ℕ × ℕ)) (text : List ℕ) (texts : List (List ℕ)) (place at : ℕ) (lines : List Line) (places : List ℕ) (defined : List (List ℕ × ℕ)) (core : List ℕ) → Says text core → IsSkipped core → BodyRead labels texts (place + 1) at lines places defined → BodyRead labels (text ∷ texts) place at lines places defined
skips labels text texts place at lines places defined core says skipped rest =
    let read = says_core text core skipped.tight says in
    record {
      labels_are = ap (λ c. labels_with c at (labels_of texts at) (labels_of texts (at + 1))) read ∙ rw (skipped.no_label, skipped.no_code) rest.labels_are;
      lines_are = ap (λ c. lines_with labels c (lines_of labels texts)) read ∙ rw (skipped.no_label, skipped.no_code) rest.lines_are;
      places_are = ap (λ c. places_with c place (places_of texts (place + 1))) read ∙ rw (skipped.no_label, skipped.no_code) rest.places_are;
    }

names : (labels : List (List ℕ × ℕ)) (text : List ℕ) (texts : List (List ℕ)) (place at : ℕ) (lines : List Line) (places : List ℕ) (defined : List (List ℕ × ℕ)) (name core : List ℕ) → Says text core → IsNamed name core → BodyRead labels texts (place + 1) at lines places defined → BodyRead labels (text ∷ texts) place at lines places ((name, at) ∷ defined)
names labels text texts place at lines places defined name core says named rest =
    let read = says_core text core named.tight says in
    record {
      labels_are = ap (λ c. labels_with c at (labels_of texts at) (labels_of texts (at + 1))) read ∙ rw (named.is_label, named.name_is, rest.labels_are) refl;
      lines_are = ap (λ c. lines_with labels c (lines_of labels texts)) read ∙ rw named.is_label rest.lines_are;
      places_are = ap (λ c. places_with c place (places_of texts (place + 1))) read ∙ rw named.is_label rest.places_are;
    }

codes_line : (labels : List (List ℕ × ℕ)) (text : List ℕ) (texts : List (List ℕ)) (place at : ℕ) (line : Line) (lines : List Line) (places : List ℕ) (defined : List (List ℕ × ℕ)) (core : List ℕ) → Says text core → ReadsLine labels core line → BodyRead labels texts (place + 1) (at + 1) lines places defined → BodyRead labels (text ∷ texts) place at (line ∷ lines) (place ∷ places) defined
codes_line labels text texts place at line program places defined core says reads rest =
    let read = says_core text core reads.tight says in
    record {
      labels_are = ap (λ c. labels_with c at (labels_of texts at) (labels_of texts (at + 1))) read ∙ rw (reads.not_label, reads.code) rest.labels_are;
      lines_are = ap (λ c. lines_with labels c (lines_of labels texts)) read ∙ rw (reads.not_label, reads.code) (ap (λ l. l ∷ lines_of labels texts) reads.line_is ∙ ap (λ ls. line ∷ ls) rest.lines_are);
      places_are = ap (λ c. places_with c place (places_of texts (place + 1))) read ∙ rw (reads.not_label, reads.code) (ap (λ others. place ∷ others) rest.places_are);
    }

-- a line that means nothing says a core that is passed over
nothing_core : {text : List ℕ} → SaysNothing text → (core : List ℕ) × Says text core × IsSkipped core
nothing_core (empty says) = ([], says, nothing_skipped)
nothing_core (section says) = (codes ".text", says, section_skipped)
nothing_core (global core says is) = (core, says, global_skipped core is)

-- texts spell one list of instructions at one list of places, and define one list of labels
pub body_read : (labels : List (List ℕ × ℕ)) (count : ℕ) {texts : List (List ℕ)} {place at : ℕ} {lines : List Line} {places : List ℕ} {defined : List (List ℕ × ℕ)} → AreTextLabels labels → SpellLines labels texts place at lines places defined → FitLines count at lines → BodyRead labels texts place at lines places defined
body_read labels count are end fit = record { labels_are = refl; lines_are = refl; places_are = refl }
body_read labels count are (skip {text} {texts} {place} {at} {program} {places} {defined} nothing rest) fit =
    let core = nothing_core nothing in
    skips labels text texts place at program places defined core.0 core.1 core.2 (body_read labels count are rest fit)
body_read labels count are (label {text} {texts} {place} {at} {program} {places} {defined} name says is rest) fit = names labels text texts place at program places defined name (name ++ codes ":") says (label_named name is) (body_read labels count are rest fit)
body_read labels count are (instruction {text} {texts} {place} {at} {line} {program} {places} {defined} core says spelled rest) fit =
    codes_line labels text texts place at line program places defined core says (line_read labels count at core line are fit.0 spelled) (body_read labels count are rest fit.1)

-- labels have names of labels
pub labels_named : (labels : List (List ℕ × ℕ)) {texts : List (List ℕ)} {place at : ℕ} {lines : List Line} {places : List ℕ} {defined : List (List ℕ × ℕ)} → SpellLines labels texts place at lines places defined → AllByRecursion (λ one. IsLabel one.0) defined
labels_named labels end = tt
labels_named labels (skip nothing rest) = labels_named labels rest
labels_named labels (label name says is rest) = (is, labels_named labels rest)
labels_named labels (instruction core says spelled rest) = labels_named labels rest

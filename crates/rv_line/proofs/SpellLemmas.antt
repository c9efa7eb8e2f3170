-- What is written of a program that fits spells it.
use Rattle.std.proofs.Common.{◌≡◌, ℕ, ◌+◌, ◌<◌, ◌≤◌, ◌^◌, List, [], ◌∷◌, ◌++◌, length, get_or, refl, sym, ap, subst, ◌∙◌, arith, append_assoc, zero-add}
use Rattle.std.specs.Prelude.{◌≢◌, AllPairs, Contains, Option, Some, None, IfSome, codes}
use Rattle.std.specs.Fmt.{decimal}
use Rattle.std.specs.List.{AllByRecursion}
use Rattle.std.specs.Str.Lines.{lines}
use Rattle.std.proofs.lemmas.List.{length-map}
use Rattle.std.proofs.lemmas.List.Elements.{All-from_recursion, Contains-append_right}
use Rattle.std.proofs.lemmas.List.Kept.{AllPairs-cons}
use Rattle.shapes_core.specs.Limits.{most_items, most_words}
use Rattle.rv_line.specs.Emitted.{emitted, as_emitted, emitted_places, header_text, areas_text, lines_text, is_labelled, label_name, target_of}
use Rattle.rv_line.specs.Fits.{Fits}
use Rattle.rv_line.specs.Instructions.{IsGlobal}
use Rattle.rv_line.specs.Parts.{Parts}
use Rattle.rv_line.specs.Spells.{Spells, SpellLines}
use Rattle.rv_line.specs.Spells.SaysNothing.{section, global}
use Rattle.rv_line.specs.Spells.SpellLines.{skip, label}
use Rattle.rv_line.specs.declared.assembly.Header.{Header}
use Rattle.rv_line.specs.declared.line.Line.{Line}
use Rattle.rv_line.proofs.AreaLemmas.{have_rows}
use Rattle.rv_line.proofs.BodyLemmas.{body_lines, labels_defined, label_names, lines_body, spelled_body, targets_defined, labels_differ, IsLater, names_later, HasLabel, Says-itself}
use Rattle.rv_line.proofs.LabelLemmas.{targets_within}
use Rattle.rv_line.proofs.LinesLemmas.{IsPlain, IsPlain-append, lines_more}
use Rattle.rv_line.proofs.NumberLemmas.{IsNumber-decimal, IsPlain-decimal}
use Rattle.rv_line.proofs.RowLemmas.{row, rows, rows_spelled, lines_rows}

-- the lines before those of the instructions
abbrev preamble : List (List ℕ)
preamble = codes ".text" ∷ codes ".globl psi_main" ∷ codes "psi_main:" ∷ []

lines_preamble : (rest : List ℕ) → lines (codes ".text\n.globl psi_main\npsi_main:\n" ++ rest) ≡ preamble ++ lines rest
lines_preamble rest =
    lines_more (codes ".text") (codes ".globl psi_main\npsi_main:\n" ++ rest) (record { plain = refl })
    ∙ ap (λ texts. codes ".text" ∷ texts) (
    lines_more (codes ".globl psi_main") (codes "psi_main:\n" ++ rest) (record { plain = refl })
    ∙ ap (λ texts. codes ".globl psi_main" ∷ texts) (lines_more (codes "psi_main:") rest (record { plain = refl }))
    )

header_grouped : (steps spill rest : List ℕ) → codes "# psi 1\n# steps " ++ steps ++ codes "\n# spill " ++ spill ++ codes "\n" ++ rest ≡ codes "# psi 1" ++ 10 ∷ (codes "# steps " ++ steps ++ 10 ∷ (codes "# spill " ++ spill ++ 10 ∷ rest))
header_grouped steps spill rest = simp append_assoc refl

header_line : (front : List ℕ) (n : ℕ) → n < 2 ^ 64 → IsPlain front → IsPlain (front ++ decimal n)
header_line front n small plain = IsPlain-append {xs = front} {ys = decimal n} plain (IsPlain-decimal n small)

lines_header : (header : Header) (rest : List ℕ) → header.steps < 2 ^ 63 → header.spill ≤ most_words → lines (header_text header ++ rest) ≡ codes "# psi 1" ∷ (codes "# steps " ++ decimal header.steps) ∷ (codes "# spill " ++ decimal header.spill) ∷ lines rest
lines_header header rest steps spill =
    let first = codes "# psi 1" in
    let second = codes "# steps " ++ decimal header.steps in
    let third = codes "# spill " ++ decimal header.spill in
    ap lines (header_grouped (decimal header.steps) (decimal header.spill) rest)
    ∙ lines_more first (second ++ 10 ∷ (third ++ 10 ∷ rest)) (record { plain = refl })
    ∙ ap (λ texts. first ∷ texts) (
    lines_more second (third ++ 10 ∷ rest) (header_line (codes "# steps ") header.steps (omega arith) (record { plain = refl }))
    ∙ ap (λ texts. second ∷ texts) (lines_more third rest (header_line (codes "# spill ") header.spill (omega arith) (record { plain = refl })))
    )

-- the lines of what is written
lines_emitted : (parts : Parts) → Fits parts.header parts.areas parts.lines → lines (emitted parts) ≡ codes "# psi 1" ∷ (codes "# steps " ++ decimal parts.header.steps) ∷ (codes "# spill " ++ decimal parts.header.spill) ∷ (rows parts.header.spill parts.areas ++ (preamble ++ body_lines (is_labelled parts.lines) 0 parts.lines))
lines_emitted parts fits =
    let header = parts.header in
    let areas = parts.areas in
    let program = parts.lines in
    let behind = codes ".text\n.globl psi_main\npsi_main:\n" ++ lines_text (is_labelled program) 0 program in
    ap lines (grouped (header_text header) (areas_text header.spill areas) (codes ".text\n.globl psi_main\npsi_main:\n") (lines_text (is_labelled program) 0 program))
    ∙ lines_header header (areas_text header.spill areas ++ behind) fits.steps fits.spill
    ∙ ap (λ texts. codes "# psi 1" ∷ (codes "# steps " ++ decimal header.steps) ∷ (codes "# spill " ++ decimal header.spill) ∷ texts) (
    lines_rows header.spill areas behind (have_rows parts fits)
    ∙ ap (λ texts. rows header.spill areas ++ texts) (
    lines_preamble (lines_text (is_labelled program) 0 program)
    ∙ ap (λ texts. preamble ++ texts) (lines_body (is_labelled program) (length program) 0 program fits.line_count (zero-add (length program)) fits.in_form)
    )
    )
  where
    grouped : (a b c d : List ℕ) → a ++ b ++ c ++ d ≡ a ++ (b ++ (c ++ d))
    grouped a b c d = append_assoc (a ++ b) c d ∙ append_assoc a b (c ++ d)

-- the labels of what is written
abbrev all_labels : List Line → List (List ℕ × ℕ)
all_labels program = (codes "psi_main", 0) ∷ labels_defined (is_labelled program) 0 program

more_labels : (first : List ℕ × ℕ) (labels : List (List ℕ × ℕ)) (line : Line) → HasLabel labels line → HasLabel (first ∷ labels) line
more_labels first labels line has = known (target_of line) has
  where
    known : (found : Option ℕ) → IfSome found (λ target. Contains labels (label_name target, target)) → IfSome found (λ target. Contains (first ∷ labels) (label_name target, target))
    known None has = tt
    known (Some target) has = Contains-append_right (first ∷ []) labels (label_name target, target) has

all_more_labels : (first : List ℕ × ℕ) (labels : List (List ℕ × ℕ)) (program : List Line) → AllByRecursion (HasLabel labels) program → AllByRecursion (HasLabel (first ∷ labels)) program
all_more_labels first labels [] has = tt
all_more_labels first labels (line ∷ program) has = (more_labels first labels line has.0, all_more_labels first labels program has.1)

-- the program's own label is none of those that have a number
not_numbered : (number : ℕ) → codes "psi_main" ≢ label_name number
not_numbered number e =
    let first : 112 ≡ get_or (label_name number) 0 0 = ap (λ text. get_or text 0 0) e in
    omega arith

main_differs : (names : List (List ℕ)) → AllByRecursion (IsLater 0) names → AllByRecursion (λ name. codes "psi_main" ≢ name) names
main_differs [] later = tt
main_differs (name ∷ names) later =
    ((λ e. not_numbered later.0.number (e ∙ later.0.is)), main_differs names later.1)

labels_all_differ : (program : List Line) → length program ≤ most_items → AllPairs (λ one other. one ≢ other) (label_names (all_labels program))
labels_all_differ program small =
    let names = label_names (labels_defined (is_labelled program) 0 program) in
    AllPairs-cons (λ one other. one ≢ other) (codes "psi_main") names
    (All-from_recursion (λ name. codes "psi_main" ≢ name) names (main_differs names (names_later (is_labelled program) 0 program (omega arith))))
    (labels_differ (is_labelled program) 0 program (omega arith))

global_main : IsGlobal (codes ".globl psi_main")
global_main = record { gap = 32 ∷ []; name = codes "psi_main"; spelled = refl; apart = refl; some = omega arith; label = refl }

-- the preamble has three lines, and the header and the rows are before it
moved : (labels : List (List ℕ × ℕ)) (one other at : ℕ) (texts : List (List ℕ)) (program : List Line) (places : List ℕ) (defined : List (List ℕ × ℕ)) → one ≡ other → SpellLines labels texts one at program places defined → SpellLines labels texts other at program places defined
moved labels one other at texts program places defined is spelled = rw is at spelled

-- what is written spells what it was made of
pub emitted_spells : (parts : Parts) → Fits parts.header parts.areas parts.lines → Spells (emitted parts) (as_emitted parts)
emitted_spells parts fits =
    let program = parts.lines in
    let labels = all_labels program in
    let steps = fits.steps in
    let spill = fits.spill in
    let next : length parts.areas + 7 ≡ length (rows parts.header.spill parts.areas) + 4 + 1 + 1 + 1 =
    omega (arith, length-map parts.areas (λ area. row (parts.header.spill + area.start) area)) in
    record {
      steps = decimal parts.header.steps;
      spill = decimal parts.header.spill;
      rows = rows parts.header.spill parts.areas;
      body = preamble ++ body_lines (is_labelled program) 0 program;
      labels = labels;
      split = lines_emitted parts fits;
      steps_number = IsNumber-decimal parts.header.steps (omega arith);
      steps_small = fits.steps;
      spill_number = IsNumber-decimal parts.header.spill (omega arith);
      spill_small = fits.spill;
      rows_spell = rows_spelled parts.header.spill parts.areas (have_rows parts fits);
      rows_end = refl;
      areas = fits.in_block;
      body_spells =
          skip (section (Says-itself [] (codes ".text") refl)) (
          skip (global (codes ".globl psi_main") (Says-itself [] (codes ".globl psi_main") refl) global_main) (
          label (codes "psi_main") (Says-itself [] (codes "psi_main:") refl) refl (
          moved labels _ _ 0 _ program _ _ next (
          spelled_body labels (is_labelled program) (length program) (length parts.areas + 7) 0 program fits.line_count (zero-add (length program)) fits.in_form (
          all_more_labels (codes "psi_main", 0) (labels_defined (is_labelled program) 0 program) program (
          targets_defined program [] program refl (targets_within (length program) 0 program fits.in_form)
          )
          )
          )
          )
          )
          );
      labels_differ = labels_all_differ program fits.line_count;
      lines_fit = fits.in_form;
    }

-- where the instructions stand as in the emitted text, that is the program itself
pub spelled_as_placed : (text : List ℕ) (parts : Parts) → parts.places ≡ emitted_places parts.areas parts.lines → Spells text (as_emitted parts) → Spells text parts
spelled_as_placed text parts is spells =
    let P : List ℕ → Type 0 = λ places. Spells text (record { header = parts.header; areas = parts.areas; lines = parts.lines; places = places }) in
    subst P (sym is) spells

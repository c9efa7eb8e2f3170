-- Instructions and labels, as they are written, spell the instructions, and the labels that they define all differ.
use Rattle.std.proofs.Common.{◌≡◌, ℕ, ◌+◌, ◌<◌, ◌≤◌, ◌^◌, List, [], ◌∷◌, ◌++◌, length, refl, sym, ap, ◌∙◌, inl, inr, arith, append_assoc, add-zero}
use Rattle.std.specs.Prelude.{Bool, true, false, ◌≢◌, Option, Some, None, IfSome, IsTrue, codes, Contains, AllPairs, map, if◌then◌else◌}
use Rattle.std.specs.Fmt.{decimal}
use Rattle.std.specs.List.{list_all, list_any, AllByRecursion}
use Rattle.std.specs.Str.Lines.{lines}
use Rattle.std.specs.Str.Parse.{AllDigits}
use Rattle.std.proofs.Math.Bool.{or-true}
use Rattle.std.proofs.lemmas.Bool.{cases_eq, le-leb, eq-eqb}
use Rattle.std.proofs.lemmas.Fmt.{decimal_is_IsNumeral, decimal_injective}
use Rattle.std.proofs.lemmas.List.{append-nil}
use Rattle.std.proofs.lemmas.List.Elements.{All-from_recursion, Contains-append_left, Contains-append_right}
use Rattle.std.proofs.lemmas.List.Folds.{list_any-append}
use Rattle.std.proofs.lemmas.List.Kept.{AllPairs-cons}
use Rattle.std.proofs.lemmas.Str.Parse.{digit_from_value}
use Rattle.shapes_core.specs.Limits.{most_items}
use Rattle.rv_line.specs.Emitted.{label_name, label_text, lines_text, instruction_text, target_of, has_target, is_labelled, places_from}
use Rattle.rv_line.specs.Fits.{FitLines}
use Rattle.rv_line.specs.Instructions.{Says, IsLabel, is_label_byte, is_space_or_tab}
use Rattle.rv_line.specs.Labels.{TargetsWithin}
use Rattle.rv_line.specs.Spells.{SpellLines}
use Rattle.rv_line.specs.Spells.SpellLines.{end, label, instruction}
use Rattle.rv_line.specs.declared.line.Line.{Line}
use Rattle.rv_line.proofs.InstructionLemmas.{instruction_spelled, IsPlain-instruction, IsPlain-label_name}
use Rattle.rv_line.proofs.LinesLemmas.{IsPlain-append, lines_more}

-- the line of a label, without its end
abbrev label_lines : Bool → ℕ → List (List ℕ)
label_lines labelled number = if labelled then (label_name number ++ codes ":") ∷ [] else []

-- the lines of instructions and labels
abbrev pub body_lines : (ℕ → Bool) → ℕ → List Line → List (List ℕ)
body_lines labelled at [] = label_lines (labelled at) at
body_lines labelled at (line ∷ lines) = label_lines (labelled at) at ++ (codes "    " ++ instruction_text line) ∷ body_lines labelled (at + 1) lines

-- the label that is defined, if there is one
abbrev label_defined : Bool → ℕ → List (List ℕ × ℕ)
label_defined labelled number = if labelled then (label_name number, number) ∷ [] else []

-- the labels that those lines define
abbrev pub labels_defined : (ℕ → Bool) → ℕ → List Line → List (List ℕ × ℕ)
labels_defined labelled at [] = label_defined (labelled at) at
labels_defined labelled at (line ∷ lines) = label_defined (labelled at) at ++ labels_defined labelled (at + 1) lines

lines_label : (labelled : Bool) (number : ℕ) (rest : List ℕ) → number < 2 ^ 64 → lines (label_text labelled number ++ rest) ≡ label_lines labelled number ++ lines rest
lines_label true number rest small =
    ap lines (append_assoc (label_name number) (58 ∷ 10 ∷ []) rest ∙ sym (append_assoc (label_name number) (58 ∷ []) (10 ∷ rest)))
    ∙ lines_more (label_name number ++ codes ":") rest (IsPlain-append {xs = label_name number} {ys = codes ":"} (IsPlain-label_name number small) (record { plain = refl }))
lines_label false number rest small = refl

-- the lines of the text of instructions and labels
pub lines_body : (labelled : ℕ → Bool) (count at : ℕ) (program : List Line) → count ≤ most_items → at + length program ≡ count → FitLines count at program → lines (lines_text labelled at program) ≡ body_lines labelled at program
lines_body labelled count at [] small is fit =
    ap lines (sym (append-nil (label_text (labelled at) at))) ∙ lines_label (labelled at) at [] (omega arith) ∙ append-nil (label_lines (labelled at) at)
lines_body labelled count at (line ∷ program) small is fit =
    let rest = lines_text labelled (at + 1) program in
    let grouped : lines_text labelled at (line ∷ program) ≡ label_text (labelled at) at ++ (codes "    " ++ instruction_text line ++ 10 ∷ rest) = simp append_assoc refl in
    ap lines grouped
    ∙ lines_label (labelled at) at (codes "    " ++ instruction_text line ++ 10 ∷ rest) (omega arith)
    ∙ ap (λ texts. label_lines (labelled at) at ++ texts) (
    lines_more (codes "    " ++ instruction_text line) rest (IsPlain-append {xs = codes "    "} {ys = instruction_text line} (record { plain = refl }) (IsPlain-instruction count at line small fit.0))
    ∙ ap (λ texts. (codes "    " ++ instruction_text line) ∷ texts) (lines_body labelled count (at + 1) program small (omega arith) fit.1)
    )

-- a line that says what it holds, but for blanks in front
pub Says-itself : (lead core : List ℕ) → IsTrue (list_all is_space_or_tab lead) → Says (lead ++ core) core
Says-itself lead core blanks = record {
  lead = lead;
  trail = [];
  comment = [];
  spelled = ap (λ text. lead ++ text) (sym (append-nil core));
  before = blanks;
  behind = refl;
  ended = tt;
}

digits_label : (text : List ℕ) → AllDigits 10 text → list_all is_label_byte text ≡ true
digits_label [] all = refl
digits_label (byte ∷ bytes) all =
    let range = digit_from_value byte all.0 in
    rw (le-leb 48 byte range.0, le-leb byte 57 range.1, or-true) (digits_label bytes all.1)

IsLabel-label_name : (number : ℕ) → number < 2 ^ 64 → IsLabel (label_name number)
IsLabel-label_name number small = digits_label (decimal number) (decimal_is_IsNumeral number small).0.1

spelled_label : (labels : List (List ℕ × ℕ)) (labelled : Bool) (next at : ℕ) (texts : List (List ℕ)) (program : List Line) (places : List ℕ) (defined : List (List ℕ × ℕ)) → at < 2 ^ 64 → SpellLines labels texts (next + (if labelled then 1 else 0)) at program places defined → SpellLines labels (label_lines labelled at ++ texts) next at program places (label_defined labelled at ++ defined)
spelled_label labels true next at texts program places defined small rest = label (label_name at) (Says-itself [] (label_name at ++ codes ":") refl) (IsLabel-label_name at small) rest
spelled_label labels false next at texts program places defined small rest = rw (add-zero next) at rest

-- where an instruction goes has a label
abbrev pub HasLabel : List (List ℕ × ℕ) → Line → Type 0
HasLabel labels line = IfSome (target_of line) (λ target. Contains labels (label_name target, target))

pub spelled_body : (labels : List (List ℕ × ℕ)) (labelled : ℕ → Bool) (count next at : ℕ) (program : List Line) → count ≤ most_items → at + length program ≡ count → FitLines count at program → AllByRecursion (HasLabel labels) program → SpellLines labels (body_lines labelled at program) next at program (places_from labelled next at program) (labels_defined labelled at program)
spelled_body labels labelled count next at [] small is fit known =
    let alone = spelled_label labels (labelled at) next at [] [] [] [] (omega arith) end in
    rw (append-nil (label_lines (labelled at) at), append-nil (label_defined (labelled at) at)) at alone
spelled_body labels labelled count next at (line ∷ program) small is fit known =
    spelled_label labels (labelled at) next at _ _ _ _ (omega arith) (
    instruction (instruction_text line) (Says-itself (codes "    ") (instruction_text line) refl) (instruction_spelled labels count at line fit.0 known.0) (
    spelled_body labels labelled count (next + (if labelled at then 1 else 0) + 1) (at + 1) program small (omega arith) fit.1 known.1
    )
    )

-- an instruction that has a label has it among those
first_label : (labelled : ℕ → Bool) (at number : ℕ) → labelled number ≡ true → at ≡ number → Contains (label_defined (labelled at) at) (label_name number, number)
first_label labelled at number is same = rw (same, is) (0, omega arith, refl)

contains_label : (labelled : ℕ → Bool) (at : ℕ) (program : List Line) (number : ℕ) → labelled number ≡ true → at ≤ number → number ≤ at + length program → Contains (labels_defined labelled at program) (label_name number, number)
contains_label labelled at [] number is low high = first_label labelled at number is (omega arith)
contains_label labelled at (line ∷ program) number is low high =
    let here = label_defined (labelled at) at in
    let behind = labels_defined labelled (at + 1) program in
    elim (cases_eq at number) [
      | inl same ↦ Contains-append_left here behind (label_name number, number) (first_label labelled at number is same)
      | inr other ↦ Contains-append_right here behind (label_name number, number) (contains_label labelled (at + 1) program number is (omega arith) (omega arith))
    ]

-- an instruction of the program, behind `front`, has its target labelled
target_labelled : (front program : List Line) (line : Line) (target : ℕ) → target_of line ≡ Some target → is_labelled (front ++ line ∷ program) target ≡ true
target_labelled front program line target is =
    rw (list_any-append (has_target target) front (line ∷ program), is, eq-eqb target target refl) (or-true (list_any (has_target target) front))

pub targets_defined : (whole front program : List Line) → whole ≡ front ++ program → TargetsWithin (length whole) program → AllByRecursion (HasLabel (labels_defined (is_labelled whole) 0 whole)) program
targets_defined whole front [] is within = tt
targets_defined whole front (line ∷ program) is within =
    (known (target_of line) refl within.0, targets_defined whole (front ++ line ∷ []) program (is ∙ sym (append_assoc front (line ∷ []) program)) within.1)
  where
    known : (found : Option ℕ) → target_of line ≡ found → IfSome found (λ target. target ≤ length whole) → IfSome found (λ target. Contains (labels_defined (is_labelled whole) 0 whole) (label_name target, target))
    known None same bound = tt
    known (Some target) same bound =
        contains_label (is_labelled whole) 0 whole target (rw is (target_labelled front program line target same)) (omega arith) (omega arith)

-- a label of an instruction from number `low` on
pub record IsLater (low : ℕ) (name : List ℕ) : Type 0 where
  pub number : ℕ
  pub above : low ≤ number
  pub small : number < 2 ^ 64
  pub is : name ≡ label_name number

IsLater-weaker : (low : ℕ) (texts : List (List ℕ)) → AllByRecursion (IsLater (low + 1)) texts → AllByRecursion (IsLater low) texts
IsLater-weaker low [] all = tt
IsLater-weaker low (text ∷ texts) all =
    let above = all.0.above in
    (record { number = all.0.number; above = omega arith; small = all.0.small; is = all.0.is }, IsLater-weaker low texts all.1)

-- the names of labels
abbrev pub label_names : List (List ℕ × ℕ) → List (List ℕ)
label_names labels = map (λ label. label.0) labels

pub names_later : (labelled : ℕ → Bool) (at : ℕ) (program : List Line) → at + length program < 2 ^ 64 → AllByRecursion (IsLater at) (label_names (labels_defined labelled at program))
names_later labelled at [] small = here (labelled at)
  where
    here : (b : Bool) → AllByRecursion (IsLater at) (label_names (label_defined b at))
    here true = (record { number = at; above = omega arith; small = omega arith; is = refl }, tt)
    here false = tt
names_later labelled at (line ∷ program) small = here (labelled at) (IsLater-weaker at _ (names_later labelled (at + 1) program (omega arith)))
  where
    here : (b : Bool) → AllByRecursion (IsLater at) (label_names (labels_defined labelled (at + 1) program)) → AllByRecursion (IsLater at) (label_names (label_defined b at ++ labels_defined labelled (at + 1) program))
    here true rest = (record { number = at; above = omega arith; small = omega arith; is = refl }, rest)
    here false rest = rest

differs : (at : ℕ) (name : List ℕ) → at < 2 ^ 64 → IsLater (at + 1) name → label_name at ≢ name
differs at name small later e =
    let above = later.above in
    let same : label_name at ≡ label_name later.number = e ∙ later.is in
    let numbers : decimal at ≡ decimal later.number = cc in
    let equal : at ≡ later.number = decimal_injective at later.number small later.small numbers in
    omega arith

all_differ : (at : ℕ) (texts : List (List ℕ)) → at < 2 ^ 64 → AllByRecursion (IsLater (at + 1)) texts → AllByRecursion (λ text. label_name at ≢ text) texts
all_differ at [] small later = tt
all_differ at (text ∷ texts) small later = (differs at text small later.0, all_differ at texts small later.1)

pub labels_differ : (labelled : ℕ → Bool) (at : ℕ) (program : List Line) → at + length program < 2 ^ 64 → AllPairs (λ one other. one ≢ other) (label_names (labels_defined labelled at program))
labels_differ labelled at [] small = here (labelled at)
  where
    here : (b : Bool) → AllPairs (λ one other. one ≢ other) (label_names (label_defined b at))
    here true = λ i j d below within. absurd (omega arith)
    here false = λ i j d below within. absurd (omega arith)
labels_differ labelled at (line ∷ program) small = here (labelled at) (labels_differ labelled (at + 1) program (omega arith))
  where
    here : (b : Bool) → AllPairs (λ one other. one ≢ other) (label_names (labels_defined labelled (at + 1) program)) → AllPairs (λ one other. one ≢ other) (label_names (label_defined b at ++ labels_defined labelled (at + 1) program))
    here true rest =
        let names = label_names (labels_defined labelled (at + 1) program) in
        AllPairs-cons (λ one other. one ≢ other) (label_name at) names
        (All-from_recursion (λ text. label_name at ≢ text) names (all_differ at names (omega arith) (names_later labelled (at + 1) program (omega arith))))
        rest
    here false rest = rest

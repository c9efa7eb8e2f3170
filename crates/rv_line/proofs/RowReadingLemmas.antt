-- A row spells at most one area, which is found in the words of the row, and the rows of a text are found by how they begin.
use Rattle.std.proofs.Common.{◌≡◌, ℕ, ◌+◌, ◌-◌, List, [], ◌∷◌, ◌++◌, length, get_or, drop, refl, sym, ap, ◌∙◌, arith, append_assoc}
use Rattle.std.specs.Prelude.{true, ◌&&◌, ◌||◌, ◌==◌, nat_le, not, cond, codes, map}
use Rattle.std.specs.List.{list_all, slice_split, AllByRecursion}
use Rattle.std.specs.Str.Parse.{AllDigits, digits_value}
use Rattle.std.proofs.lemmas.Bool.{le-leb, or_left, or_right}
use Rattle.std.proofs.lemmas.List.{append-nil}
use Rattle.std.proofs.lemmas.List.Splits.{slice_split_none, slice_split_at}
use Rattle.std.proofs.lemmas.Str.Parse.{digit_from_value}
use Rattle.shapes_core.specs.Name.{IsName, is_letter, is_digit, is_name_byte}
use Rattle.shapes_core.specs.declared.area.Area.{Area}
use Rattle.shapes_core.specs.declared.area.AreaKind.{AreaKind}
use Rattle.shapes_core.specs.declared.area.AreaKind.TheVariants.{In, Out, Scan}
use Rattle.rv_line.proofs.RefusalLemmas.{row_begins}
use Rattle.rv_line.specs.Fits.{IsArea, IsNamed}
use Rattle.rv_line.specs.Numbers.{IsNumber, AreNumbers}
use Rattle.rv_line.specs.Rows.{is_row, SpellsKind, SpellsRow, SpellRows, spaced}
use Rattle.rv_line.specs.Spells.{EndsRows}
use Rattle.rv_line.proofs.CutLemmas.{until, until-append, since, since-append, begins, all_apart}
use Rattle.rv_line.proofs.LinesLemmas.{both, all_weaker}

pub all_digits : (text : List ℕ) → AllDigits 10 text → list_all is_digit text ≡ true
all_digits [] all = refl
all_digits (byte ∷ bytes) all =
    let range = digit_from_value byte all.0 in
    rw (le-leb 48 byte range.0, le-leb byte 57 range.1) (all_digits bytes all.1)

all_name_bytes : (name : List ℕ) → IsName name → list_all is_name_byte name ≡ true
all_name_bytes [] is = absurd (cc)
all_name_bytes (first ∷ others) is =
    let bytes = both (is_letter first && list_all is_name_byte others) (nat_le (length others) 63) is in
    let parts = both (is_letter first) (list_all is_name_byte others) bytes.0 in
    rw parts.0 parts.1

-- the parts of a row, at the spaces
abbrev words_of : List ℕ → List (List ℕ)
words_of row = slice_split (λ byte. byte == 32) row

abbrev kind_at : List ℕ → List ℕ → AreaKind
kind_at tag word = cond (length tag == 2) (In word) (cond (length tag == 3) (Out word) (Scan (digits_value 10 word)))

-- the area of these parts, behind so many spill words
abbrev area_at : ℕ → List (List ℕ) → Area
area_at spill words = record {
  kind = kind_at (get_or words 1 []) (get_or words 2 []);
  shape = map (digits_value 10) (drop 4 words);
  start = digits_value 10 (get_or words 3 []) - spill;
}

spaced_words : (first : List ℕ) (extents : List (List ℕ)) (shape : List ℕ) → list_all is_digit first ≡ true → AreNumbers extents shape → words_of (first ++ spaced extents) ≡ first ∷ extents
spaced_words first [] shape digits numbers = ap words_of (append-nil first) ∙ slice_split_none (λ byte. byte == 32) first (all_apart is_digit 32 refl first digits)
spaced_words first (extent ∷ extents) [] digits numbers = absurd numbers
spaced_words first (extent ∷ extents) (number ∷ shape) digits numbers =
    slice_split_at (λ byte. byte == 32) first 32 (extent ++ spaced extents) (all_apart is_digit 32 refl first digits) refl
    ∙ ap (λ words. first ∷ words) (spaced_words extent extents shape (all_digits extent numbers.0.digits.1) numbers.1)

row_words : (word offset : List ℕ) (extents : List (List ℕ)) (shape : List ℕ) → list_all is_name_byte word ≡ true → list_all is_digit offset ≡ true → AreNumbers extents shape → words_of (word ++ 32 ∷ (offset ++ spaced extents)) ≡ word ∷ offset ∷ extents
row_words word offset extents shape named digits numbers =
    slice_split_at (λ byte. byte == 32) word 32 (offset ++ spaced extents) (all_apart is_name_byte 32 refl word named) refl
    ∙ ap (λ words. word ∷ words) (spaced_words offset extents shape digits numbers)

digit_is_name_byte : (text : List ℕ) → list_all is_digit text ≡ true → list_all is_name_byte text ≡ true
digit_is_name_byte = all_weaker is_digit is_name_byte by_byte
  where
    by_byte : (byte : ℕ) → is_digit byte ≡ true → is_name_byte byte ≡ true
    by_byte byte digit = or_left (is_letter byte || is_digit byte) (byte == 95) (or_right (is_letter byte) (is_digit byte) digit)

extents_read : (extents : List (List ℕ)) (shape : List ℕ) → AreNumbers extents shape → map (digits_value 10) extents ≡ shape
extents_read [] [] numbers = refl
extents_read [] (number ∷ shape) numbers = absurd numbers
extents_read (text ∷ extents) [] numbers = absurd numbers
extents_read (text ∷ extents) (number ∷ shape) numbers = rw (numbers.0.value, extents_read extents shape numbers.1) refl

area_same : (kind other : AreaKind) (shape extents : List ℕ) (start word : ℕ) → kind ≡ other → shape ≡ extents → start ≡ word → ◌≡◌ {A = Area} (record { kind = kind; shape = shape; start = start }) (record { kind = other; shape = extents; start = word })
area_same kind other shape extents start word k s w = rw (k, s, w) refl

start_read : (offset : List ℕ) (spill start : ℕ) → IsNumber offset (spill + start) → digits_value 10 offset - spill ≡ start
start_read offset spill start number = rw number.value (omega arith)

-- a row is of one area
row_read : (row : List ℕ) (spill : ℕ) (area : Area) → IsArea area → SpellsRow row (spill + area.start) area → area_at spill (words_of row) ≡ area
row_read row spill area known spells = by_kind area.kind refl known.named spells.kind
  where
    digits : list_all is_digit spells.offset ≡ true
    digits = all_digits spells.offset spells.begins.digits.1

    finish : (tag word : List ℕ) (kind : AreaKind) → area.kind ≡ kind → kind_at tag word ≡ kind → words_of row ≡ codes "#" ∷ tag ∷ word ∷ spells.offset ∷ spells.extents → area_at spill (words_of row) ≡ area
    finish tag word kind is read words =
        ap (area_at spill) words
        ∙ area_same (kind_at tag word) area.kind (map (digits_value 10) spells.extents) area.shape (digits_value 10 spells.offset - spill) area.start (read ∙ sym is) (extents_read spells.extents area.shape spells.shape) (start_read spells.offset spill area.start spells.begins)

    behind : (front word : List ℕ) → spells.front ≡ front ++ word → row ≡ front ++ (word ++ 32 ∷ (spells.offset ++ spaced spells.extents))
    behind front word is = spells.spelled ∙ ap (λ text. text ++ codes " " ++ spells.offset ++ spaced spells.extents) is ∙ simp append_assoc refl

    by_kind : (kind : AreaKind) → area.kind ≡ kind → IsNamed kind → SpellsKind spells.front kind → area_at spill (words_of row) ≡ area
    by_kind (In name) is named front =
        finish (codes "in") name (In name) is refl (
        ap words_of (behind (codes "# in ") name front)
        ∙ ap (λ words. codes "#" ∷ codes "in" ∷ words) (row_words name spells.offset spells.extents area.shape (all_name_bytes name named) digits spells.shape)
        )
    by_kind (Out name) is named front =
        finish (codes "out") name (Out name) is refl (
        ap words_of (behind (codes "# out ") name front)
        ∙ ap (λ words. codes "#" ∷ codes "out" ∷ words) (row_words name spells.offset spells.extents area.shape (all_name_bytes name named) digits spells.shape)
        )
    by_kind (Scan number) is named known =
        finish (codes "scan") known.0 (Scan number) is (ap Scan known.2.value) (
        ap words_of (behind (codes "# scan ") known.0 known.1)
        ∙ ap (λ words. codes "#" ∷ codes "scan" ∷ words) (row_words known.0 spells.offset spells.extents area.shape (digit_is_name_byte known.0 (all_digits known.0 known.2.digits.1)) digits spells.shape)
        )

-- the areas of rows, behind so many spill words
abbrev pub areas_at : ℕ → List (List ℕ) → List Area
areas_at spill rows = map (λ row. area_at spill (words_of row)) rows

pub rows_read : (rows : List (List ℕ)) (spill : ℕ) (areas : List Area) → AllByRecursion IsArea areas → SpellRows rows spill areas → areas_at spill rows ≡ areas
rows_read [] spill [] each spells = refl
rows_read [] spill (area ∷ areas) each spells = absurd spells
rows_read (row ∷ rows) spill [] each spells = absurd spells
rows_read (row ∷ rows) spill (area ∷ areas) each spells = rw (row_read row spill area each.0 spells.0, rows_read rows spill areas each.1 spells.1) refl

are_rows : (rows : List (List ℕ)) (spill : ℕ) (areas : List Area) → SpellRows rows spill areas → list_all (λ row. not (not (is_row row))) rows ≡ true
are_rows [] spill areas spells = refl
are_rows (row ∷ rows) spill [] spells = absurd spells
are_rows (row ∷ rows) spill (area ∷ areas) spells =
    rw (row_begins row (spill + area.start) area spells.0) (are_rows rows spill areas spells.1)

ends_rows : (body : List (List ℕ)) → EndsRows body → begins (λ row. not (is_row row)) body ≡ true
ends_rows [] ends = refl
ends_rows (text ∷ body) ends = rw ends refl

-- the rows are the lines before the first that is none
pub rows_until : (rows body : List (List ℕ)) (spill : ℕ) (areas : List Area) → SpellRows rows spill areas → EndsRows body → until (λ row. not (is_row row)) (rows ++ body) ≡ rows
rows_until rows body spill areas spells ends = until-append (λ row. not (is_row row)) rows body (are_rows rows spill areas spells) (ends_rows body ends)

pub body_since : (rows body : List (List ℕ)) (spill : ℕ) (areas : List Area) → SpellRows rows spill areas → EndsRows body → since (λ row. not (is_row row)) (rows ++ body) ≡ body
body_since rows body spill areas spells ends = since-append (λ row. not (is_row row)) rows body (are_rows rows spill areas spells) (ends_rows body ends)

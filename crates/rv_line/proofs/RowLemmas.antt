-- The rows of areas, as they are written, spell the areas, each in one line.
use Rattle.std.proofs.Common.{◌≡◌, ℕ, ◌+◌, ◌<◌, ◌≤◌, ◌^◌, List, [], ◌∷◌, ◌++◌, refl, ap, ◌∙◌, arith, append_assoc}
use Rattle.std.specs.Prelude.{true, ◌&&◌, codes, map, nat_le, length}
use Rattle.std.specs.Fmt.{decimal}
use Rattle.std.specs.List.{list_all, AllByRecursion}
use Rattle.std.specs.Str.Lines.{lines}
use Rattle.std.proofs.lemmas.Bool.{leb-true, le-leb}
use Rattle.std.proofs.lemmas.Bool.Decides.{nat_tests}
use Rattle.shapes_core.specs.Limits.{greatest_extent}
use Rattle.shapes_core.specs.Name.{IsName, is_letter, is_name_byte}
use Rattle.shapes_core.specs.Shape.{IsShape}
use Rattle.shapes_core.specs.declared.area.Area.{Area}
use Rattle.shapes_core.specs.declared.area.AreaKind.{AreaKind}
use Rattle.shapes_core.specs.declared.area.AreaKind.TheVariants.{In, Out, Scan}
use Rattle.rv_line.specs.Emitted.{kind_text, extents_text, area_text, areas_text}
use Rattle.rv_line.specs.Numbers.{AreNumbers}
use Rattle.rv_line.specs.Rows.{SpellsKind, SpellsRow, SpellRows, spaced}
use Rattle.rv_line.specs.Fits.{IsNamed, IsArea}
use Rattle.rv_line.proofs.LinesLemmas.{IsPlain, IsPlain-append, lines_more, both}
use Rattle.rv_line.proofs.NumberLemmas.{IsNumber-decimal, IsPlain-decimal}

-- the row of an area, without its end
abbrev pub row : ℕ → Area → List ℕ
row offset area = kind_text area.kind ++ codes " " ++ decimal offset ++ extents_text area.shape

abbrev pub rows : ℕ → List Area → List (List ℕ)
rows spill areas = map (λ area. row (spill + area.start) area) areas

-- extents are small numbers
extents_small : (extents : List ℕ) → list_all (λ extent. nat_le extent greatest_extent) extents ≡ true → AllByRecursion (λ extent. extent < 2 ^ 64) extents
extents_small [] small = tt
extents_small (extent ∷ extents) small =
    let parts = both (nat_le extent greatest_extent) (list_all (λ other. nat_le other greatest_extent) extents) small in
    let bound = leb-true extent greatest_extent parts.0 in
    (omega arith, extents_small extents parts.1)

shape_small : (shape : List ℕ) → IsShape shape → AllByRecursion (λ extent. extent < 2 ^ 64) shape
shape_small shape is = extents_small shape (both _ _ (both _ _ is).1).0

extents_numbers : (shape : List ℕ) → AllByRecursion (λ extent. extent < 2 ^ 64) shape → AreNumbers (map decimal shape) shape
extents_numbers [] small = tt
extents_numbers (extent ∷ extents) small = (IsNumber-decimal extent small.0, extents_numbers extents small.1)

spaced_extents : (shape : List ℕ) → extents_text shape ≡ spaced (map decimal shape)
spaced_extents [] = refl
spaced_extents (extent ∷ extents) = ap (λ text. codes " " ++ decimal extent ++ text) (spaced_extents extents)

IsPlain-extents : (shape : List ℕ) → AllByRecursion (λ extent. extent < 2 ^ 64) shape → IsPlain (extents_text shape)
IsPlain-extents [] small = record { plain = refl }
IsPlain-extents (extent ∷ extents) small =
    IsPlain-append {xs = codes " " ++ decimal extent} {ys = extents_text extents}
    (IsPlain-append {xs = codes " "} {ys = decimal extent} (record { plain = refl }) (IsPlain-decimal extent small.0))
    (IsPlain-extents extents small.1)

-- the number of a scan is below this one
abbrev pub IsBelow : ℕ → AreaKind → Type 0
IsBelow most (In name) = Unit {0}
IsBelow most (Out name) = Unit {0}
IsBelow most (Scan number) = number < most

-- what is known of an area whose row is written
pub record HasRow (spill : ℕ) (area : Area) : Type 0 where
  pub is : IsArea area
  pub scan : IsBelow (2 ^ 32) area.kind
  pub offset : spill + area.start < 2 ^ 64

kind_spelled : (kind : AreaKind) → IsBelow (2 ^ 32) kind → SpellsKind (kind_text kind) kind
kind_spelled (In name) below = refl
kind_spelled (Out name) below = refl
kind_spelled (Scan number) below = (decimal number, refl, IsNumber-decimal number (omega arith))

letter_large : (byte : ℕ) → is_letter byte ≡ true → 32 ≤ byte
letter_large byte is = grind (arith, nat_tests)

name_byte_large : (byte : ℕ) → is_name_byte byte ≡ true → 32 ≤ byte
name_byte_large byte is = grind (arith, nat_tests)

IsPlain-name_bytes : (bytes : List ℕ) → list_all is_name_byte bytes ≡ true → IsPlain bytes
IsPlain-name_bytes [] all = record { plain = refl }
IsPlain-name_bytes (byte ∷ bytes) all =
    let parts = both (is_name_byte byte) (list_all is_name_byte bytes) all in
    record { plain = rw (le-leb 32 byte (name_byte_large byte parts.0)) (IsPlain-name_bytes bytes parts.1).plain }

IsPlain-name : (name : List ℕ) → IsName name → IsPlain name
IsPlain-name [] is = record { plain = refl }
IsPlain-name (first ∷ others) is =
    let parts = both (is_letter first && list_all is_name_byte others) (nat_le (length others) 63) is in
    let front = both (is_letter first) (list_all is_name_byte others) parts.0 in
    record { plain = rw (le-leb 32 first (letter_large first front.0)) (IsPlain-name_bytes others front.1).plain }

IsPlain-kind : (kind : AreaKind) → IsNamed kind → IsBelow (2 ^ 32) kind → IsPlain (kind_text kind)
IsPlain-kind (In name) is below = IsPlain-append {xs = codes "# in "} {ys = name} (record { plain = refl }) (IsPlain-name name is)
IsPlain-kind (Out name) is below = IsPlain-append {xs = codes "# out "} {ys = name} (record { plain = refl }) (IsPlain-name name is)
IsPlain-kind (Scan number) is below = IsPlain-append {xs = codes "# scan "} {ys = decimal number} (record { plain = refl }) (IsPlain-decimal number (omega arith))

row_spelled : (spill : ℕ) (area : Area) → HasRow spill area → SpellsRow (row (spill + area.start) area) (spill + area.start) area
row_spelled spill area has = record {
  front = kind_text area.kind;
  offset = decimal (spill + area.start);
  extents = map decimal area.shape;
  spelled = ap (λ text. kind_text area.kind ++ codes " " ++ decimal (spill + area.start) ++ text) (spaced_extents area.shape);
  kind = kind_spelled area.kind has.scan;
  begins = IsNumber-decimal (spill + area.start) has.offset;
  shape = extents_numbers area.shape (shape_small area.shape has.is.shaped);
}

IsPlain-row : (spill : ℕ) (area : Area) → HasRow spill area → IsPlain (row (spill + area.start) area)
IsPlain-row spill area has =
    IsPlain-append {xs = kind_text area.kind ++ codes " " ++ decimal (spill + area.start)} {ys = extents_text area.shape}
    (IsPlain-append {xs = kind_text area.kind ++ codes " "} {ys = decimal (spill + area.start)}
    (IsPlain-append {xs = kind_text area.kind} {ys = codes " "} (IsPlain-kind area.kind has.is.named has.scan) (record { plain = refl }))
    (IsPlain-decimal (spill + area.start) has.offset))
    (IsPlain-extents area.shape (shape_small area.shape has.is.shaped))

pub rows_spelled : (spill : ℕ) (areas : List Area) → AllByRecursion (HasRow spill) areas → SpellRows (rows spill areas) spill areas
rows_spelled spill [] all = tt
rows_spelled spill (area ∷ areas) all = (row_spelled spill area all.0, rows_spelled spill areas all.1)

pub lines_rows : (spill : ℕ) (areas : List Area) (rest : List ℕ) → AllByRecursion (HasRow spill) areas → lines (areas_text spill areas ++ rest) ≡ rows spill areas ++ lines rest
lines_rows spill [] rest all = refl
lines_rows spill (area ∷ areas) rest all =
    ap lines (append_assoc (area_text (spill + area.start) area) (areas_text spill areas) rest ∙ append_assoc (row (spill + area.start) area) (10 ∷ []) (areas_text spill areas ++ rest))
    ∙ lines_more (row (spill + area.start) area) (areas_text spill areas ++ rest) (IsPlain-row spill area all.0)
    ∙ ap (λ texts. row (spill + area.start) area ∷ texts) (lines_rows spill areas rest all.1)

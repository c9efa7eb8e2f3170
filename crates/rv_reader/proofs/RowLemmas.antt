-- The row of an area is read as that area, and spells the area that is read of it.
use Rattle.std.proofs.Common.{◌≡◌, ℕ, ◌+◌, List, [], ◌∷◌, ◌++◌, length, refl, sym, ap, ◌∙◌, append_assoc}
use Rattle.std.specs.Prelude.{Bool, true, false, ◌&&◌, ◌||◌, ◌==◌, nat_le, cond, codes}
use Rattle.std.specs.List.{list_all, slice_split, join_with_byte}
use Rattle.std.specs.declared.option.Option.{Option}
use Rattle.std.specs.declared.option.Option.TheVariants.{None, Some}
use Rattle.std.proofs.lemmas.Bool.{and_parts, eq-eqb, eqb-true, or_left, or_right}
use Rattle.std.proofs.lemmas.List.{append-nil}
use Rattle.std.proofs.lemmas.List.Splits.{slice_split_none, slice_split_at, join_with_byte-slice_split}
use Rattle.shapes_core.specs.Name.{is_name, IsName, is_letter, is_digit, is_name_byte}
use Rattle.shapes_core.specs.declared.area.Area.{Area}
use Rattle.shapes_core.specs.declared.area.AreaKind.{AreaKind}
use Rattle.shapes_core.specs.declared.area.AreaKind.TheVariants.{In, Out, Scan}
use Rattle.rv_line.specs.Fits.{IsArea, IsNamed}
use Rattle.rv_line.specs.Numbers.{IsNumber, AreNumbers}
use Rattle.rv_line.specs.Rows.{SpellsKind, SpellsRow, spaced}
use Rattle.rv_reader.specs.AreaRows.{both_of, numbers_of, named, numbered, kind_of, area_from, area_of_parts, area_of}
use Rattle.rv_reader.specs.Cuts.{same}
use Rattle.rv_reader.specs.Operands.{number_of}
use Rattle.rv_reader.proofs.CutLemmas.{same_true, all_weaker}
use Rattle.rv_reader.proofs.OperandLemmas.{all_digits, some_same, some_from, none_not_some, number_is, is_number_of}
use Rattle.rv_reader.proofs.SplitLemmas.{all_apart}

numbers_are : (texts : List (List ℕ)) (numbers : List ℕ) → AreNumbers texts numbers → numbers_of texts ≡ Some numbers
numbers_are [] [] are = refl
numbers_are [] (number ∷ numbers) are = absurd are
numbers_are (text ∷ texts) [] are = absurd are
numbers_are (text ∷ texts) (number ∷ numbers) are =
    ap (λ first. both_of first (numbers_of texts)) (number_is text number are.0) ∙ ap (both_of (Some number)) (numbers_are texts numbers are.1)

are_numbers : (texts : List (List ℕ)) (numbers : List ℕ) → numbers_of texts ≡ Some numbers → AreNumbers texts numbers
are_numbers [] numbers found = rw (sym (some_same found)) tt
are_numbers (text ∷ texts) numbers found = by_both (are_numbers texts) (number_of text) (numbers_of texts) refl refl found
  where
    by_both : ((others : List ℕ) → numbers_of texts ≡ Some others → AreNumbers texts others) → (one : Option ℕ) (more : Option (List ℕ)) → number_of text ≡ one → numbers_of texts ≡ more → both_of one more ≡ Some numbers → AreNumbers (text ∷ texts) numbers
    by_both later None more a b h = absurd (none_not_some h)
    by_both later (Some number) None a b h = absurd (none_not_some h)
    by_both later (Some number) (Some others) a b h = rw (sym (some_same h)) (is_number_of text number a, later others b)

all_name_bytes : (name : List ℕ) → IsName name → list_all is_name_byte name ≡ true
all_name_bytes [] is = absurd (cc)
all_name_bytes (first ∷ others) is =
    let bytes = and_parts (is_letter first && list_all is_name_byte others) (nat_le (length others) 63) is in
    let parts = and_parts (is_letter first) (list_all is_name_byte others) bytes.0 in
    rw parts.0 parts.1

digit_is_name_byte : (text : List ℕ) → list_all is_digit text ≡ true → list_all is_name_byte text ≡ true
digit_is_name_byte = all_weaker is_digit is_name_byte by_byte
  where
    by_byte : (byte : ℕ) → is_digit byte ≡ true → is_name_byte byte ≡ true
    by_byte byte digit = or_left (is_letter byte || is_digit byte) (byte == 95) (or_right (is_letter byte) (is_digit byte) digit)

-- the parts of a row, at the spaces
abbrev parts_in : List ℕ → List (List ℕ)
parts_in row = slice_split (λ byte. byte == 32) row

spaced_parts : (first : List ℕ) (extents : List (List ℕ)) (shape : List ℕ) → list_all is_digit first ≡ true → AreNumbers extents shape → parts_in (first ++ spaced extents) ≡ first ∷ extents
spaced_parts first [] shape digits numbers = ap parts_in (append-nil first) ∙ slice_split_none (λ byte. byte == 32) first (all_apart is_digit 32 refl first digits)
spaced_parts first (extent ∷ extents) [] digits numbers = absurd numbers
spaced_parts first (extent ∷ extents) (number ∷ shape) digits numbers =
    slice_split_at (λ byte. byte == 32) first 32 (extent ++ spaced extents) (all_apart is_digit 32 refl first digits) refl
    ∙ ap (λ parts. first ∷ parts) (spaced_parts extent extents shape (all_digits extent numbers.0.digits.1) numbers.1)

row_parts : (word offset : List ℕ) (extents : List (List ℕ)) (shape : List ℕ) → list_all is_name_byte word ≡ true → list_all is_digit offset ≡ true → AreNumbers extents shape → parts_in (word ++ 32 ∷ (offset ++ spaced extents)) ≡ word ∷ offset ∷ extents
row_parts word offset extents shape name digits numbers =
    slice_split_at (λ byte. byte == 32) word 32 (offset ++ spaced extents) (all_apart is_name_byte 32 refl word name) refl
    ∙ ap (λ parts. word ∷ parts) (spaced_parts offset extents shape digits numbers)

found_area : (spill : ℕ) (area : Area) (kind : Option AreaKind) (offset : Option ℕ) (shape : Option (List ℕ)) → kind ≡ Some area.kind → offset ≡ Some (spill + area.start) → shape ≡ Some area.shape → area_from spill area.start kind offset shape ≡ Some area
found_area spill area kind offset shape a b c =
    let same_place : (spill + area.start == spill + area.start) ≡ true = eq-eqb (spill + area.start) (spill + area.start) refl in
    rw (a, b, c) (rw same_place refl)

-- a row is read as its area
pub area_is : (row : List ℕ) (spill : ℕ) (area : Area) → IsArea area → SpellsRow row (spill + area.start) area → area_of spill area.start row ≡ Some area
area_is row spill area known spells = by_kind area.kind refl known.named spells.kind
  where
    digits : list_all is_digit spells.offset ≡ true
    digits = all_digits spells.offset spells.begins.digits.1

    finish : (tag word : List ℕ) (kind : AreaKind) → area.kind ≡ kind → kind_of tag word ≡ Some kind → parts_in row ≡ codes "#" ∷ tag ∷ word ∷ spells.offset ∷ spells.extents → area_of spill area.start row ≡ Some area
    finish tag word kind is read parts =
        ap (area_of_parts spill area.start) parts
        ∙ found_area spill area (kind_of tag word) (number_of spells.offset) (numbers_of spells.extents) (read ∙ ap (λ k. Some k) (sym is)) (number_is spells.offset (spill + area.start) spells.begins) (numbers_are spells.extents area.shape spells.shape)

    behind : (front word : List ℕ) → spells.front ≡ front ++ word → row ≡ front ++ (word ++ 32 ∷ (spells.offset ++ spaced spells.extents))
    behind front word is = spells.spelled ∙ ap (λ text. text ++ codes " " ++ spells.offset ++ spaced spells.extents) is ∙ simp append_assoc refl

    by_kind : (kind : AreaKind) → area.kind ≡ kind → IsNamed kind → SpellsKind spells.front kind → area_of spill area.start row ≡ Some area
    by_kind (In name) is name_is front =
        finish (codes "in") name (In name) is (rw name_is refl) (
        ap parts_in (behind (codes "# in ") name front)
        ∙ ap (λ parts. codes "#" ∷ codes "in" ∷ parts) (row_parts name spells.offset spells.extents area.shape (all_name_bytes name name_is) digits spells.shape)
        )
    by_kind (Out name) is name_is front =
        finish (codes "out") name (Out name) is (rw name_is refl) (
        ap parts_in (behind (codes "# out ") name front)
        ∙ ap (λ parts. codes "#" ∷ codes "out" ∷ parts) (row_parts name spells.offset spells.extents area.shape (all_name_bytes name name_is) digits spells.shape)
        )
    by_kind (Scan number) is name_is known =
        finish (codes "scan") known.0 (Scan number) is (ap numbered (number_is known.0 number known.2)) (
        ap parts_in (behind (codes "# scan ") known.0 known.1)
        ∙ ap (λ parts. codes "#" ∷ codes "scan" ∷ parts) (row_parts known.0 spells.offset spells.extents area.shape (digit_is_name_byte known.0 (all_digits known.0 known.2.digits.1)) digits spells.shape)
        )

-- what is read of a tag and a word
record IsKind (tag word : List ℕ) (kind : AreaKind) : Type 0 where
  front : SpellsKind (35 ∷ 32 ∷ (tag ++ 32 ∷ word)) kind
  name : IsNamed kind

named_back : (form : List ℕ → AreaKind) (word : List ℕ) (kind : AreaKind) → named form word ≡ Some kind → IsName word × (form word ≡ kind)
named_back form word kind h = some_from (is_name word) (form word) kind h

numbered_back : (word : List ℕ) (kind : AreaKind) → numbered (number_of word) ≡ Some kind → (number : ℕ) × IsNumber word number × (Scan number ≡ kind)
numbered_back word kind h = by_number (number_of word) refl h
  where
    by_number : (number : Option ℕ) → number_of word ≡ number → numbered number ≡ Some kind → (n : ℕ) × IsNumber word n × (Scan n ≡ kind)
    by_number None is found = absurd (none_not_some found)
    by_number (Some number) is found = (number, is_number_of word number is, some_same found)

kind_back : (tag word : List ℕ) (kind : AreaKind) → kind_of tag word ≡ Some kind → IsKind tag word kind
kind_back tag word kind found = by_tag (same tag (codes "in")) (same tag (codes "out")) (same tag (codes "scan")) refl refl refl found
  where
    by_tag : (input output scan : Bool) → same tag (codes "in") ≡ input → same tag (codes "out") ≡ output → same tag (codes "scan") ≡ scan
        → cond input (named (λ name. In name) word) (cond output (named (λ name. Out name) word) (cond scan (numbered (number_of word)) None)) ≡ Some kind → IsKind tag word kind
    by_tag true output scan a b c h =
        let is = named_back (λ name. In name) word kind h in
        rw (same_true tag (codes "in") a, sym is.1) (record { front = refl; name = is.0 })
    by_tag false true scan a b c h =
        let is = named_back (λ name. Out name) word kind h in
        rw (same_true tag (codes "out") b, sym is.1) (record { front = refl; name = is.0 })
    by_tag false false true a b c h =
        let is = numbered_back word kind h in
        rw (same_true tag (codes "scan") c, sym is.2) (record { front = (word, refl, is.1); name = tt })
    by_tag false false false a b c h = absurd (none_not_some h)

spaced_join : (first : List ℕ) (extents : List (List ℕ)) → join_with_byte 32 (first ∷ extents) ≡ first ++ spaced extents
spaced_join first [] = sym (append-nil first)
spaced_join first (extent ∷ extents) = ap (λ t. first ++ 32 ∷ t) (spaced_join extent extents)

regrouped : (tag word offset tail : List ℕ) → 35 ∷ 32 ∷ (tag ++ 32 ∷ (word ++ 32 ∷ (offset ++ tail))) ≡ (35 ∷ 32 ∷ (tag ++ 32 ∷ word)) ++ codes " " ++ offset ++ tail
regrouped tag word offset tail = simp append_assoc refl

-- what is read of a row
pub record IsRow (row : List ℕ) (spill start : ℕ) (area : Area) : Type 0 where
  pub spells : SpellsRow row (spill + start) area
  pub named : IsNamed area.kind
  pub starts : area.start ≡ start

from_parts : (row : List ℕ) (spill start : ℕ) (area : Area) (mark tag word offset : List ℕ) (extents : List (List ℕ)) → row ≡ join_with_byte 32 (mark ∷ tag ∷ word ∷ offset ∷ extents) → area_of_parts spill start (mark ∷ tag ∷ word ∷ offset ∷ extents) ≡ Some area → IsRow row spill start area
from_parts row spill start area mark tag word offset extents joined found = by_mark (same mark (codes "#")) refl found
  where
    by_parts : (kind : Option AreaKind) (n : Option ℕ) (shape : Option (List ℕ)) → mark ≡ codes "#" → kind_of tag word ≡ kind → number_of offset ≡ n → numbers_of extents ≡ shape → area_from spill start kind n shape ≡ Some area → IsRow row spill start area
    by_parts None n shape m a b c h = absurd (none_not_some h)
    by_parts (Some kind) None shape m a b c h = absurd (none_not_some h)
    by_parts (Some kind) (Some n) None m a b c h = absurd (none_not_some h)
    by_parts (Some kind) (Some n) (Some shape) m a b c h =
        let at = some_from (n == spill + start) (record { kind = kind; shape = shape; start = start }) area h in
        let is = kind_back tag word kind a in
        let begins : IsNumber offset (spill + start) = is_number_of offset (spill + start) (b ∙ ap (λ k. Some k) (eqb-true n (spill + start) at.0)) in
        let whole : row ≡ (35 ∷ 32 ∷ (tag ++ 32 ∷ word)) ++ codes " " ++ offset ++ spaced extents =
        joined
        ∙ ap (λ t. t ++ 32 ∷ (tag ++ 32 ∷ (word ++ 32 ∷ join_with_byte 32 (offset ∷ extents)))) m
        ∙ ap (λ t. 35 ∷ 32 ∷ (tag ++ 32 ∷ (word ++ 32 ∷ t))) (spaced_join offset extents)
        ∙ regrouped tag word offset (spaced extents) in
        rw (sym at.1) (record {
          spells = record {
            front = 35 ∷ 32 ∷ (tag ++ 32 ∷ word);
            offset = offset;
            extents = extents;
            spelled = whole;
            kind = is.front;
            begins = begins;
            shape = are_numbers extents shape c;
          };
          named = is.name;
          starts = refl;
        })

    by_mark : (b : Bool) → same mark (codes "#") ≡ b → cond b (area_from spill start (kind_of tag word) (number_of offset) (numbers_of extents)) None ≡ Some area → IsRow row spill start area
    by_mark true is h = by_parts (kind_of tag word) (number_of offset) (numbers_of extents) (same_true mark (codes "#") is) refl refl refl h
    by_mark false is h = absurd (none_not_some h)

pub area_back : (row : List ℕ) (spill start : ℕ) (area : Area) → area_of spill start row ≡ Some area → IsRow row spill start area
area_back row spill start area found = by_list (parts_in row) (sym (join_with_byte-slice_split 32 row)) found
  where
    by_list : (parts : List (List ℕ)) → row ≡ join_with_byte 32 parts → area_of_parts spill start parts ≡ Some area → IsRow row spill start area
    by_list [] joined h = absurd (none_not_some h)
    by_list (mark ∷ []) joined h = absurd (none_not_some h)
    by_list (mark ∷ tag ∷ []) joined h = absurd (none_not_some h)
    by_list (mark ∷ tag ∷ word ∷ []) joined h = absurd (none_not_some h)
    by_list (mark ∷ tag ∷ word ∷ offset ∷ extents) joined h = from_parts row spill start area mark tag word offset extents joined h

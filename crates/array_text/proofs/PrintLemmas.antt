-- Rows and their lines.
use Rattle.std.proofs.Common.{◌≡◌, ℕ, zero, suc, ◌+◌, ◌-◌, ◌<◌, ℤ, min, List, [], ◌∷◌, ◌++◌, length, map, take, drop, refl, sym, ap, ◌∙◌, arith, append_assoc}
use Rattle.std.proofs.lemmas.List.{append-nil}
use Rattle.std.specs.Fmt.{signed_decimal}
use Rattle.std.specs.List.{flat_map, join_with_byte}
use Rattle.array_text.specs.Printed.{row_line, row_lines}

-- texts with a blank between two are the first and then the others with a blank before each
pub joined : (first : List ℕ) (others : List ℤ)
    → join_with_byte 32 (first ∷ map signed_decimal others) ≡ first ++ flat_map (λ value. 32 ∷ signed_decimal value) others
joined first [] = sym (append-nil first)
joined first (next ∷ others) = ap (λ text. first ++ 32 ∷ text) (joined (signed_decimal next) others)

-- numbers that are printed with a blank between two
pub entries_printed : (out : List ℕ) (numbers : List ℤ) (first given : ℤ) (others : List ℤ) → given ≡ first → numbers ≡ first ∷ others
    → (out ++ signed_decimal given) ++ flat_map (λ value. 32 ∷ signed_decimal value) others ≡ out ++ join_with_byte 32 (map signed_decimal numbers)
entries_printed out numbers first given others same e =
    rw (same, e) (append_assoc out (signed_decimal first) _ ∙ ap (λ text. out ++ text) (sym (joined (signed_decimal first) others)))

pub row_lines_more : (count row width : ℕ) (values : List ℤ) → row < count
    → row_lines (count - row) width values ≡ row_line (take width values) ++ row_lines (count - (row + 1)) width (drop width values)
row_lines_more count row width values there =
    let e : count - row ≡ suc (count - (row + 1)) = omega arith in rw e refl

min_less : (width count : ℕ) → min (suc width) (suc count) ≡ suc (min width count)
min_less width count = omega arith

min_none : (width : ℕ) → min width 0 ≡ 0
min_none width = omega arith

none_min : (count : ℕ) → min 0 count ≡ 0
none_min count = omega arith

pub take_min : (width : ℕ) (values : List ℤ) → take (min width (length values)) values ≡ take width values
take_min zero values = ap (λ count. take count values) (none_min (length values))
take_min (suc width) [] = ap (λ count. take {A = ℤ} count []) (min_none (suc width))
take_min (suc width) (first ∷ others) =
    ap (λ count. take count (first ∷ others)) (min_less width (length others)) ∙ ap (λ values. first ∷ values) (take_min width others)

pub drop_min : (width : ℕ) (values : List ℤ) → drop (min width (length values)) values ≡ drop width values
drop_min zero values = ap (λ count. drop count values) (none_min (length values))
drop_min (suc width) [] = ap (λ count. drop {A = ℤ} count []) (min_none (suc width))
drop_min (suc width) (first ∷ others) = ap (λ count. drop count (first ∷ others)) (min_less width (length others)) ∙ drop_min width others

-- one row more is printed
pub row_printed : (out longer whole : List ℕ) (front rest others : List ℤ) (count row width cut : ℕ) → row < count → cut ≡ min width (length rest)
    → front ≡ take cut rest → others ≡ drop cut rest → longer ≡ out ++ row_line front
    → out ++ row_lines (count - row) width rest ≡ whole
    → longer ++ row_lines (count - (row + 1)) width others ≡ whole
row_printed out longer whole front rest others count row width cut there e taken left added so_far =
    let a : front ≡ take width rest = taken ∙ ap (λ n. take n rest) e ∙ take_min width rest in
    let b : others ≡ drop width rest = left ∙ ap (λ n. drop n rest) e ∙ drop_min width rest in
    ap (λ text. text ++ row_lines (count - (row + 1)) width others) (added ∙ ap (λ values. out ++ row_line values) a)
    ∙ ap (λ values. (out ++ row_line (take width rest)) ++ row_lines (count - (row + 1)) width values) b
    ∙ append_assoc out (row_line (take width rest)) (row_lines (count - (row + 1)) width (drop width rest))
    ∙ ap (λ text. out ++ text) (sym (row_lines_more count row width rest there))
    ∙ so_far

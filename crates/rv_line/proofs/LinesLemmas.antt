-- Tests that are joined, and texts with no control character, each of which is one line in front of the lines behind it.
use Rattle.std.proofs.Common.{◌≡◌, ℕ, suc, zero, ◌-◌, ◌≤◌, List, [], ◌∷◌, ◌++◌, length, get_or, refl, ap, ◌∙◌, arith}
use Rattle.std.specs.Prelude.{Bool, true, false, ◌&&◌, ◌==◌, nat_le, All, cond, slice_index}
use Rattle.std.specs.List.{list_all, slice_split, onto_first}
use Rattle.std.specs.Str.Lines.{lines, lines_of_parts, strip_carriage_return}
use Rattle.std.proofs.lemmas.Bool.{leb-true, ne_eqb}
use Rattle.std.proofs.lemmas.List.Elements.{All-nil, All-cons}
use Rattle.std.proofs.lemmas.List.Folds.{list_all-append}
use Rattle.std.proofs.lemmas.List.Splits.{slice_split_at}

-- no byte is a control character, so that a line is kept whole
abbrev pub is_plain : List ℕ → Bool
is_plain text = list_all (λ byte. nat_le 32 byte) text

pub record IsPlain (text : List ℕ) : Type 0 where
  pub plain : is_plain text ≡ true

pub IsPlain-append : {xs ys : List ℕ} → IsPlain xs → IsPlain ys → IsPlain (xs ++ ys)
IsPlain-append {xs} {ys} first second =
    record { plain = rw (list_all-append (λ byte. nat_le 32 byte) xs ys, first.plain) second.plain }

pub both : (a b : Bool) → (a && b) ≡ true → (a ≡ true) × (b ≡ true)
both true b h = (refl, h)
both false b h = absurd (cc)

-- where each byte passes one test, it passes another that follows
pub all_weaker : (p q : ℕ → Bool) → ((b : ℕ) → p b ≡ true → q b ≡ true) → (text : List ℕ) → list_all p text ≡ true → list_all q text ≡ true
all_weaker p q follows [] all = refl
all_weaker p q follows (b ∷ text) all =
    let parts = both (p b) (list_all p text) all in
    rw (follows b parts.0) (all_weaker p q follows text parts.1)

plain_cons : (x : ℕ) (xs : List ℕ) → IsPlain (x ∷ xs) → (32 ≤ x) × IsPlain xs
plain_cons x xs p =
    let parts = both (nat_le 32 x) (is_plain xs) p.plain in
    (leb-true 32 x parts.0, record { plain = parts.1 })

no_line_feed : (xs : List ℕ) → IsPlain xs → All (λ x. (x == 10) ≡ false) xs
no_line_feed [] p = All-nil (λ x. (x == 10) ≡ false)
no_line_feed (x ∷ xs) p =
    let parts = plain_cons x xs p in
    let large : 32 ≤ x = parts.0 in
    All-cons (λ y. (y == 10) ≡ false) x xs (ne_eqb x 10 (λ e. omega arith)) (no_line_feed xs parts.1)

no_return : (xs : List ℕ) (k : ℕ) → IsPlain xs → get_or xs k 0 ≡ 13 → ⊥
no_return [] k p e = omega arith
no_return (x ∷ xs) zero p e =
    let large : 32 ≤ x = (plain_cons x xs p).0 in
    omega arith
no_return (x ∷ xs) (suc k) p e = no_return xs k (plain_cons x xs p).1 e

kept : (line : List ℕ) → IsPlain line → strip_carriage_return line ≡ line
kept line p =
    rw (ne_eqb (slice_index line (length line - 1)) 13 (no_return line (length line - 1) p)) refl

-- at least one part
split_some : (bytes : List ℕ) → (first : List ℕ) × (more : List (List ℕ)) × (slice_split (λ b. b == 10) bytes ≡ first ∷ more)
split_some [] = ([], [], refl)
split_some (byte ∷ bytes) =
    let parts = split_some bytes in
    some (byte == 10) parts.0 parts.1 parts.2
  where
    some : (b : Bool) (first : List ℕ) (more : List (List ℕ)) → slice_split (λ b. b == 10) bytes ≡ first ∷ more → (first : List ℕ) × (more : List (List ℕ)) × (cond b ([] ∷ slice_split (λ b. b == 10) bytes) (onto_first byte (slice_split (λ b. b == 10) bytes)) ≡ first ∷ more)
    some true first more e = ([], slice_split (λ b. b == 10) bytes, refl)
    some false first more e = (byte ∷ first, more, ap (onto_first byte) e)

-- a line, and what stands behind it
pub lines_more : (line rest : List ℕ) → IsPlain line → lines (line ++ 10 ∷ rest) ≡ line ∷ lines rest
lines_more line rest p =
    let parts = split_some rest in
    ap lines_of_parts (slice_split_at (λ b. b == 10) line 10 rest (no_line_feed line p) refl)
    ∙ rw parts.2 (ap (λ l. l ∷ lines_of_parts (parts.0 ∷ parts.1)) (kept line p))

-- Cuts and searches by places, as loops make them, and the parts of a list one after the other.
use Rattle.std.proofs.Common.{◌≡◌, ℕ, suc, ◌+◌, ◌<◌, ◌≤◌, List, [], ◌∷◌, ◌++◌, length, get_or, take, drop, refl, sym, ap, ◌∙◌, arith}
use Rattle.std.specs.Prelude.{Bool, true, false, not, ◌&&◌, ◌==◌, cond, map}
use Rattle.std.specs.List.{list_all, onto_first, position_or_len, slice_split}
use Rattle.std.proofs.Math.Bool.{and-true}
use Rattle.std.proofs.lemmas.Bool.{and_right}
use Rattle.std.proofs.lemmas.List.{take_more}
use Rattle.std.proofs.lemmas.List.Folds.{list_all-append}
use Rattle.rv_line.specs.Instructions.{is_space_or_tab}
use Rattle.std.proofs.Common.{drop-cons}
use Rattle.std.specs.declared.option.Option.TheVariants.{Some}
use Rattle.rv_reader.specs.Cuts.{cut_operands, same, trimmed, until, since, without_trail}
use Rattle.rv_reader.specs.Forms.{form_among, mnemonic_of}
use Rattle.rv_reader.specs.declared.form.Form.{Form}

one_more : (n : ℕ) → 1 + n ≡ suc n
one_more n = omega arith

-- what stands before the first item that passes, by its length
pub until_len : (test : ℕ → Bool) (items : List ℕ) → take (position_or_len test items) items ≡ until test items
until_len test [] = refl
until_len test (item ∷ items) = by_test (test item) (until_len test items)
  where
    by_test : (b : Bool) → take (position_or_len test items) items ≡ until test items → take (cond (not b) (1 + position_or_len test items) 0) (item ∷ items) ≡ cond b [] (item ∷ until test items)
    by_test true e = refl
    by_test false e = ap (λ k. take k (item ∷ items)) (one_more (position_or_len test items)) ∙ ap (λ t. item ∷ t) e

pub since_len : (test : ℕ → Bool) (items : List ℕ) → drop (position_or_len test items) items ≡ since test items
since_len test [] = refl
since_len test (item ∷ items) = by_test (test item) (since_len test items)
  where
    by_test : (b : Bool) → drop (position_or_len test items) items ≡ since test items → drop (cond (not b) (1 + position_or_len test items) 0) (item ∷ items) ≡ cond b (item ∷ items) (since test items)
    by_test true e = refl
    by_test false e = ap (λ k. drop k (item ∷ items)) (one_more (position_or_len test items)) ∙ e

since_shorter : (test : ℕ → Bool) (text : List ℕ) → length (since test text) ≤ length text
since_shorter test [] = omega arith
since_shorter test (byte ∷ bytes) = by_test (test byte) (since_shorter test bytes)
  where
    by_test : (b : Bool) → length (since test bytes) ≤ length bytes → length (cond b (byte ∷ bytes) (since test bytes)) ≤ length (byte ∷ bytes)
    by_test true e = omega arith
    by_test false e = omega arith

-- what stands behind the first byte that passes
pub behind_shorter : (test : ℕ → Bool) (text : List ℕ) → 0 < length (since test text) → length (drop 1 (since test text)) < length text
behind_shorter test text some = by_list (since test text) (since_shorter test text) some
  where
    by_list : (rest : List ℕ) → length rest ≤ length text → 0 < length rest → length (drop 1 rest) < length text
    by_list [] small h = absurd (omega arith)
    by_list (byte ∷ bytes) small h = omega (arith, small)

trail_push : (text : List ℕ) (byte : ℕ) → without_trail (text ++ byte ∷ []) ≡ cond (is_space_or_tab byte) (without_trail text) (text ++ byte ∷ [])
trail_push [] byte = by_test (is_space_or_tab byte)
  where
    by_test : (b : Bool) → cond (b && true) [] (byte ∷ []) ≡ cond b [] (byte ∷ [])
    by_test true = refl
    by_test false = refl
trail_push (first ∷ text) byte = by_test (is_space_or_tab byte) (trail_push text byte) (list_all-append is_space_or_tab (first ∷ text) (byte ∷ []))
  where
    by_test : (b : Bool) → without_trail (text ++ byte ∷ []) ≡ cond b (without_trail text) (text ++ byte ∷ []) → list_all is_space_or_tab (first ∷ (text ++ byte ∷ [])) ≡ (list_all is_space_or_tab (first ∷ text) && (b && true))
        → cond (list_all is_space_or_tab (first ∷ (text ++ byte ∷ []))) [] (first ∷ without_trail (text ++ byte ∷ [])) ≡ cond b (cond (list_all is_space_or_tab (first ∷ text)) [] (first ∷ without_trail text)) (first ∷ (text ++ byte ∷ []))
    by_test true e all = ap (λ t. cond t [] (first ∷ without_trail (text ++ byte ∷ []))) (all ∙ and-true (list_all is_space_or_tab (first ∷ text))) ∙ ap (λ t. cond (list_all is_space_or_tab (first ∷ text)) [] (first ∷ t)) e
    by_test false e all = ap (λ t. cond t [] (first ∷ without_trail (text ++ byte ∷ []))) (all ∙ and_right (list_all is_space_or_tab (first ∷ text)) false refl) ∙ ap (λ t. first ∷ t) e

-- one more byte
pub trail_blank : (text : List ℕ) (i : ℕ) → i < length text → is_space_or_tab (get_or text i 0) ≡ true → without_trail (take (i + 1) text) ≡ without_trail (take i text)
trail_blank text i within blank = ap without_trail (take_more text i 0 within) ∙ trail_push (take i text) (get_or text i 0) ∙ rw blank refl

pub trail_solid : (text : List ℕ) (i : ℕ) → i < length text → is_space_or_tab (get_or text i 0) ≡ false → without_trail (take (i + 1) text) ≡ take (i + 1) text
trail_solid text i within solid = ap without_trail (take_more text i 0 within) ∙ trail_push (take i text) (get_or text i 0) ∙ rw solid (sym (take_more text i 0 within))

-- the first of the forms behind the first few
pub form_step : (among : List Form) (word : List ℕ) (i : ℕ) (d : Form) → i < length among → form_among (drop i among) word ≡ cond (same (mnemonic_of (get_or among i d)) word) (Some (get_or among i d)) (form_among (drop (i + 1) among) word)
form_step among word i d within = let e : suc i ≡ i + 1 = omega arith in ap (λ l. form_among l word) (drop-cons among i d within) ∙ ap (λ k. form_among (get_or among i d ∷ drop k among) word) e

-- the operands behind the comma that stands first, if one does
abbrev pub behind_comma : List ℕ → List (List ℕ)
behind_comma [] = []
behind_comma (comma ∷ rest) = cut_operands rest

-- the parts behind the item at which a list is cut, if it is
abbrev pub parts_behind : {X : Type 0} → (X → Bool) → List X → List (List X)
parts_behind test [] = []
parts_behind test (mark ∷ others) = slice_split test others

-- the first part and the others
pub split_next : {X : Type 0} (test : X → Bool) (items : List X) → slice_split test items ≡ until test items ∷ parts_behind test (since test items)
split_next test [] = refl
split_next test (item ∷ items) = by_test (test item) (split_next test items)
  where
    by_test : (b : Bool) → slice_split test items ≡ until test items ∷ parts_behind test (since test items)
        → cond b ([] ∷ slice_split test items) (onto_first item (slice_split test items)) ≡ cond b [] (item ∷ until test items) ∷ parts_behind test (cond b (item ∷ items) (since test items))
    by_test true e = refl
    by_test false e = ap (onto_first item) e

-- the first operand and the others
pub operand_next : (text : List ℕ) → cut_operands text ≡ trimmed (until (λ byte. byte == 44) text) ∷ behind_comma (since (λ byte. byte == 44) text)
operand_next text = ap (map trimmed) (split_next (λ byte. byte == 44) text) ∙ rest (since (λ byte. byte == 44) text)
  where
    rest : (behind : List ℕ) → map trimmed (until (λ byte. byte == 44) text ∷ parts_behind (λ byte. byte == 44) behind) ≡ trimmed (until (λ byte. byte == 44) text) ∷ behind_comma behind
    rest [] = refl
    rest (comma ∷ others) = refl

pub some_operand : (text : List ℕ) → 0 < length (cut_operands text)
some_operand text = rw (operand_next text) (omega arith)

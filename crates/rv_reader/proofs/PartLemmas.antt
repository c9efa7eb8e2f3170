-- The parts of a row, one after the other, and the numbers that are read of them.
use Rattle.std.proofs.Common.{◌≡◌, ℕ, ◌<◌, List, [], ◌∷◌, ◌++◌, length, drop, refl, sym, ap, ◌∙◌, arith, append_assoc}
use Rattle.std.specs.Prelude.{◌==◌, map}
use Rattle.std.specs.List.{slice_split}
use Rattle.std.specs.Option.{option_map}
use Rattle.std.specs.declared.option.Option.{Option}
use Rattle.std.specs.declared.option.Option.TheVariants.{None, Some}
use Rattle.std.proofs.lemmas.List.{append-nil}
use Rattle.rv_reader.specs.AreaRows.{both_of, numbers_of}
use Rattle.rv_reader.specs.Cuts.{until, since}
use Rattle.rv_reader.specs.Marks.{capped}
use Rattle.rv_reader.specs.Operands.{number_of}
use Rattle.rv_reader.proofs.MarkLemmas.{parts_behind, split_next}
use Rattle.rv_reader.proofs.OperandLemmas.{none_not_some, some_same}

by_rest : (text rest : List ℕ) → since (λ byte. byte == 32) text ≡ rest → slice_split (λ byte. byte == 32) text ≡ until (λ byte. byte == 32) text ∷ parts_behind (λ byte. byte == 32) rest
by_rest text rest is = split_next (λ byte. byte == 32) text ∙ ap (λ t. until (λ byte. byte == 32) text ∷ parts_behind (λ byte. byte == 32) t) is

-- the part of a text with no space
pub part_last : (text : List ℕ) → length (since (λ byte. byte == 32) text) ≡ 0 → slice_split (λ byte. byte == 32) text ≡ until (λ byte. byte == 32) text ∷ []
part_last text none = by_list (since (λ byte. byte == 32) text) refl none
  where
    by_list : (rest : List ℕ) → since (λ byte. byte == 32) text ≡ rest → length rest ≡ 0 → slice_split (λ byte. byte == 32) text ≡ until (λ byte. byte == 32) text ∷ []
    by_list [] is h = by_rest text [] is
    by_list (byte ∷ rest) is h = absurd (omega arith)

-- the first part and the others
pub part_next : (text : List ℕ) → 0 < length (since (λ byte. byte == 32) text) → slice_split (λ byte. byte == 32) text ≡ until (λ byte. byte == 32) text ∷ slice_split (λ byte. byte == 32) (drop 1 (since (λ byte. byte == 32) text))
part_next text some = by_list (since (λ byte. byte == 32) text) refl some
  where
    by_list : (rest : List ℕ) → since (λ byte. byte == 32) text ≡ rest → 0 < length rest → slice_split (λ byte. byte == 32) text ≡ until (λ byte. byte == 32) text ∷ slice_split (λ byte. byte == 32) (drop 1 rest)
    by_list [] is h = absurd (omega arith)
    by_list (byte ∷ rest) is h = by_rest text (byte ∷ rest) is

-- numbers that are read, and those that are left
unfoldable pub numbers_with : List ℕ → Option (List ℕ) → Option (List ℕ)
numbers_with found left = option_map (λ others. found ++ map capped others) left

pub numbers_start : (left : Option (List ℕ)) → numbers_with [] left ≡ option_map (map capped) left
unfolding numbers_with
numbers_start None = refl
numbers_start (Some numbers) = refl

pub numbers_step : (found : List ℕ) (value : ℕ) (part : List ℕ) (parts : List (List ℕ)) → Some value ≡ option_map capped (number_of part) → numbers_with found (numbers_of (part ∷ parts)) ≡ numbers_with (found ++ value ∷ []) (numbers_of parts)
unfolding numbers_with
numbers_step found value part parts is = by_number (number_of part) (numbers_of parts) is
  where
    by_number : (n : Option ℕ) (others : Option (List ℕ)) → Some value ≡ option_map capped n → option_map (λ l. found ++ map capped l) (both_of n others) ≡ option_map (λ l. (found ++ value ∷ []) ++ map capped l) others
    by_number None others e = absurd (none_not_some (sym e))
    by_number (Some n) None e = refl
    by_number (Some n) (Some others) e = ap (λ v. Some (found ++ v ∷ map capped others)) (sym (some_same e)) ∙ ap (λ l. Some l) (sym (append_assoc found (value ∷ []) (map capped others)))

pub numbers_none : (found : List ℕ) (part : List ℕ) (parts : List (List ℕ)) → None ≡ option_map capped (number_of part) → numbers_with found (numbers_of (part ∷ parts)) ≡ None
unfolding numbers_with
numbers_none found part parts is = by_number (number_of part) is
  where
    by_number : (n : Option ℕ) → None ≡ option_map capped n → option_map (λ l. found ++ map capped l) (both_of n (numbers_of parts)) ≡ None
    by_number None e = refl
    by_number (Some n) e = absurd (none_not_some e)

pub numbers_end : (found : List ℕ) → numbers_with found (numbers_of []) ≡ Some found
unfolding numbers_with
numbers_end found = ap (λ l. Some l) (append-nil found)

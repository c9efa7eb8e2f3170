-- How the bytes of a line are cut into parts. This project's own.
use Rattle.std.specs.Prelude.{ℕ, Bool, not, ◌==◌, nat_eq, cond, List, [], ◌∷◌, map}
use Rattle.std.specs.Cmp.Lexicographic.{pointwise}
use Rattle.std.specs.List.{list_all, slice_split}
use Rattle.rv_line.specs.Instructions.{is_space_or_tab}

-- the same bytes
abbrev pub same : List ℕ → List ℕ → Bool
same one other = pointwise nat_eq one other

-- what stands before the first item that passes, or all where none does
abbrev pub until : {X : Type 0} → (X → Bool) → List X → List X
until test [] = []
until test (item ∷ items) = cond (test item) [] (item ∷ until test items)

-- that item and what stands behind it
abbrev pub since : {X : Type 0} → (X → Bool) → List X → List X
since test [] = []
since test (item ∷ items) = cond (test item) (item ∷ items) (since test items)

-- without the blanks in front, and at the end
abbrev pub without_lead : List ℕ → List ℕ
without_lead text = since (λ byte. not (is_space_or_tab byte)) text

abbrev pub without_trail : List ℕ → List ℕ
without_trail [] = []
without_trail (byte ∷ bytes) = cond (list_all is_space_or_tab (byte ∷ bytes)) [] (byte ∷ without_trail bytes)

abbrev pub trimmed : List ℕ → List ℕ
trimmed text = without_trail (without_lead text)

-- what a line says, without its comment and the blanks at both ends
abbrev pub core_of : List ℕ → List ℕ
core_of text = trimmed (until (λ byte. byte == 35) text)

-- what stands before the first blank, and from there on
abbrev pub first_word : List ℕ → List ℕ
first_word core = until is_space_or_tab core

abbrev pub behind_word : List ℕ → List ℕ
behind_word core = since is_space_or_tab core

-- operands, separated by a comma with any blanks around it
abbrev pub cut_operands : List ℕ → List (List ℕ)
cut_operands text = map trimmed (slice_split (λ byte. byte == 44) text)

-- the operands in what stands behind a mnemonic, if anything does
abbrev pub operands_in : List ℕ → List (List ℕ)
operands_in [] = []
operands_in (byte ∷ bytes) = cut_operands (byte ∷ bytes)

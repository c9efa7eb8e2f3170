-- What of a line is still to be put: terms, and signs behind what stands before the operands of a term. This project's own.
use Rattle.std.specs.Prelude.{◌≡◌, ℕ, ◌+◌, ◌<◌, pos, List, [], ◌∷◌, ◌++◌, codes, reverse, slice_index_or, ⊤}
use Rattle.std.specs.Fmt.{signed_decimal}
use Rattle.std.specs.List.{AllByRecursion, flat_map}
use Rattle.normal_form.specs.Forms.{Form, Lit, Index, Get, Un, Bin, Case, Fold, Let}
use Rattle.form_text.specs.declared.pieces.Operands.{Operands}
use Rattle.form_text.specs.declared.pieces.Operands.TheVariants.{None, One, Two}
use Rattle.form_text.specs.declared.pieces.Piece.{Piece}
use Rattle.form_text.specs.declared.pieces.Piece.TheVariants.{Of, Comma, Close}
use Rattle.form_text.specs.Spelling.{binary_head, case_head, entry_text, fold_head, let_head, term_text, unary_head}

-- a term without operands, or what stands before its operands
abbrev pub head_text : {Load : Type 0} → (Load → List ℕ) → Form Load → List ℕ
head_text spelled (Lit value) = signed_decimal value
head_text spelled (Index entry) = codes "index(" ++ (entry_text entry ++ codes ")")
head_text spelled (Get load) = spelled load
head_text spelled (Un op of) = unary_head op
head_text spelled (Bin op left right) = binary_head op
head_text spelled (Case entry below first second) = case_head entry below
head_text spelled (Fold op var low high of) = fold_head op var low high
head_text spelled (Let var bind of) = let_head var bind

-- the numbers of operands, in order
abbrev pub numbers : Operands → List ℕ
numbers None = []
numbers (One of) = of ∷ []
numbers (Two first second) = first ∷ second ∷ []

-- what follows the head of a term with these operands
abbrev pub after_head : List ℕ → List Piece
after_head [] = []
after_head (last ∷ []) = Of last ∷ Close ∷ []
after_head (first ∷ second ∷ others) = Of first ∷ Comma ∷ after_head (second ∷ others)

-- the form of a term by its number
abbrev pub numbered : {Load : Type 0} → List (Form Load) → ℕ → Form Load
numbered forms number = slice_index_or forms number (Lit (pos 0))

-- a piece, where terms have these forms
abbrev pub piece_text : {Load : Type 0} → (Load → List ℕ) → List (Form Load) → Piece → List ℕ
piece_text spelled forms (Of number) = term_text spelled (numbered forms number)
piece_text spelled forms Comma = codes ", "
piece_text spelled forms Close = codes ")"

-- the texts of pieces, one behind the other
abbrev pub pieces_text : {Load : Type 0} → (Load → List ℕ) → List (Form Load) → List Piece → List ℕ
pieces_text spelled forms pieces = flat_map (piece_text spelled forms) pieces

-- how many terms and signs a form has
abbrev pub size : {Load : Type 0} → Form Load → ℕ
size (Lit value) = 1
size (Index entry) = 1
size (Get load) = 1
size (Un op of) = 2 + size of
size (Bin op left right) = 3 + (size left + size right)
size (Case entry below first second) = 3 + (size first + size second)
size (Fold op var low high of) = 2 + size of
size (Let var bind of) = 2 + size of

abbrev pub piece_size : {Load : Type 0} → List (Form Load) → Piece → ℕ
piece_size forms (Of number) = size (numbered forms number)
piece_size forms Comma = 1
piece_size forms Close = 1

abbrev pub pieces_size : {Load : Type 0} → List (Form Load) → List Piece → ℕ
pieces_size forms [] = 0
pieces_size forms (first ∷ others) = piece_size forms first + pieces_size forms others

-- a sign, or a term among so many
abbrev pub IsThere : ℕ → Piece → Type 0
IsThere count (Of number) = number < count
IsThere count Comma = ⊤
IsThere count Close = ⊤

-- What was put, and then what is on the stack, is the whole, and the terms on the stack are there.
pub record IsPutting {Load : Type 0} (spelled : Load → List ℕ) (forms : List (Form Load)) (count : ℕ) (whole out : List ℕ) (stack : List Piece) : Type 0 where
  pub put : out ++ pieces_text spelled forms (reverse stack) ≡ whole
  pub there : AllByRecursion (IsThere count) (reverse stack)

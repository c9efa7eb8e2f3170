-- The canonical text of a program: one line a statement, no parentheses, a blank between two lexemes but after `<` and before `>`.
-- This project's own.
use Rattle.std.specs.Prelude.{ℕ, zero, suc, ◌&&◌, not, IsTrue, FitsSigned, List, [], ◌∷◌, ◌++◌, codes}
use Rattle.std.specs.Int.{w64}
use Rattle.std.specs.List.{AllByRecursion, flat_map}
use Rattle.shapes_core.specs.Name.{is_name}
use Rattle.text_tokens.specs.declared.token.Sign.TheVariants as sign
use Rattle.moa_tree.specs.declared.tree.Version.{Version}
use Rattle.moa_tree.specs.Expr.{Expr, Item, Tree}
use Rattle.moa_tree.specs.Readings.{deepest, list_lexemes, number_lexemes}
use Rattle.moa_tree.specs.Vocabulary.{Lexeme, is_fold, is_reserved, spelling, version_number}

-- an expression without parentheses
abbrev pub expr_lexemes : Expr → List Lexeme
expr_lexemes (Expr.Number value) = Lexeme.Number value ∷ []
expr_lexemes (Expr.Use name) = Lexeme.Name name ∷ []
expr_lexemes (Expr.Iota extent) = Lexeme.Iota ∷ Lexeme.Number extent ∷ []
expr_lexemes (Expr.One op of) = Lexeme.Unary op ∷ expr_lexemes of
expr_lexemes (Expr.Two op left right) = Lexeme.Binary op ∷ (expr_lexemes left ++ expr_lexemes right)
expr_lexemes (Expr.Psi list of) = Lexeme.Psi ∷ (list_lexemes list ++ expr_lexemes of)
expr_lexemes (Expr.Take list of) = Lexeme.Take ∷ (list_lexemes list ++ expr_lexemes of)
expr_lexemes (Expr.Drop list of) = Lexeme.Drop ∷ (list_lexemes list ++ expr_lexemes of)
expr_lexemes (Expr.Reverse of) = Lexeme.Reverse ∷ expr_lexemes of
expr_lexemes (Expr.Rotate by of) = Lexeme.Rotate ∷ Lexeme.Number by ∷ expr_lexemes of
expr_lexemes (Expr.Transpose of) = Lexeme.Transpose ∷ expr_lexemes of
expr_lexemes (Expr.Permute list of) = Lexeme.Permute ∷ (list_lexemes list ++ expr_lexemes of)
expr_lexemes (Expr.Cat left right) = Lexeme.Cat ∷ (expr_lexemes left ++ expr_lexemes right)
expr_lexemes (Expr.Reshape list of) = Lexeme.Reshape ∷ (list_lexemes list ++ expr_lexemes of)
expr_lexemes (Expr.Ravel of) = Lexeme.Ravel ∷ expr_lexemes of
expr_lexemes (Expr.Outer op left right) = Lexeme.Outer ∷ Lexeme.Binary op ∷ (expr_lexemes left ++ expr_lexemes right)
expr_lexemes (Expr.Inner fold op left right) = Lexeme.Inner ∷ Lexeme.Binary fold ∷ Lexeme.Binary op ∷ (expr_lexemes left ++ expr_lexemes right)
expr_lexemes (Expr.Reduce fold of) = Lexeme.Reduce ∷ Lexeme.Binary fold ∷ expr_lexemes of
expr_lexemes (Expr.Scan fold of) = Lexeme.Scan ∷ Lexeme.Binary fold ∷ expr_lexemes of

abbrev pub item_lexemes : Item → List Lexeme
item_lexemes (Item.Input name extents) = Lexeme.In ∷ Lexeme.Name name ∷ number_lexemes extents
item_lexemes (Item.Let name of) = Lexeme.Let ∷ Lexeme.Name name ∷ Lexeme.Sign sign.Equal ∷ expr_lexemes of
item_lexemes (Item.Output name of) = Lexeme.Out ∷ Lexeme.Name name ∷ Lexeme.Sign sign.Equal ∷ expr_lexemes of

-- what stands between two lexemes of a line
abbrev pub between : Lexeme → Lexeme → List ℕ
between (Lexeme.Sign sign.Less) next = []
between _ (Lexeme.Sign sign.Greater) = []
between _ _ = codes " "

abbrev pub line : List Lexeme → List ℕ
line [] = codes "\n"
line (last ∷ []) = spelling last ++ codes "\n"
line (first ∷ second ∷ others) = spelling first ++ (between first second ++ line (second ∷ others))

abbrev pub canonical : Tree → List ℕ
canonical tree =
    line (Lexeme.Psi ∷ Lexeme.Number (version_number tree.version) ∷ []) ++ flat_map (λ item. line (item_lexemes item)) tree.statements

-- a lexeme that has a spelling in a version: a name is a word that is not reserved, a number has 64 bits
abbrev pub IsSpelled : Version → Lexeme → Type 0
IsSpelled version (Lexeme.Name name) = IsTrue (is_name name && not (is_reserved version name))
IsSpelled version (Lexeme.Number value) = FitsSigned w64 value
IsSpelled version Lexeme.Malformed = ⊥
IsSpelled version Lexeme.OutOfRange = ⊥
IsSpelled version Lexeme.LongWord = ⊥
IsSpelled version Lexeme.End = ⊥
IsSpelled version _ = Unit {0}

-- an expression that stands within so many levels, and folds by operators that fold
abbrev pub IsBuilt : ℕ → Expr → Type 0
IsBuilt zero expr = ⊥
IsBuilt (suc levels) (Expr.Number value) = Unit {0}
IsBuilt (suc levels) (Expr.Use name) = Unit {0}
IsBuilt (suc levels) (Expr.Iota extent) = Unit {0}
IsBuilt (suc levels) (Expr.One op of) = IsBuilt levels of
IsBuilt (suc levels) (Expr.Two op left right) = IsBuilt levels left × IsBuilt levels right
IsBuilt (suc levels) (Expr.Psi list of) = IsBuilt levels of
IsBuilt (suc levels) (Expr.Take list of) = IsBuilt levels of
IsBuilt (suc levels) (Expr.Drop list of) = IsBuilt levels of
IsBuilt (suc levels) (Expr.Reverse of) = IsBuilt levels of
IsBuilt (suc levels) (Expr.Rotate by of) = IsBuilt levels of
IsBuilt (suc levels) (Expr.Transpose of) = IsBuilt levels of
IsBuilt (suc levels) (Expr.Permute list of) = IsBuilt levels of
IsBuilt (suc levels) (Expr.Cat left right) = IsBuilt levels left × IsBuilt levels right
IsBuilt (suc levels) (Expr.Reshape list of) = IsBuilt levels of
IsBuilt (suc levels) (Expr.Ravel of) = IsBuilt levels of
IsBuilt (suc levels) (Expr.Outer op left right) = IsBuilt levels left × IsBuilt levels right
IsBuilt (suc levels) (Expr.Inner fold op left right) = IsTrue (is_fold fold) × IsBuilt levels left × IsBuilt levels right
IsBuilt (suc levels) (Expr.Reduce fold of) = IsTrue (is_fold fold) × IsBuilt levels of
IsBuilt (suc levels) (Expr.Scan fold of) = IsTrue (is_fold fold) × IsBuilt levels of

abbrev pub IsBuiltItem : Item → Type 0
IsBuiltItem (Item.Input name extents) = Unit {0}
IsBuiltItem (Item.Let name of) = IsBuilt deepest of
IsBuiltItem (Item.Output name of) = IsBuilt deepest of

-- a statement that some text of the version has
pub record IsWritable (version : Version) (item : Item) : Type 0 where
  pub built : IsBuiltItem item
  pub spelled : AllByRecursion (IsSpelled version) (item_lexemes item)

-- The grammar, over whole lists: one case for each form, which gives all its lexemes. This project's own.
-- A reading is counted in levels: an expression on the last level has no operands. A text may use 128.
use Rattle.std.specs.Prelude.{ℕ, suc, Bool, true, false, IsTrue, List, [], ◌∷◌, ◌++◌, map, ℤ}
use Rattle.text_tokens.specs.declared.token.Sign.TheVariants as sign
use Rattle.moa_tree.specs.declared.operator.Op.{Op}
use Rattle.moa_tree.specs.declared.operator.Unary.{Unary}
use Rattle.moa_tree.specs.Expr.{Expr, Item, Tree}
use Rattle.moa_tree.specs.Vocabulary.{Lexeme, is_fold, lexemes, version_number}

abbrev pub has_output : List Item → Bool
has_output [] = false
has_output (Item.Output name of ∷ others) = true
has_output (_ ∷ others) = has_output others

-- numbers in a row
abbrev pub number_lexemes : List ℤ → List Lexeme
number_lexemes values = map Lexeme.Number values

-- '<' NUMBER* '>'
abbrev pub list_lexemes : List ℤ → List Lexeme
list_lexemes list = Lexeme.Sign sign.Less ∷ (number_lexemes list ++ Lexeme.Sign sign.Greater ∷ [])

-- the forms with one operand: what stands before it, and what it becomes
pub data Prefix : List Lexeme → (Expr → Expr) → Type 0 where
  unary : (op : Unary) → Prefix (Lexeme.Unary op ∷ []) (Expr.One op)
  psi : (list : List ℤ) → Prefix (Lexeme.Psi ∷ list_lexemes list) (Expr.Psi list)
  take : (list : List ℤ) → Prefix (Lexeme.Take ∷ list_lexemes list) (Expr.Take list)
  drop : (list : List ℤ) → Prefix (Lexeme.Drop ∷ list_lexemes list) (Expr.Drop list)
  permute : (list : List ℤ) → Prefix (Lexeme.Permute ∷ list_lexemes list) (Expr.Permute list)
  reshape : (list : List ℤ) → Prefix (Lexeme.Reshape ∷ list_lexemes list) (Expr.Reshape list)
  reverse : Prefix (Lexeme.Reverse ∷ []) Expr.Reverse
  transpose : Prefix (Lexeme.Transpose ∷ []) Expr.Transpose
  ravel : Prefix (Lexeme.Ravel ∷ []) Expr.Ravel
  rotate : (by : ℤ) → Prefix (Lexeme.Rotate ∷ Lexeme.Number by ∷ []) (Expr.Rotate by)
  reduce : (fold : Op) → IsTrue (is_fold fold) → Prefix (Lexeme.Reduce ∷ Lexeme.Binary fold ∷ []) (Expr.Reduce fold)
  scan : (fold : Op) → IsTrue (is_fold fold) → Prefix (Lexeme.Scan ∷ Lexeme.Binary fold ∷ []) (Expr.Scan fold)

-- the forms with two operands: what stands before the first, and what they become
pub data PrefixOfTwo : List Lexeme → (Expr → Expr → Expr) → Type 0 where
  binary : (op : Op) → PrefixOfTwo (Lexeme.Binary op ∷ []) (Expr.Two op)
  cat : PrefixOfTwo (Lexeme.Cat ∷ []) Expr.Cat
  outer : (op : Op) → PrefixOfTwo (Lexeme.Outer ∷ Lexeme.Binary op ∷ []) (Expr.Outer op)
  inner : (fold op : Op) → IsTrue (is_fold fold) → PrefixOfTwo (Lexeme.Inner ∷ Lexeme.Binary fold ∷ Lexeme.Binary op ∷ []) (Expr.Inner fold op)

-- these lexemes, all of them, are this expression, with so many levels
pub data ReadsExpr : ℕ → List Lexeme → Expr → Type 0 where
  number : (levels : ℕ) (value : ℤ) → ReadsExpr (suc levels) (Lexeme.Number value ∷ []) (Expr.Number value)
  name : (levels : ℕ) (name : List ℕ) → ReadsExpr (suc levels) (Lexeme.Name name ∷ []) (Expr.Use name)
  iota : (levels : ℕ) (extent : ℤ) → ReadsExpr (suc levels) (Lexeme.Iota ∷ Lexeme.Number extent ∷ []) (Expr.Iota extent)
  parentheses : (levels : ℕ) (inner : List Lexeme) (expr : Expr) → ReadsExpr levels inner expr
      → ReadsExpr (suc levels) (Lexeme.Sign sign.Open ∷ (inner ++ Lexeme.Sign sign.Close ∷ [])) expr
  one : (levels : ℕ) (before of : List Lexeme) (form : Expr → Expr) (expr : Expr) → Prefix before form
      → ReadsExpr levels of expr → ReadsExpr (suc levels) (before ++ of) (form expr)
  two : (levels : ℕ) (before first second : List Lexeme) (form : Expr → Expr → Expr) (left right : Expr) → PrefixOfTwo before form
      → ReadsExpr levels first left → ReadsExpr levels second right → ReadsExpr (suc levels) (before ++ (first ++ second)) (form left right)

pub data ReadsItem : ℕ → List Lexeme → Item → Type 0 where
  input : (levels : ℕ) (name : List ℕ) (extents : List ℤ)
      → ReadsItem levels (Lexeme.In ∷ Lexeme.Name name ∷ number_lexemes extents) (Item.Input name extents)
  «let» : (levels : ℕ) (name : List ℕ) (of : List Lexeme) (expr : Expr) → ReadsExpr levels of expr
      → ReadsItem levels (Lexeme.Let ∷ Lexeme.Name name ∷ Lexeme.Sign sign.Equal ∷ of) (Item.Let name expr)
  output : (levels : ℕ) (name : List ℕ) (of : List Lexeme) (expr : Expr) → ReadsExpr levels of expr
      → ReadsItem levels (Lexeme.Out ∷ Lexeme.Name name ∷ Lexeme.Sign sign.Equal ∷ of) (Item.Output name expr)

-- statements, one behind the other
pub data ReadsItems : ℕ → List Lexeme → List Item → Type 0 where
  none : (levels : ℕ) → ReadsItems levels [] []
  more : (levels : ℕ) (first others : List Lexeme) (item : Item) (items : List Item) → ReadsItem levels first item
      → ReadsItems levels others items → ReadsItems levels (first ++ others) (item ∷ items)

-- the version, statements with at least one output, and the end
pub data ReadsProgram : ℕ → List Lexeme → Tree → Type 0 where
  program : (levels : ℕ) (statements : List Lexeme) (tree : Tree) → ReadsItems levels statements tree.statements
      → IsTrue (has_output tree.statements)
      → ReadsProgram levels (Lexeme.Psi ∷ Lexeme.Number (version_number tree.version) ∷ (statements ++ Lexeme.End ∷ [])) tree

-- no expression of a text stands deeper than on this level
abbrev pub deepest : ℕ
deepest = 128

-- the text, by the words of the program's version, is this program
abbrev pub Reads : List ℕ → Tree → Type 0
Reads text tree = ReadsProgram deepest (lexemes tree.version text) tree

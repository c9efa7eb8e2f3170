-- The expression and the statement with which lexemes begin, and what stands behind them: so the tree of a text that has a reading is a
-- function of it. This project's own.
use Rattle.std.specs.Prelude.{ℕ, zero, suc, ℤ, List, [], ◌∷◌, ◌++◌}
use Rattle.std.specs.declared.option.Option.{Option}
use Rattle.std.specs.declared.option.Option.TheVariants.{None, Some}
use Rattle.text_tokens.specs.declared.token.Sign.TheVariants as sign
use Rattle.moa_tree.specs.declared.operator.Op.{Op}
use Rattle.moa_tree.specs.Expr.{Expr, Item}
use Rattle.moa_tree.specs.Vocabulary.{Lexeme}

-- something, and the lexemes behind it
abbrev pub Found : Type 0 → Type 0
Found A = Option (A × List Lexeme)

abbrev pub and_then : {A B : Type 0} → Found A → (A → List Lexeme → Found B) → Found B
and_then None f = None
and_then (Some found) f = f found.0 found.1

abbrev pub entries_at : List Lexeme → Found (List ℤ)
entries_at [] = None
entries_at (Lexeme.Number value ∷ rest) = and_then (entries_at rest) (λ others behind. Some (value ∷ others, behind))
entries_at (Lexeme.Sign sign.Greater ∷ rest) = Some ([], rest)
entries_at (_ ∷ rest) = None

abbrev pub listed_at : List Lexeme → Found (List ℤ)
listed_at (Lexeme.Sign sign.Less ∷ rest) = entries_at rest
listed_at _ = None

abbrev pub number_at : List Lexeme → Found ℤ
number_at (Lexeme.Number value ∷ rest) = Some (value, rest)
number_at _ = None

abbrev pub close_at : Expr → List Lexeme → Found Expr
close_at expr (Lexeme.Sign sign.Close ∷ rest) = Some (expr, rest)
close_at expr _ = None

abbrev pub op_then : (Op → List Lexeme → Found Expr) → List Lexeme → Found Expr
op_then go (Lexeme.Binary op ∷ rest) = go op rest
op_then go _ = None

-- one operand, or two
abbrev pub one_at : (List Lexeme → Found Expr) → (Expr → Expr) → List Lexeme → Found Expr
one_at operand form rest = and_then (operand rest) (λ of behind. Some (form of, behind))

abbrev pub two_at : (List Lexeme → Found Expr) → (Expr → Expr → Expr) → List Lexeme → Found Expr
two_at operand form rest = and_then (operand rest) (λ left behind. one_at operand (form left) behind)

abbrev pub with_list_at : (List Lexeme → Found Expr) → (List ℤ → Expr → Expr) → List Lexeme → Found Expr
with_list_at operand form rest = and_then (listed_at rest) (λ list behind. one_at operand (form list) behind)

-- what begins with this lexeme, where the operands are found so
abbrev pub form_at : (List Lexeme → Found Expr) → Lexeme → List Lexeme → Found Expr
form_at operand (Lexeme.Number value) rest = Some (Expr.Number value, rest)
form_at operand (Lexeme.Name name) rest = Some (Expr.Use name, rest)
form_at operand Lexeme.Iota rest = and_then (number_at rest) (λ extent behind. Some (Expr.Iota extent, behind))
form_at operand (Lexeme.Sign sign.Open) rest = and_then (operand rest) close_at
form_at operand (Lexeme.Unary op) rest = one_at operand (Expr.One op) rest
form_at operand (Lexeme.Binary op) rest = two_at operand (Expr.Two op) rest
form_at operand Lexeme.Psi rest = with_list_at operand Expr.Psi rest
form_at operand Lexeme.Take rest = with_list_at operand Expr.Take rest
form_at operand Lexeme.Drop rest = with_list_at operand Expr.Drop rest
form_at operand Lexeme.Permute rest = with_list_at operand Expr.Permute rest
form_at operand Lexeme.Reshape rest = with_list_at operand Expr.Reshape rest
form_at operand Lexeme.Reverse rest = one_at operand Expr.Reverse rest
form_at operand Lexeme.Transpose rest = one_at operand Expr.Transpose rest
form_at operand Lexeme.Ravel rest = one_at operand Expr.Ravel rest
form_at operand Lexeme.Rotate rest = and_then (number_at rest) (λ by behind. one_at operand (Expr.Rotate by) behind)
form_at operand Lexeme.Cat rest = two_at operand Expr.Cat rest
form_at operand Lexeme.Outer rest = op_then (λ op behind. two_at operand (Expr.Outer op) behind) rest
form_at operand Lexeme.Inner rest = op_then (λ f. op_then (λ op behind. two_at operand (Expr.Inner f op) behind)) rest
form_at operand Lexeme.Reduce rest = op_then (λ f behind. one_at operand (Expr.Reduce f) behind) rest
form_at operand Lexeme.Scan rest = op_then (λ f behind. one_at operand (Expr.Scan f) behind) rest
form_at operand _ rest = None

abbrev pub expr_at : ℕ → List Lexeme → Found Expr
expr_at zero lexemes = None
expr_at (suc levels) [] = None
expr_at (suc levels) (first ∷ rest) = form_at (expr_at levels) first rest

-- an input's extents, up to what is no number
abbrev pub extents_at : List Lexeme → List ℤ × List Lexeme
extents_at [] = ([], [])
extents_at (Lexeme.Number value ∷ rest) = (value ∷ (extents_at rest).0, (extents_at rest).1)
extents_at (other ∷ rest) = ([], other ∷ rest)

abbrev pub name_then : (List ℕ → List Lexeme → Found Item) → List Lexeme → Found Item
name_then go (Lexeme.Name name ∷ rest) = go name rest
name_then go _ = None

abbrev pub equal_then : (List Lexeme → Found Item) → List Lexeme → Found Item
equal_then go (Lexeme.Sign sign.Equal ∷ rest) = go rest
equal_then go _ = None

abbrev pub item_at : ℕ → List Lexeme → Found Item
item_at levels (Lexeme.In ∷ rest) = name_then (λ name behind. Some (Item.Input name (extents_at behind).0, (extents_at behind).1)) rest
item_at levels (Lexeme.Let ∷ rest) =
    name_then (λ name. equal_then (λ behind. and_then (expr_at levels behind) (λ of left. Some (Item.Let name of, left)))) rest
item_at levels (Lexeme.Out ∷ rest) =
    name_then (λ name. equal_then (λ behind. and_then (expr_at levels behind) (λ of left. Some (Item.Output name of, left)))) rest
item_at levels _ = None

abbrev pub statement : Found Item → List Item
statement None = []
statement (Some found) = found.0 ∷ []

-- the statements among these lexemes: each begins with its word, which stands nowhere else
abbrev pub statements_in : ℕ → List Lexeme → List Item
statements_in levels [] = []
statements_in levels (first ∷ rest) = statement (item_at levels (first ∷ rest)) ++ statements_in levels rest

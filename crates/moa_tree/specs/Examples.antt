-- How the worked examples are written: inputs A and B, an output C, numbers as they stand in a text, programs, and refusals.
-- This project's own.
use Rattle.std.specs.Prelude.{ℕ, ℤ, List, [], ◌∷◌, ◌++◌, codes}
use Rattle.text_tokens.specs.declared.token.Token.{Token}
use Rattle.text_tokens.specs.declared.token.Token.TheVariants.{Word, LongWord, Number, OutOfRange, Sign, Malformed, End}
use Rattle.text_tokens.specs.Tokens.{tokens_only}
use Rattle.moa_tree.specs.declared.tree.Version.TheVariants.{First}
use Rattle.moa_tree.specs.Axes.{naturals}
use Rattle.moa_tree.specs.Denotation.{Store, env_after_all, denote}
use Rattle.moa_tree.specs.Expr.{Expr, Use, Item, Input, Output, Tree}
use Rattle.moa_tree.specs.Outcome.{Outcome}
use Rattle.moa_tree.specs.ShapeOf.{beside}
use Rattle.moa_tree.specs.Values.{shape_in}
use Prim.Native.String.{String}

-- the numbers among these tokens
abbrev numbers_among : List Token → List ℤ
numbers_among [] = []
numbers_among (Word name ∷ others) = numbers_among others
numbers_among (LongWord ∷ others) = numbers_among others
numbers_among (Number value ∷ others) = value ∷ numbers_among others
numbers_among (OutOfRange ∷ others) = numbers_among others
numbers_among (Sign sign ∷ others) = numbers_among others
numbers_among (Malformed ∷ others) = numbers_among others
numbers_among (End ∷ others) = numbers_among others

-- the numbers of a text
abbrev pub numbers : String → List ℤ
numbers text = numbers_among (tokens_only (codes text))

-- the two inputs of the examples, as expressions
abbrev pub a : Expr
a = Use (codes "A")

abbrev pub b : Expr
b = Use (codes "B")

-- a program of the first version
abbrev pub program : List Item → Tree
program items = record { version = First; statements = items }

-- an array by its shape and its list
abbrev pub array : String → String → List ℕ × List ℤ
array extents list = (naturals (numbers extents), numbers list)

-- the array that output C gets after some statements
abbrev pub output : Store → List Item → Expr → List ℕ × List ℤ
output inputs items expr =
    (shape_in (env_after_all inputs [] items) expr, beside [] (denote (program (items ++ Output (codes "C") expr ∷ [])) inputs) (codes "C"))

-- the array of `out C` where A and B are inputs of these extents and lists
abbrev pub with_two : String → String → String → String → Expr → List ℕ × List ℤ
with_two extents list others values expr =
    output ((codes "A", numbers list) ∷ (codes "B", numbers values) ∷ [])
    (Input (codes "A") (numbers extents) ∷ Input (codes "B") (numbers others) ∷ []) expr

-- the same where A is the only input
abbrev pub with_one : String → String → Expr → List ℕ × List ℤ
with_one extents list expr = output ((codes "A", numbers list) ∷ []) (Input (codes "A") (numbers extents) ∷ []) expr

-- the same without an input
abbrev pub alone : Expr → List ℕ × List ℤ
alone expr = output [] [] expr

-- refused at a line and a column, with a cause
abbrev pub refused : ℕ → ℕ → ℕ → Outcome
refused line column cause = Outcome.Refused (record { line = line; column = column }) cause

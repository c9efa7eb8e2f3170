-- What an operator makes of its operands. This project's own.
use Rattle.std.specs.Prelude.{◌≡◌, ◌<◌, ℕ, pos, List, [], ◌∷◌, slice_index_or, Some, MatchResult, Result, Ok, Err}
use Rattle.text_tokens.specs.declared.token.Position.{Position}
use Rattle.moa_tree.specs.declared.tree.Node.{Node}
use Rattle.moa_tree.specs.declared.tree.Node.TheVariants as node
use Rattle.moa_tree.specs.Expr.{Expr}
use Rattle.moa_tree.specs.Pool.{operands}
use Rattle.moa_tree.specs.Pools.{Pools}
use Rattle.moa_tree.specs.ShapeOf.{Shapes}
use Rattle.shape_check.specs.declared.broken.Broken.{Broken}
use Rattle.shape_check.specs.declared.broken.Broken.TheVariants as broken
use Rattle.shape_check.specs.declared.error.CheckError.{CheckError}
use Rattle.shape_check.specs.declared.error.CheckError.TheVariants as error
use Rattle.shape_check.specs.declared.known.Known.{Known}
use Rattle.shape_check.specs.declared.parts.Parts.{Parts}
use Rattle.shape_check.specs.declared.parts.Parts.TheVariants as parts
use Rattle.shape_check.specs.Broken.{failure_at}
use Rattle.shape_check.specs.Costs.{Prices, element_work, nodes, shapes_of}
use Rattle.shape_check.specs.Judged.{capped}
use Rattle.shape_check.specs.Verdict.{verdict}

-- the node of a number
abbrev pub node_at : Pools → ℕ → Node
node_at pools number = slice_index_or pools.nodes number (node.Number (pos 0))

-- every form but the use of a name
abbrev pub IsOperator : Node → Type 0
IsOperator (node.Use name) = ⊥
IsOperator _ = Unit {0}

-- the name that a node stands for, or its operands, which stand before it
abbrev pub HasParts : Node → ℕ → Parts → Type 0
HasParts entry number (parts.Name name) = entry ≡ node.Use name
HasParts entry number parts.None = IsOperator entry × (operands entry ≡ [])
HasParts entry number (parts.One of) = IsOperator entry × (operands entry ≡ of ∷ []) × (of < number)
HasParts entry number (parts.Two left right) = IsOperator entry × (operands entry ≡ left ∷ right ∷ []) × (left < number) × (right < number)

-- an expression is accepted wherever it stands, with this shape and these counts
pub record Accepts (prices : Prices) (expr : Expr) (known : Known) : Type 0 where
  pub accepted : (at : ℕ) → verdict (shapes_of prices) at expr ≡ Ok known.shape
  pub nodes : known.nodes ≡ capped (nodes prices expr)
  pub work : known.work ≡ capped (element_work prices expr)

-- these are the shapes with which the operands are accepted
abbrev pub AreShaped : Shapes → List Expr → List (List ℕ) → Type 0
AreShaped shapes [] others = Unit {0}
AreShaped shapes (expr ∷ exprs) [] = ⊥
AreShaped shapes (expr ∷ exprs) (shape ∷ others) = ((at : ℕ) → verdict shapes at expr ≡ Ok shape) × AreShaped shapes exprs others

-- the first of these are what is known of the operands, and the others count nothing
abbrev pub AreAccepted : Prices → List Expr → List Known → Type 0
AreAccepted prices [] [] = Unit {0}
AreAccepted prices [] (known ∷ others) = (known.nodes ≡ 0) × (known.work ≡ 0) × AreAccepted prices [] others
AreAccepted prices (expr ∷ exprs) [] = ⊥
AreAccepted prices (expr ∷ exprs) (known ∷ others) = Accepts prices expr known × AreAccepted prices exprs others

-- what is found of an expression, wherever it stands
abbrev pub IsOperated : Prices → Expr → Result Known Broken → Type 0
IsOperated prices expr result =
    MatchResult result (Accepts prices expr) (λ broken. (at : ℕ) → verdict (shapes_of prices) at expr ≡ Err (failure_at at broken))

-- what is answered for what is broken at a position
abbrev pub error_at : Position → Broken → CheckError
error_at position (broken.Rule rule) = error.Rule position rule
error_at position (broken.Limit which value) = error.Limit (Some position) which value

-- What the check finds out of the expressions of a program's pools, among the names before them. This project's own.
use Rattle.std.specs.Prelude.{◌≡◌, ℕ, ◌-◌, ◌^◌, ◌++◌, min, false, true, List, [], ◌∷◌, length, map, slice_index_or, Option, None, Some, MatchOption, MatchResult, Result, Ok, Err, if◌then◌else◌}
use Rattle.std.specs.Option.{option_map}
use Rattle.std.specs.Str.{bytes_eq}
use Rattle.shapes_core.specs.Name.{IsName}
use Rattle.text_tokens.specs.declared.token.Position.{Position}
use Rattle.text_tokens.specs.Tokens.{start}
use Rattle.moa_tree.specs.Expr.{Expr, Item}
use Rattle.moa_tree.specs.Pool.{tree_at, trees, walk_of}
use Rattle.moa_tree.specs.Pools.{Pools, tree_of}
use Rattle.moa_tree.specs.Positions.{position_of, positions_at}
use Rattle.shape_check.specs.declared.error.CheckError.{CheckError}
use Rattle.shape_check.specs.declared.error.CheckError.TheVariants as error
use Rattle.shape_check.specs.declared.known.Known.{Known}
use Rattle.shape_check.specs.Costs.{Priced, Prices, element_work, nodes, price, shapes_of}
use Rattle.shape_check.specs.Rules.{Failure, Place, is_declared}
use Rattle.shape_check.specs.Verdict.{verdict}

-- the statements of a program
abbrev pub items_in : Pools → List Item
items_in pools = (tree_of pools).statements

-- ---- where something fails

-- the position of a place, where the nodes of the text stand in this walk
abbrev pub position_in : Pools → List ℕ → Place → Position
position_in pools walk (Place.Name statement) = slice_index_or (map position_of pools.statements) statement start
position_in pools walk (Place.Node number) = slice_index_or (positions_at pools.positions walk) number start

-- what is answered for a failure
abbrev pub error_in : Pools → List ℕ → Failure → CheckError
error_in pools walk (Failure.Rule place rule) = error.Rule (position_in pools walk place) rule
error_in pools walk (Failure.Limit place which value) = error.Limit (option_map (position_in pools walk) place) which value

-- ---- what is known

-- a count, or the greatest number of 64 bits where it is greater
abbrev pub capped : ℕ → ℕ
capped count = min count (2 ^ 64 - 1)

-- an array's shape and its capped counts
pub record StandsFor (known : Known) (priced : Priced) : Type 0 where
  pub shape : known.shape ≡ priced.shape
  pub nodes : known.nodes ≡ capped priced.nodes
  pub work : known.work ≡ capped priced.work

-- the first of these names that is this one
abbrev pub found : List (List ℕ × Known) → List ℕ → Option Known
found [] name = None
found (entry ∷ entries) name = if bytes_eq entry.0 name then Some entry.1 else found entries name

-- what is found for a name is what it stands for
abbrev pub IsFound : Prices → List ℕ → Option Known → Type 0
IsFound prices name result =
    MatchOption result (is_declared (shapes_of prices) name ≡ false)
    (λ known. (is_declared (shapes_of prices) name ≡ true) × StandsFor known (price prices name))

-- these are the names that stand for arrays of these prices
abbrev pub AreNames : List (List ℕ × Known) → Prices → Type 0
AreNames names prices = (name : List ℕ) → IsName name → IsFound prices name (found names name)

-- ---- what a node is

abbrev pub node_tree : Pools → ℕ → Expr
node_tree pools number = tree_at (trees pools.numbers pools.nodes) number

-- the expression of a node is accepted wherever it stands in a text, with this shape and these counts
pub record IsAccepted (pools : Pools) (prices : Prices) (number : ℕ) (known : Known) : Type 0 where
  pub accepted : (at : ℕ) → verdict (shapes_of prices) at (node_tree pools number) ≡ Ok known.shape
  pub nodes : known.nodes ≡ capped (nodes prices (node_tree pools number))
  pub work : known.work ≡ capped (element_work prices (node_tree pools number))

-- wherever its nodes stand in the walk of a text, it fails so
abbrev pub FailsSo : Pools → Prices → ℕ → CheckError → Type 0
FailsSo pools prices number error =
    (before after : List ℕ) → (failure : Failure)
    × (verdict (shapes_of prices) (length before) (node_tree pools number) ≡ Err failure)
    × (error ≡ error_in pools (before ++ (walk_of pools.nodes number ++ after)) failure)

abbrev pub IsJudged : Pools → Prices → ℕ → Result Known CheckError → Type 0
IsJudged pools prices number result = MatchResult result (IsAccepted pools prices number) (FailsSo pools prices number)

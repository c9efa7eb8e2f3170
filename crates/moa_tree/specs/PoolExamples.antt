-- Pools of the worked examples. This project's own.
use Rattle.std.specs.Prelude.{ℕ, ◌-◌, pos, List, [], ◌∷◌, map, length, codes}
use Rattle.std.specs.List.{range_with_len}
use Rattle.text_tokens.specs.declared.token.Position.{Position}
use Rattle.text_tokens.specs.Tokens.{start}
use Rattle.moa_tree.specs.declared.operator.Op.TheVariants as op
use Rattle.moa_tree.specs.declared.operator.Unary.TheVariants as unary
use Rattle.moa_tree.specs.declared.tree.Node.{Node}
use Rattle.moa_tree.specs.declared.tree.Node.TheVariants as node
use Rattle.moa_tree.specs.declared.tree.Statement.TheVariants as statement
use Rattle.moa_tree.specs.declared.tree.Version.TheVariants.{First}
use Rattle.moa_tree.specs.Pools.{Pools}

-- a position by its line and its column
abbrev pub placed : ℕ → ℕ → Position
placed line column = record { line = line; column = column }

-- those of a text of three lines: `psi 1`, `in A 2` and `out C = take <1> A`
abbrev pub small : Pools
small = record {
  version = First;
  nodes = node.Use (codes "A") ∷ node.Take (record { start = 1; count = 1 }) 0 ∷ [];
  positions = placed 3 18 ∷ placed 3 9 ∷ [];
  numbers = pos 2 ∷ pos 1 ∷ [];
  statements = statement.Input (codes "A") (record { start = 0; count = 1 }) (placed 2 4)
      ∷ statement.Output (codes "C") 1 (placed 3 5) ∷ [];
}

-- the same with other nodes, of which the output is the last
abbrev pub small_with : List Node → Pools
small_with nodes = record small {
  nodes = nodes;
  positions = map (λ n. start) nodes;
  statements = statement.Input (codes "A") (record { start = 0; count = 1 }) start
      ∷ statement.Output (codes "C") (length nodes - 1) start ∷ [];
}

-- one scan is both operands
abbrev pub shared_scan : Pools
shared_scan = small_with (node.Use (codes "A") ∷ node.Scan op.Add 0 ∷ node.Two op.Mul 1 1 ∷ [])

-- node 1 is in no statement's expression
abbrev pub left_over : Pools
left_over = small_with (node.Use (codes "A") ∷ node.Reduce op.Sub 0 ∷ node.Use (codes "A") ∷ [])

-- each node but the first has the one before it twice, so that the tree has 2^127 leaves
abbrev pub doubled : Pools
doubled = small_with (node.Use (codes "A") ∷ map (λ k. node.Two op.Add k k) (range_with_len 0 127))

-- the list of the input is that of `take`
abbrev pub one_list_twice : Pools
one_list_twice = record small { nodes = node.Use (codes "A") ∷ node.Take (record { start = 0; count = 1 }) 0 ∷ [] }

-- Those of `in A 2`, `let P = sub (neg A) 1` and `out C = cat P (P)`, where nodes stand in another order than in the text.
abbrev pub three_statements : Pools
three_statements = record {
  version = First;
  nodes = node.Number (pos 1) ∷ node.Use (codes "A") ∷ node.One unary.Neg 1 ∷ node.Two op.Sub 2 0 ∷ node.Use (codes "P") ∷ node.Use (codes "P") ∷ node.Cat 5 4 ∷ [];
  positions = placed 3 21 ∷ placed 3 18 ∷ placed 3 14 ∷ placed 3 9 ∷ placed 4 16 ∷ placed 4 13 ∷ placed 4 9 ∷ [];
  numbers = pos 2 ∷ [];
  statements = statement.Input (codes "A") (record { start = 0; count = 1 }) (placed 2 4)
      ∷ statement.Name (codes "P") 3 (placed 3 5) ∷ statement.Output (codes "C") 6 (placed 4 5) ∷ [];
}

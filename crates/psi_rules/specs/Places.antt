-- The scans in an expression of a pool, by where they are. This project's own.
use Rattle.std.specs.Prelude.{ℕ, ◌+◌, List, [], ◌∷◌, length}
use Rattle.moa_tree.specs.Expr.{Expr}
use Rattle.moa_tree.specs.Pool.{tree_at}
use Rattle.moa_tree.specs.Subexpressions.{scans_in}

-- how many there are in the trees of these nodes
abbrev pub scans_under : List Expr → List ℕ → ℕ
scans_under trees [] = 0
scans_under trees (number ∷ numbers) = length (scans_in (tree_at trees number)) + scans_under trees numbers

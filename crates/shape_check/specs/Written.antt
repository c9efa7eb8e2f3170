-- What the check of an expression writes into the table of the nodes' shapes. This project's own.
use Rattle.std.specs.Prelude.{◌≡◌, ◌<◌, ℕ, ◌==◌, List, [], MatchResult, Result, slice_get, slice_index_or, slice_set}
use Rattle.std.specs.List.{count_by}
use Rattle.moa_tree.specs.Pools.{Pools}
use Rattle.moa_tree.specs.ShapeOf.{shape_of}
use Rattle.shape_check.specs.declared.error.CheckError.{CheckError}
use Rattle.shape_check.specs.declared.known.Known.{Known}
use Rattle.shape_check.specs.Costs.{Prices, shapes_of}
use Rattle.shape_check.specs.Judged.{node_tree}

-- how often a number stands in a list
abbrev pub occurs : ℕ → List ℕ → ℕ
occurs n numbers = count_by (λ other. other == n) numbers

-- each of these nodes has its shape
abbrev pub AreWritten : Pools → Prices → List ℕ → List (List ℕ) → Type 0
AreWritten pools prices numbers shapes =
    (n : ℕ) → 0 < occurs n numbers → slice_index_or shapes n [] ≡ shape_of (shapes_of prices) (node_tree pools n)

-- the nodes that are not among these keep theirs
abbrev pub IsKept : List ℕ → List (List ℕ) → List (List ℕ) → Type 0
IsKept numbers old new = (n : ℕ) → occurs n numbers ≡ 0 → slice_get new n ≡ slice_get old n

-- the shape of a node that is accepted is written, and nothing else
abbrev pub IsSettled : ℕ → List (List ℕ) → List (List ℕ) → Result Known CheckError → Type 0
IsSettled number old new result = MatchResult result (λ known. new ≡ slice_set old number known.shape) (λ error. new ≡ old)

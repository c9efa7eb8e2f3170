-- What a program computes and stores, in this order: for each statement its scans, the last in the text first, so that one which stands in
-- another comes before it, and then its output. This project's own.
use Rattle.std.specs.Prelude.{ℕ, suc, ◌+◌, List, [], ◌∷◌, ◌++◌, length, reverse, None, Some}
use Rattle.std.specs.List.{sum_by}
use Rattle.moa_tree.specs.declared.tree.Job.{Job}
use Rattle.moa_tree.specs.Denotation.{scans_of}
use Rattle.moa_tree.specs.Expr.{Expr, Scan, Item, Input, Let, Output}
use Rattle.moa_tree.specs.Subexpressions.{subexpressions_of}

-- a job with its expression, whose node is numbered in the order of the text; that of a scan is what it folds along
pub record TreeJob : Type 0 where
  pub job : Job
  pub of : Expr

-- the scans among nodes, where areas and nodes are numbered from here on
abbrev pub scan_jobs : ℕ → ℕ → List Expr → List TreeJob
scan_jobs area node [] = []
scan_jobs area node (Scan fold of ∷ others) =
    record { job = record { area = area; node = suc node; fold = Some fold }; of = of } ∷ scan_jobs (suc area) (suc node) others
scan_jobs area node (_ ∷ others) = scan_jobs area (suc node) others

abbrev pub output_jobs : ℕ → ℕ → Item → List TreeJob
output_jobs area node (Input name extents) = []
output_jobs area node (Let name of) = []
output_jobs area node (Output name of) = record { job = record { area = area; node = node; fold = None }; of = of } ∷ []

-- those of a statement, whose output and first scan have these areas and whose first node has this number
abbrev pub jobs_of : ℕ → ℕ → ℕ → Item → List TreeJob
jobs_of output scan node item = reverse (scan_jobs scan node (subexpressions_of item)) ++ output_jobs output node item

abbrev pub jobs_from : ℕ → ℕ → ℕ → List Item → List TreeJob
jobs_from output scan node [] = []
jobs_from output scan node (item ∷ items) =
    jobs_of output scan node item
    ++ jobs_from (output + length (output_jobs output node item)) (scan + length (scans_of item)) (node + length (subexpressions_of item)) items

-- whether a statement declares an input, or stores an output: one or none
abbrev pub input_count : Item → ℕ
input_count (Input name extents) = 1
input_count (Let name of) = 0
input_count (Output name of) = 0

abbrev pub output_count : Item → ℕ
output_count (Input name extents) = 0
output_count (Let name of) = 0
output_count (Output name of) = 1

-- the areas of outputs come behind those of the inputs, and those of scans behind both
abbrev pub jobs : List Item → List TreeJob
jobs items = jobs_from (sum_by input_count items) (sum_by input_count items + sum_by output_count items) 0 items

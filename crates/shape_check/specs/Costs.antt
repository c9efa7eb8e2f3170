-- What a program costs, as whole numbers: its size bounds the text that it is compiled to, and its work the steps of a run. A name of `let`
-- counts as its expression at each use. This project's own.
use Rattle.std.specs.Prelude.{ℕ, ◌+◌, ◌*◌, List, [], ◌∷◌, map, slice_index, Option, None, Some}
use Rattle.std.specs.List.{sum_by}
use Rattle.shapes_core.specs.Shape.{total}
use Rattle.moa_tree.specs.declared.operator.Op.{Op}
use Rattle.moa_tree.specs.Axes.{naturals}
use Rattle.moa_tree.specs.Expr.{Expr, Number, Use, Iota, One, Two, Psi, Take, Drop, Reverse, Rotate, Transpose, Permute, Cat, Reshape, Ravel, Outer, Inner, Reduce, Scan, Item, Input, Let, Output}
use Rattle.moa_tree.specs.ShapeOf.{beside, Shapes, shape_of}
use Rattle.shape_check.specs.Jobs.{TreeJob, jobs_of}

-- what a name stands for: the shape of its array, and what one use of it counts
pub record Priced : Type 0 where
  pub shape : List ℕ
  pub nodes : ℕ
  pub work : ℕ

-- the earlier names with theirs
abbrev pub Prices : Type 0
Prices = List (List ℕ × Priced)

-- an array that is stored: an input or an output
abbrev pub stored : List ℕ → Priced
stored shape = record { shape = shape; nodes = 1; work = 1 }

abbrev pub price : Prices → List ℕ → Priced
price prices name = beside (stored []) prices name

-- the shapes of the earlier names, and that of an expression among them
abbrev pub shapes_of : Prices → Shapes
shapes_of prices = map (λ entry. (entry.0, entry.1.shape)) prices

abbrev pub shape_in : Prices → Expr → List ℕ
shape_in prices expr = shape_of (shapes_of prices) expr

-- the nodes of an expression; a scan in it is an array that is stored
abbrev pub nodes : Prices → Expr → ℕ
nodes prices (Number value) = 1
nodes prices (Use name) = (price prices name).nodes
nodes prices (Iota extent) = 1
nodes prices (One op of) = 1 + nodes prices of
nodes prices (Two op left right) = 1 + (nodes prices left + nodes prices right)
nodes prices (Psi list of) = 1 + nodes prices of
nodes prices (Take list of) = 1 + nodes prices of
nodes prices (Drop list of) = 1 + nodes prices of
nodes prices (Reverse of) = 1 + nodes prices of
nodes prices (Rotate by of) = 1 + nodes prices of
nodes prices (Transpose of) = 1 + nodes prices of
nodes prices (Permute list of) = 1 + nodes prices of
nodes prices (Cat left right) = 1 + (nodes prices left + nodes prices right)
nodes prices (Reshape list of) = 1 + nodes prices of
nodes prices (Ravel of) = 1 + nodes prices of
nodes prices (Outer op left right) = 1 + (nodes prices left + nodes prices right)
nodes prices (Inner fold op left right) = 1 + (nodes prices left + nodes prices right)
nodes prices (Reduce fold of) = 1 + nodes prices of
nodes prices (Scan fold of) = 1

-- the work for one element of an expression: a fold does that of its operand for each element that it folds
abbrev pub element_work : Prices → Expr → ℕ
element_work prices (Number value) = 1
element_work prices (Use name) = (price prices name).work
element_work prices (Iota extent) = 1
element_work prices (One op of) = 1 + element_work prices of
element_work prices (Two op left right) = 1 + (element_work prices left + element_work prices right)
element_work prices (Psi list of) = 1 + element_work prices of
element_work prices (Take list of) = 1 + element_work prices of
element_work prices (Drop list of) = 1 + element_work prices of
element_work prices (Reverse of) = 1 + element_work prices of
element_work prices (Rotate by of) = 1 + element_work prices of
element_work prices (Transpose of) = 1 + element_work prices of
element_work prices (Permute list of) = 1 + element_work prices of
element_work prices (Cat left right) = 1 + (element_work prices left + element_work prices right)
element_work prices (Reshape list of) = 1 + element_work prices of
element_work prices (Ravel of) = 1 + element_work prices of
element_work prices (Outer op left right) = 1 + (element_work prices left + element_work prices right)
element_work prices (Inner fold op left right) =
    1 + slice_index (shape_in prices right) 0 * (2 + (element_work prices left + element_work prices right))
element_work prices (Reduce fold of) = 1 + slice_index (shape_in prices of) 0 * (1 + element_work prices of)
element_work prices (Scan fold of) = 1

-- a scan is one operator more than its operand
abbrev pub own : Option Op → ℕ
own None = 0
own (Some op) = 1

-- the size of a job, and its work: that of each of its elements, and of one more
abbrev pub job_size : Prices → TreeJob → ℕ
job_size prices tree_job = 2 + (own tree_job.job.fold + nodes prices tree_job.of)

abbrev pub job_work : Prices → TreeJob → ℕ
job_work prices tree_job = (1 + total (shape_in prices tree_job.of)) * (1 + (own tree_job.job.fold + element_work prices tree_job.of))

-- the names after a statement
abbrev pub prices_after : Prices → Item → Prices
prices_after prices (Input name extents) = (name, stored (naturals extents)) ∷ prices
prices_after prices (Let name of) =
    (name, record { shape = shape_in prices of; nodes = nodes prices of; work = element_work prices of }) ∷ prices
prices_after prices (Output name of) = (name, stored (shape_in prices of)) ∷ prices

-- the sum over the jobs of these statements
abbrev pub sum_over : (Prices → TreeJob → ℕ) → Prices → List Item → ℕ
sum_over cost prices [] = 0
sum_over cost prices (item ∷ items) = sum_by (cost prices) (jobs_of 0 0 0 item) + sum_over cost (prices_after prices item) items

abbrev pub size : List Item → ℕ
size items = sum_over job_size [] items

abbrev pub work : List Item → ℕ
work items = sum_over job_work [] items

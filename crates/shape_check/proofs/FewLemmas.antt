-- A program has no more jobs than its size.
use Rattle.std.specs.Prelude.{◌≡◌, ℕ, suc, ◌+◌, ◌≤◌, List, [], ◌∷◌, length, reverse, Ok}
use Rattle.std.specs.List.{sum_by}
use Rattle.std.proofs.Common.{refl, ap, arith}
use Rattle.std.proofs.lemmas.List.{length-append, length-reverse}
use Rattle.std.proofs.lemmas.List.Sums.{sum_by-cons}
use Rattle.shapes_core.specs.Limits.{greatest_size}
use Rattle.moa_tree.specs.Denotation.{scans_of}
use Rattle.moa_tree.specs.Expr.{Expr, Number, Use, Iota, One, Two, Psi, Take, Drop, Reverse, Rotate, Transpose, Permute, Cat, Reshape, Ravel, Outer, Inner, Reduce, Scan, Item, Input, Let, Output}
use Rattle.moa_tree.specs.ShapeOf.{Shapes}
use Rattle.moa_tree.specs.Subexpressions.{subexpressions_of}
use Rattle.shape_check.specs.Costs.{Prices, job_size, prices_after, sum_over}
use Rattle.shape_check.specs.Jobs.{TreeJob, input_count, jobs, jobs_from, jobs_of, output_count, output_jobs, scan_jobs}
use Rattle.shape_check.specs.Statements.{verdict_of}
use Rattle.shape_check.proofs.ItemLemmas.{limits-kept, program-sound}

-- how many there are does not hang on the numbers of areas and nodes
scans-same : (area node : ℕ) (exprs : List Expr) → length (scan_jobs area node exprs) ≡ length (scan_jobs 0 0 exprs)
scans-same area node exprs = as-many area node 0 0 exprs where
  as-many : (area node other number : ℕ) (exprs : List Expr) → length (scan_jobs area node exprs) ≡ length (scan_jobs other number exprs)
  as-many area node other number [] = refl
  as-many area node other number (Scan fold of ∷ others) = ap suc (as-many (suc area) (suc node) (suc other) (suc number) others)
  as-many area node other number (Number value ∷ others) = as-many area (suc node) other (suc number) others
  as-many area node other number (Use name ∷ others) = as-many area (suc node) other (suc number) others
  as-many area node other number (Iota extent ∷ others) = as-many area (suc node) other (suc number) others
  as-many area node other number (One op of ∷ others) = as-many area (suc node) other (suc number) others
  as-many area node other number (Two op left right ∷ others) = as-many area (suc node) other (suc number) others
  as-many area node other number (Psi list of ∷ others) = as-many area (suc node) other (suc number) others
  as-many area node other number (Take list of ∷ others) = as-many area (suc node) other (suc number) others
  as-many area node other number (Drop list of ∷ others) = as-many area (suc node) other (suc number) others
  as-many area node other number (Reverse of ∷ others) = as-many area (suc node) other (suc number) others
  as-many area node other number (Rotate by of ∷ others) = as-many area (suc node) other (suc number) others
  as-many area node other number (Transpose of ∷ others) = as-many area (suc node) other (suc number) others
  as-many area node other number (Permute list of ∷ others) = as-many area (suc node) other (suc number) others
  as-many area node other number (Cat left right ∷ others) = as-many area (suc node) other (suc number) others
  as-many area node other number (Reshape list of ∷ others) = as-many area (suc node) other (suc number) others
  as-many area node other number (Ravel of ∷ others) = as-many area (suc node) other (suc number) others
  as-many area node other number (Outer op left right ∷ others) = as-many area (suc node) other (suc number) others
  as-many area node other number (Inner fold op left right ∷ others) = as-many area (suc node) other (suc number) others
  as-many area node other number (Reduce fold of ∷ others) = as-many area (suc node) other (suc number) others

outputs-same : (area node : ℕ) (item : Item) → length (output_jobs area node item) ≡ length (output_jobs 0 0 item)
outputs-same area node (Input name extents) = refl
outputs-same area node (Let name of) = refl
outputs-same area node (Output name of) = refl

both : (output scan node : ℕ) (item : Item)
    → length (jobs_of output scan node item) ≡ length (scan_jobs scan node (subexpressions_of item)) + length (output_jobs output node item)
both output scan node item =
    let scans = scan_jobs scan node (subexpressions_of item) in
    omega (arith, length-append (reverse scans) (output_jobs output node item), length-reverse scans)

jobs-same : (output scan node : ℕ) (item : Item) → length (jobs_of output scan node item) ≡ length (jobs_of 0 0 0 item)
jobs-same output scan node item =
    omega (
      arith,
      both output scan node item,
      both 0 0 0 item,
      scans-same scan node (subexpressions_of item),
      outputs-same output node item,
    )

-- each costs something
each-sized : (prices : Prices) (these : List TreeJob) → length these ≤ sum_by (job_size prices) these
each-sized prices [] = omega arith
each-sized prices (first ∷ others) = omega (arith, sum_by-cons (job_size prices) first others, each-sized prices others)

few-from : (output scan node : ℕ) (prices : Prices) (items : List Item) → length (jobs_from output scan node items) ≤ sum_over job_size prices items
few-from output scan node prices [] = omega arith
few-from output scan node prices (item ∷ items) =
    let later = jobs_from (output + length (output_jobs output node item)) (scan + length (scans_of item)) (node + length (subexpressions_of item)) items in
    omega (
      arith,
      length-append (jobs_of output scan node item) later,
      jobs-same output scan node item,
      each-sized prices (jobs_of 0 0 0 item),
      few-from (output + length (output_jobs output node item)) (scan + length (scans_of item)) (node + length (subexpressions_of item))
          (prices_after prices item) items,
    )

pub jobs-few : (items : List Item) (shapes : Shapes) → verdict_of items ≡ Ok shapes → length (jobs items) ≤ greatest_size
jobs-few items shapes h =
    omega (
      arith,
      few-from (sum_by input_count items) (sum_by input_count items + sum_by output_count items) 0 [] items,
      (limits-kept items (program-sound items shapes h).limits).0,
    )

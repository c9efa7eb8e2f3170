-- How large the forms of a program's jobs are, and what they ask for work. This project's own.
use Rattle.std.specs.Prelude.{ℕ, ◌+◌, ◌*◌, List, [], ◌∷◌}
use Rattle.std.specs.declared.option.Option.{Option}
use Rattle.std.specs.declared.option.Option.TheVariants.{None, Some}
use Rattle.shapes_core.specs.Shape.{total}
use Rattle.normal_form.specs.Forms.{Normal}
use Rattle.psi_rules.specs.Areas.{Given}
use Rattle.stride_form.specs.Operational.{operational}
use Rattle.nest_build.specs.Bounds.{terms}

-- the terms of a job's form and two more, where it has one; and those of all these jobs
abbrev pub form_size : Option Normal → ℕ
form_size None = 0
form_size (Some form) = 2 + terms (operational form)

abbrev pub form_sizes : List (Option Normal) → ℕ
form_sizes [] = 0
form_sizes (form ∷ forms) = form_size form + form_sizes forms

-- its terms and one more, for each element of its array and for one more; and those of all these jobs
abbrev pub form_work : Option Normal → Given → ℕ
form_work None array = 0
form_work (Some form) array = (1 + total array.shape) * (1 + terms (operational form))

abbrev pub form_works : List (Option Normal) → List Given → ℕ
form_works [] arrays = 0
form_works (form ∷ forms) [] = 0
form_works (form ∷ forms) (array ∷ arrays) = form_work form array + form_works forms arrays

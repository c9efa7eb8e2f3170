-- The forms of a program as text, a line a job, and its nests. This project's own, after Mullin and Thibault (1994).
use Rattle.std.specs.Prelude.{ℕ, List, Option, map, take}
use Rattle.std.specs.List.{flat_map, zip}
use Rattle.std.specs.Option.{option_map}
use Rattle.shapes_core.specs.declared.area.Area.{Area}
use Rattle.moa_tree.specs.declared.tree.Job.{Job}
use Rattle.moa_tree.specs.Expr.{Item}
use Rattle.shape_check.specs.Jobs.{TreeJob, jobs}
use Rattle.shape_check.specs.Layout.{areas}
use Rattle.normal_form.specs.Forms.{Normal}
use Rattle.psi_rules.specs.Jobs.{forms}
use Rattle.psi_rules.specs.Scopes.{job_shapes}
use Rattle.stride_form.specs.Rules.{operational_on}
use Rattle.form_text.specs.NestSpelling.{nest_lines}
use Rattle.form_text.specs.Spelling.{normal_line, operational_line}
use Rattle.loop_ir.specs.Steps.{Steps}
use Rattle.nest_jobs.specs.Leads.{nests}
use Rattle.psi_top.specs.declared.forms.FormKind.{FormKind}
use Rattle.psi_top.specs.declared.forms.FormKind.TheVariants as kind

-- how a job is spelled among areas, with the shape of its array and its form
abbrev pub Spelled : Type 0
Spelled = List Area → Job → List ℕ → Option Normal → List ℕ

-- its line, with each load by a start and strides, and without index arithmetic that undoes itself on the whole of its array
abbrev pub strided_line : Spelled
strided_line areas job shape form = operational_line areas job shape (option_map (operational_on (map (λ n. (0, n)) shape)) form)

-- a job with the shape of its array and its form
abbrev pub Formed : Type 0
Formed = TreeJob × (List ℕ × Option Normal)

-- the jobs of a program, in order
abbrev pub formed : List Item → List Formed
formed items = zip (jobs items) (zip (job_shapes items) (forms items))

-- the lines of some of them
abbrev pub spelled_all : Spelled → List Item → List Formed → List ℕ
spelled_all spelled items jobs = flat_map (λ job. spelled (areas items) job.0.job job.1.0 job.1.1) jobs

-- the denotational normal forms of all jobs, and the operational ones
abbrev pub dnf : List Item → List ℕ
dnf items = spelled_all normal_line items (formed items)

abbrev pub onf : List Item → List ℕ
onf items = spelled_all strided_line items (formed items)

-- how forms of a kind are spelled
abbrev pub spelled_as : FormKind → Spelled
spelled_as kind.Normal = normal_line
spelled_as kind.Operational = strided_line

-- the forms of a kind: of all jobs, and of the first ones
abbrev pub shown : FormKind → List Item → List ℕ
shown of items = spelled_all (spelled_as of) items (formed items)

abbrev pub shown_first : FormKind → List Item → ℕ → List ℕ
shown_first of items count = spelled_all (spelled_as of) items (take count (formed items))

-- ---- nests

-- the lines of these jobs' nests
abbrev pub nest_rows : List Area → List (TreeJob × Steps) → List ℕ
nest_rows areas jobs = flat_map (λ job. nest_lines areas job.0.job job.1) jobs

-- the nests of all jobs, and of the first ones
abbrev pub nest : List Item → List ℕ
nest items = nest_rows (areas items) (zip (jobs items) (nests items))

abbrev pub nest_first : List Item → ℕ → List ℕ
nest_first items count = nest_rows (areas items) (take count (zip (jobs items) (nests items)))

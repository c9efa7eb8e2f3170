use Rattle.std.specs.Prelude.{◌≤◌, Some}
use Rattle.shape_check.specs.Costs.{job_size, job_work}
use Rattle.nest_jobs.specs.Outputs.{array_of, dues, form_of, job_of}
use Rattle.nest_jobs.specs.Sizes.{form_size, form_work}
use Rattle.nest_jobs.proofs.ListLemmas.{each-at}
use Rattle.psi_rules.specs.Jobs.{forms}
use Rattle.nest_jobs.proofs.SizeLemmas.{size-at, sizes-of-each, sizes-small, works-of-each, works-small}
use Rattle.std.proofs.Common.{arith}
use Rattle.nest_jobs.proofs.laws.forms_are_small.Goals as goal

pub returns-clause-sizes : goal.returns-clause-sizes
returns-clause-sizes c = sizes-small c.block_laws.ensures

pub returns-clause-works : goal.returns-clause-works
returns-clause-works c = works-small c.block_laws.ensures

pub returns-clause-each : goal.returns-clause-each
returns-clause-each c = λ items number form plain e.
    omega (arith, size-at (forms items) number (Some form) e, sizes-small c.block_laws.ensures items plain)

pub returns-clause-size_of_one : goal.returns-clause-size_of_one
returns-clause-size_of_one c = λ inputs items number due plain e.
    each-at (λ d. form_size (form_of d) ≤ job_size d.scene.prices (job_of d)) (dues inputs items)
    (sizes-of-each c.block_laws.ensures inputs items plain) number due e

pub returns-clause-work_of_one : goal.returns-clause-work_of_one
returns-clause-work_of_one c = λ inputs items number due plain e.
    each-at (λ d. form_work (form_of d) (array_of d) ≤ job_work d.scene.prices (job_of d)) (dues inputs items)
    (works-of-each c.block_laws.ensures inputs items plain) number due e

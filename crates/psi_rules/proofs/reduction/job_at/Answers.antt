use Rattle.std.specs.Prelude.{◌<◌, length, slice_get}
use Rattle.std.proofs.Common.{ap, sym, subst, ◌∙◌}
use Rattle.std.proofs.lemmas.Option.{slice_get-get_or}
use Rattle.moa_tree.specs.Pools.{IsProgram}
use Rattle.psi_rules.proofs.ReduceLemmas.{job-facts}
use Rattle.psi_rules.proofs.reduction.job_at.Goals as goal

pub returns-clause-facts : goal.returns-clause-facts
returns-clause-facts c = λ tables known.
    let inside = subst (λ l. c.args.number < length l) (sym c.jobs.ensures) c.requires in
    job-facts c.jobs_are_tasks.ensures.tasks c.jobs_are_tasks.ensures.scans c.jobs_are_tasks.ensures.there c.nodes_have_shapes.ensures.jobs
    c.args.checked.now (subst IsProgram c.program.ensures.value c.statements-statements.ensures.program) c.program.ensures.checked tables known
    c.args.number _
    (ap (λ l. slice_get l c.args.number) (sym c.jobs.ensures) ∙ slice_get-get_or c.jobs.result.now c.args.number _ inside)

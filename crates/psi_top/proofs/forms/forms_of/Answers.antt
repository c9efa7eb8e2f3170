use Rattle.std.proofs.Common.{◌≤◌, length, ◌∙◌, arith}
use Rattle.psi_top.proofs.ShownLemmas.{lines-all}
use Rattle.psi_top.proofs.forms.forms_of.Goals as goal

pub returns-clause-made : goal.returns-clause-made
returns-clause-made c =
    let checking = c.args.checked.now in
    let all : length checking.jobs ≤ c.loop-job.job = omega (arith, c.job_count-count.ensures, c.loop-job-test.false) in
    c.loop-job.invariant ∙ lines-all c.args.kind checking c.loop-job.job c.program-program.ensures.checked all

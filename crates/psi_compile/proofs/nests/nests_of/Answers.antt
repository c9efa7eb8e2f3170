use Rattle.std.proofs.Common.{◌≤◌, length, ◌∙◌, arith}
use Rattle.loop_ir.specs.Pool.{tree}
use Rattle.nest_jobs.specs.Leads.{nests}
use Rattle.shape_check.specs.Judged.{items_in}
use Rattle.psi_compile.proofs.MadeLemmas.{all-made, one-more}
use Rattle.psi_compile.proofs.nests.nests_of.Goals as goal

pub loop-job-preserved : goal.loop-job-preserved
loop-job-preserved c =
    one-more tree c.loop-job.made.items c.push.new.self.items c.in_ok-nest_of.field-0
    (nests (items_in c.args.checked.now.pools)) c.loop-job.job
    c.loop-job.invariant c.in_ok-push.ensures.items c.in_ok-nest_of.ensures

pub returns : goal.returns
returns c =
    let checking = c.args.checked.now in
    let all : length checking.jobs ≤ c.loop-job.job = omega (arith, c.job_count-count.ensures, c.loop-job-test.false) in
    c.loop-job.invariant ∙ all-made checking c.loop-job.job c.program-program.ensures.checked all

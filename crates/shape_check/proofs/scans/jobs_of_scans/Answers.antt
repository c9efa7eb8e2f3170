use Rattle.std.proofs.Common.{arith}
use Rattle.std.proofs.lemmas.Grind.{common_steps}
use Rattle.std.proofs.lemmas.List.{take_more}
use Rattle.shape_check.proofs.ScanLemmas.{numbered_more}
use Rattle.shape_check.proofs.scans.jobs_of_scans.Goals as goal

pub loop-place-preserved : goal.loop-place-preserved
loop-place-preserved c = grind (arith, common_steps, take_more, numbered_more, c.in_ok-push.ensures.items)

use Rattle.std.proofs.Common.{◌≡◌, map, take}
use Rattle.loop_ir.specs.Pool.{tree}
use Rattle.nest_jobs.specs.Leads.{nests}
use Rattle.shape_check.specs.Judged.{items_in}
use Rattle.psi_compile.proofs.nests.nests_of.Given as goal

-- those of the jobs so far
abbrev pub invariant-loop-job : goal.invariant-loop-job
invariant-loop-job l = map tree l.made.items ≡ take l.job (nests (items_in l.checked.pools))

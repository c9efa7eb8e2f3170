use Rattle.std.proofs.Common.{◌≡◌, take}
use Rattle.shape_check.specs.Scans.{numbered_jobs}
use Rattle.shape_check.proofs.scans.jobs_of_scans.Given as goal

abbrev pub invariant-loop-place : goal.invariant-loop-place
invariant-loop-place l = l.jobs.items ≡ numbered_jobs l.area (take l.place l.scans)

use Rattle.std.proofs.Common.{◌≡◌, ◌++◌, take}
use Rattle.psi_top.specs.Report.{extents_text}
use Rattle.psi_top.proofs.report.push_extents.Given as goal

abbrev pub invariant-loop-extent : goal.invariant-loop-extent
invariant-loop-extent l = l.report.items ≡ l.initial.report.items ++ extents_text (take l.extent-index l.extent-items)

use Rattle.std.proofs.Common.{take}
use Rattle.std.specs.Prelude.{All}
use Rattle.std.specs.List.{sum_by}
use Rattle.shape_check.specs.Costs.{Prices}
use Rattle.shape_check.specs.Judged.{AreNames}
use Rattle.shape_check.specs.Scans.{IsShaped, IsWith, scan_size, scan_work}
use Rattle.shape_check.proofs.totals.with_scans.Given as goal

abbrev pub invariant-loop-scan : goal.invariant-loop-scan
invariant-loop-scan l = (prices : Prices) → AreNames l.names prices → All (IsShaped l.program prices l.shapes) l.scans
    → IsWith (sum_by (scan_size l.program prices) (take l.scan-index l.scans)) (sum_by (scan_work l.program prices) (take l.scan-index l.scans)) l.fn.totals l.sum

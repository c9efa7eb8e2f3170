use Rattle.std.proofs.Common.{◌≡◌, take}
use Rattle.std.specs.List.{flat_map, zip}
use Rattle.shape_check.specs.Judged.{items_in}
use Rattle.shape_check.specs.Layout.{statement_shapes}
use Rattle.psi_top.specs.Report.{statement_line}
use Rattle.psi_top.proofs.report.report_on.Given as goal

-- the statements so far
abbrev pub invariant-loop-number : goal.invariant-loop-number
invariant-loop-number l =
    let items = items_in l.checked.pools in
    l.report.items ≡ flat_map statement_line (take l.number (zip items (statement_shapes items)))

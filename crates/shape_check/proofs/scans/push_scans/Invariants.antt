use Rattle.std.proofs.Common.{◌≡◌, ◌+◌, ◌++◌, [], length, map, take, slice_index_or}
use Rattle.shape_check.specs.Layout.{numbered}
use Rattle.shape_check.proofs.scans.push_scans.Given as goal

abbrev pub invariant-loop-scan : goal.invariant-loop-scan
invariant-loop-scan l = record {
  arrays : l.arrays.items
      ≡ l.initial.arrays.items ++ numbered (length l.initial.arrays.items) (map (λ scan. slice_index_or l.shapes scan.node []) (take l.scan-index l.scans));
  longer : length l.arrays.items ≡ length l.initial.arrays.items + l.scan-index;
}

use Rattle.std.proofs.Common.{◌+◌, ◌≤◌, length}
use Rattle.std.specs.Str.Lines.{lines}
use Rattle.rv_reader.specs.RowsSoFar.{IsRowsSoFar}
use Rattle.rv_reader.specs.Tracked.{IsTracked}
use Rattle.rv_reader.proofs.rows.read_rows.Given as goal

abbrev pub invariant-loop-row : goal.invariant-loop-row
invariant-loop-row l = record {
  so_far : IsRowsSoFar l.spill (lines l.text) l.place l.areas.areas.items (lines l.rest);
  tracked : IsTracked l.areas.areas.items l.areas.known l.areas.words l.areas.next;
  small : l.place + length l.rest ≤ 4 + length l.text;
  count : length l.areas.areas.items + length l.rest ≤ length l.text;
}

abbrev pub decreases-loop-row : goal.decreases-loop-row
decreases-loop-row l = length l.rest

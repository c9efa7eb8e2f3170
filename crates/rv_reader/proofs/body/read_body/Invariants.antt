use Rattle.std.proofs.Common.{◌+◌, ◌≤◌, length}
use Rattle.std.specs.Prelude.{map}
use Rattle.std.specs.Str.Lines.{lines}
use Rattle.rv_reader.specs.Bodies.{IsSoFar}
use Rattle.rv_reader.specs.Views.{drafted}
use Rattle.rv_reader.proofs.body.read_body.Given as goal

abbrev pub invariant-loop-line : goal.invariant-loop-line
invariant-loop-line l = record {
  so_far : IsSoFar l.first (lines l.text) l.place (length l.body.drafts.items) l.body.labels (map drafted l.body.drafts.items) l.body.places.items (lines l.rest);
  small : l.place + length l.rest ≤ l.first + length l.text;
  count : length l.body.drafts.items + length l.rest ≤ length l.text;
}

abbrev pub decreases-loop-line : goal.decreases-loop-line
decreases-loop-line l = length l.rest

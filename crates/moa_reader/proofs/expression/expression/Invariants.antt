use Rattle.std.proofs.Common.{◌+◌, ◌*◌, ◌≤◌, length}
use Rattle.moa_reader.specs.Rooms.{Spends, begun}
use Rattle.moa_reader.specs.Standing.{Stands}
use Rattle.moa_reader.proofs.expression.expression.Given as goal

abbrev pub invariant-forms : goal.invariant-forms
invariant-forms l = record {
  stands : Stands l.fn.source l.fn.builder l.frames l.head l.source l.builder;
  spent : Spends 0 l.fn.source l.fn.builder (length l.frames + begun l.head) l.source l.builder;
  fewer : length l.source.behind ≤ length l.fn.source.behind;
}

abbrev pub decreases-forms : goal.decreases-forms
decreases-forms l = 2 * length l.source.behind + length l.frames

use Rattle.std.proofs.Common.{◌≡◌, ◌-◌, ◌≤◌, length, take}
use Rattle.psi_edges.specs.Calls.{AreOffered}
use Rattle.psi_edges.specs.Held.{Appends}
use Rattle.psi_edges.proofs.whole.write_whole.Given as goal

-- the sink holds the bytes put so far
abbrev pub invariant-loop-done : goal.invariant-loop-done
invariant-loop-done g l = record {
  within : l.done ≤ length l.bytes;
  offered : AreOffered g.K.Sink.puts l.bytes l.fn.sink l.done l.sink;
  held : Appends (g.K.Sink.held l.fn.sink) (g.K.Sink.held l.sink) (take l.done l.bytes);
  same : g.K.Sink.faults l.sink ≡ g.K.Sink.faults l.fn.sink;
}

abbrev pub decreases-loop-done : goal.decreases-loop-done
decreases-loop-done g l = length l.bytes - l.done

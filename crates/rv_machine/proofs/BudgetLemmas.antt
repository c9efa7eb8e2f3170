-- Runs that follow one another, where chains of steps compose.
use Rattle.std.proofs.Common.{ℕ, ◌+◌, List, arith}
use Rattle.rv_line.specs.declared.line.Line.{Line}
use Rattle.rv_steps.specs.Machine.{Config}
use Rattle.rv_steps.specs.Stops.{End, Done, Budget, Stopped, Reaches, Stops}
use Rattle.rv_machine.specs.Budgets.{end_after}

pub stops_after : (compose : (lines : List Line) (base m n : ℕ) (c d e : Config) → Reaches lines base m c d → Reaches lines base n d e → Reaches lines base (m + n) c e) (lines : List Line) (base m n : ℕ) (c d e : Config) (end : End) → Stops lines base m c Budget d → Stops lines base n d end e → Stops lines base (m + n) c (end_after m end) e
stops_after compose lines base m n c d e (Done steps) first second =
    (omega arith, record { reaches = compose lines base m steps c d e first.0 second.1.reaches; at_end = second.1.at_end })
stops_after compose lines base m n c d e Budget first second = (compose lines base m n c d e first.0 second.0, second.1)
stops_after compose lines base m n c d e (Stopped stop) first second =
    record { steps = m + second.steps; within = omega arith; reaches = compose lines base m second.steps c d e first.0 second.reaches; stopped = second.stopped }

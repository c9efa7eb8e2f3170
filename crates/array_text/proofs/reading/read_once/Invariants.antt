use Rattle.std.proofs.Common.{◌≡◌, length}
use Rattle.array_text.specs.Outcome.{Outcome, Want, outcome_along, outcome_of}
use Rattle.array_text.specs.Sources.{all}
use Rattle.array_text.proofs.reading.read_once.Given as goal

abbrev pub invariant-arrays : goal.invariant-arrays
invariant-arrays l = record {
  passes : outcome_of l.fn.declared l.fn.text ≡ outcome_along l.fn.declared (Outcome.Goes l.slots Want.AnArray) (all l.source);
  same : length l.slots ≡ length l.fn.declared;
}

abbrev pub decreases-arrays : goal.decreases-arrays
decreases-arrays l = length l.source.behind

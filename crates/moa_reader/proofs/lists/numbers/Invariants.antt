use Rattle.std.proofs.Common.{length}
use Rattle.moa_reader.specs.Rooms.{Spends}
use Rattle.moa_reader.proofs.ListLemmas.{SameNumbers}
use Rattle.moa_reader.proofs.lists.numbers.Given as goal

abbrev pub invariant-loop-value : goal.invariant-loop-value
invariant-loop-value l = record {
  same : SameNumbers l.initial.source l.initial.builder l.source l.builder;
  spent : Spends 0 l.initial.source l.initial.builder 0 l.source l.builder;
}

abbrev pub decreases-loop-value : goal.decreases-loop-value
decreases-loop-value l = length l.source.behind

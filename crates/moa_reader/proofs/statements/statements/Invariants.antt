use Rattle.std.proofs.Common.{false, length}
use Rattle.moa_reader.specs.Rooms.{Spends}
use Rattle.moa_reader.specs.Statements.{ReadsStatements}
use Rattle.moa_reader.proofs.statements.statements.Given as goal

abbrev pub invariant-statements : goal.invariant-statements
invariant-statements l = record {
  reads : ReadsStatements false l.initial.source l.initial.builder l.has_output l.source l.builder;
  spent : Spends 0 l.initial.source l.initial.builder 0 l.source l.builder;
}

abbrev pub decreases-statements : goal.decreases-statements
decreases-statements l = length l.source.behind

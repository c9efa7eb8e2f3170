use Rattle.std.proofs.Common.{drop}
use Rattle.rv_emit.specs.Programs.{pairs}
use Rattle.rv_emit.proofs.ProgramCodeLemmas.{Leads}
use Rattle.rv_emit.proofs.emission.emit_nests.Given as goal

abbrev pub invariant-loop-place : goal.invariant-loop-place
invariant-loop-place l =
    Leads l.spill (pairs l.nests l.homes) (drop l.place (pairs l.nests l.homes)) l.fn.lines.items l.lines.items l.steps

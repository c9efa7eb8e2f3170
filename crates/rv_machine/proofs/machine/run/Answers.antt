use Rattle.std.proofs.Common.{subst, length, List, arith}
use Rattle.rv_line.specs.declared.line.Line.{Line}
use Rattle.rv_machine.specs.Flows.{IsOff}
use Rattle.rv_machine.proofs.machine.run.Goals as goal

pub returns-in-None-clause-stops : goal.returns-in-None-clause-stops
returns-in-None-clause-stops c =
    let off = subst (λ (lines : List Line). IsOff (length lines) c.args.regs.now.pc) c.lines-lines.ensures.value c.in-None.ensures in
    c.chains_go_on.ensures.off _ _ _ _ _ _ (omega arith) (c.chains_go_on.ensures.start _ _ _) off _ c.off_text.ensures

pub returns-in-None-clause-outcome : goal.returns-in-None-clause-outcome
returns-in-None-clause-outcome c = c.runs_stop.ensures.only _ _ _ _ _ _ (returns-in-None-clause-stops c)

use Rattle.psi_compile.proofs.UnbuiltLemmas.{all_none, statement_first, statement_none}
use Rattle.psi_compile.proofs.built.first_node.Goals as goal

pub returns-in-Some : goal.returns-in-Some
returns-in-Some c =
    statement_first c.args.program.now c.statements-statement-items.result.now c.statements-statement-items.ensures.value
    c.loop-statement.statement-index c.statement-item.result c.statement-item.is c.loop-statement-test.true c.loop-statement.invariant
    c.in-Some.found c.in-Some.ensures

pub loop-statement-preserved : goal.loop-statement-preserved
loop-statement-preserved c =
    statement_none c.args.program.now c.statements-statement-items.result.now c.statements-statement-items.ensures.value
    c.loop-statement.statement-index c.statement-item.result c.statement-item.is c.loop-statement-test.true c.loop-statement.invariant
    c.in_default.ensures

pub returns : goal.returns
returns c =
    all_none c.args.program.now c.statements-statement-items.result.now c.statements-statement-items.ensures.value
    c.loop-statement.statement-index c.loop-statement-test.false c.loop-statement.invariant

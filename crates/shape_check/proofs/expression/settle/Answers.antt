use Rattle.shape_check.proofs.ExpressionLemmas.{fails-itself}
use Rattle.shape_check.proofs.expression.settle.Goals as goal

pub returns-in-Err-clause-judged : goal.returns-in-Err-clause-judged
returns-in-Err-clause-judged c = λ prices operated.
    let walk = c.node_laws.ensures.walks c.args.number c.requires.there in
    rw c.error_at.ensures (
    fails-itself c.args.program.now prices c.args.number _ c.position.result c.in-Err.broken walk c.position.ensures (rw c.in-Err.is at operated)
    )

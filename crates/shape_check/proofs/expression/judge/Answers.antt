use Rattle.shape_check.proofs.ExpressionLemmas.{all-shaped}
use Rattle.shape_check.proofs.expression.judge.Goals as goal

pub returns-clause-shaped : goal.returns-clause-shaped
returns-clause-shaped c = λ prices names.
    all-shaped c.args.program.now prices c.args.number c.judge_node.new.shapes c.judge_node.result (c.node_laws.ensures.expressions c.args.number c.requires.there) (c.judge_node.ensures.written prices names)

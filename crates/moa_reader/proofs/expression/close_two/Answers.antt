use Rattle.moa_reader.proofs.StandingLemmas.{two_closes}
use Rattle.moa_reader.proofs.expression.close_two.Goals as goal

pub returns-clause-stands : goal.returns-clause-stands
returns-clause-stands c = λ first here before frames read.
    two_closes c.pools_keep.ensures.node c.pools_keep.ensures.places first here before c.args.builder.now c.node-2.new.self frames c.args.form c.args.at c.args.left c.args.right c.in_ok-node.node
    c.node.result read c.node.ensures.operands c.node.ensures.lists c.node.ensures.expr c.in_ok-node.ensures.added c.in_ok-node.ensures.number
    c.in_ok-node.ensures.tree

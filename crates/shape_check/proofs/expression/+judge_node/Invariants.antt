use Rattle.shape_check.proofs.expression.+judge_node.Given as goal

abbrev pub decreases-judge_node : goal.decreases-judge_node
decreases-judge_node l = l.number

use Rattle.nest_build.proofs.numbers.+push_literals.Given as goal

abbrev pub decreases-push_literals : goal.decreases-push_literals
decreases-push_literals l = l.number

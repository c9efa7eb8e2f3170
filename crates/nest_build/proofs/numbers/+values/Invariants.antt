use Rattle.nest_build.proofs.numbers.+values.Given as goal

abbrev pub decreases-values : goal.decreases-values
decreases-values l = l.number

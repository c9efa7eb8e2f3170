use Rattle.nest_build.proofs.values.+make.Given as goal

abbrev pub decreases-make : goal.decreases-make
decreases-make l = l.number

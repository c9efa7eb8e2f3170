use Rattle.nest_build.proofs.straightness.+has_straight.Given as goal

abbrev pub decreases-has_straight : goal.decreases-has_straight
decreases-has_straight l = l.number

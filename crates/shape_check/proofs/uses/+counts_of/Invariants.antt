use Rattle.shape_check.proofs.uses.+counts_of.Given as goal

abbrev pub decreases-counts_of : goal.decreases-counts_of
decreases-counts_of l = l.number

use Rattle.shape_check.proofs.scans.+find_scans.Given as goal

abbrev pub decreases-find_scans : goal.decreases-find_scans
decreases-find_scans l = l.number

use Rattle.psi_rules.proofs.places.+scans_at.Given as goal

abbrev pub decreases-scans_at : goal.decreases-scans_at
decreases-scans_at l = l.number

use Rattle.nest_build.proofs.numbers.+push_accesses.Given as goal

abbrev pub decreases-push_accesses : goal.decreases-push_accesses
decreases-push_accesses l = l.number

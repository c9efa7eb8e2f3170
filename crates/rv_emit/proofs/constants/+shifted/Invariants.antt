use Rattle.rv_emit.proofs.constants.+shifted.Given as goal

abbrev pub decreases-shifted : goal.decreases-shifted
decreases-shifted l = l.levels

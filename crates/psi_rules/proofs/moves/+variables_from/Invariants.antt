use Rattle.std.proofs.Common.{◌-◌}
use Rattle.psi_rules.proofs.moves.+variables_from.Given as goal

abbrev pub decreases-variables_from : goal.decreases-variables_from
decreases-variables_from l = l.axes - l.var

use Rattle.std.proofs.Common.{subst}
use Rattle.shape_check.specs.Kept.{IsChecked}
use Rattle.shape_check.proofs.checked.Checked.program.Goals as goal

pub returns-clause-checked : goal.returns-clause-checked
returns-clause-checked c = subst IsChecked c.self.view_is c.self.invariant

use Rattle.std.proofs.Common.{refl}
use Rattle.std.specs.Fmt.{digits}
use Rattle.psi_top.proofs.shown_examples.scans.Goals as goal

pub returns-clause-dnf : goal.returns-clause-dnf
unfolding digits
returns-clause-dnf c = refl

pub returns-clause-onf : goal.returns-clause-onf
unfolding digits
returns-clause-onf c = refl

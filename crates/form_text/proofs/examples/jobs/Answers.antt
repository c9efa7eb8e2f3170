use Rattle.std.proofs.Common.{refl}
use Rattle.std.specs.Fmt.{digits}
use Rattle.form_text.proofs.examples.jobs.Goals as goal

pub returns-clause-product : goal.returns-clause-product
unfolding digits
returns-clause-product c = refl

pub returns-clause-scan : goal.returns-clause-scan
unfolding digits
returns-clause-scan c = refl

pub returns-clause-scanned : goal.returns-clause-scanned
unfolding digits
returns-clause-scanned c = refl

pub returns-clause-empty : goal.returns-clause-empty
unfolding digits
returns-clause-empty c = refl

pub returns-clause-empty_too : goal.returns-clause-empty_too
unfolding digits
returns-clause-empty_too c = refl

pub returns-clause-scalar : goal.returns-clause-scalar
unfolding digits
returns-clause-scalar c = refl

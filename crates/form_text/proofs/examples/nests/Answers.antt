use Rattle.std.proofs.Common.{refl}
use Rattle.std.specs.Fmt.{digits}
use Rattle.form_text.proofs.examples.nests.Goals as goal

pub returns-clause-sum : goal.returns-clause-sum
unfolding digits
returns-clause-sum c = refl

pub returns-clause-choice : goal.returns-clause-choice
unfolding digits
returns-clause-choice c = refl

pub returns-clause-within : goal.returns-clause-within
unfolding digits
returns-clause-within c = refl

pub returns-clause-scan : goal.returns-clause-scan
unfolding digits
returns-clause-scan c = refl

pub returns-clause-no_step : goal.returns-clause-no_step
unfolding digits
returns-clause-no_step c = refl

pub returns-clause-no_such_area : goal.returns-clause-no_such_area
unfolding digits
returns-clause-no_such_area c = refl

pub returns-clause-no_such_scan : goal.returns-clause-no_such_scan
unfolding digits
returns-clause-no_such_scan c = refl

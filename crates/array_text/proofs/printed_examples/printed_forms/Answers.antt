use Rattle.std.proofs.Common.{refl}
use Rattle.std.specs.Fmt.{digits}
use Rattle.array_text.proofs.printed_examples.printed_forms.Goals as goal

pub returns-clause-vector : goal.returns-clause-vector
unfolding digits
returns-clause-vector c = refl

pub returns-clause-scalar : goal.returns-clause-scalar
unfolding digits
returns-clause-scalar c = refl

pub returns-clause-matrix : goal.returns-clause-matrix
unfolding digits
returns-clause-matrix c = refl

pub returns-clause-no_values : goal.returns-clause-no_values
unfolding digits
returns-clause-no_values c = refl

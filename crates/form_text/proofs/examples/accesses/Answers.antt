use Rattle.std.proofs.Common.{refl}
use Rattle.std.specs.Fmt.{digits}
use Rattle.form_text.proofs.examples.accesses.Goals as goal

pub returns-clause-product : goal.returns-clause-product
unfolding digits
returns-clause-product c = refl

pub returns-clause-reversed : goal.returns-clause-reversed
unfolding digits
returns-clause-reversed c = refl

pub returns-clause-constant : goal.returns-clause-constant
unfolding digits
returns-clause-constant c = refl

pub returns-clause-scalar : goal.returns-clause-scalar
unfolding digits
returns-clause-scalar c = refl

pub returns-clause-none : goal.returns-clause-none
unfolding digits
returns-clause-none c = refl

pub returns-clause-opposite : goal.returns-clause-opposite
unfolding digits
returns-clause-opposite c = refl

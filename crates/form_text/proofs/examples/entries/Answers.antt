use Rattle.std.proofs.Common.{refl}
use Rattle.std.specs.Fmt.{digits}
use Rattle.form_text.proofs.examples.entries.Goals as goal

pub returns-clause-constant : goal.returns-clause-constant
unfolding digits
returns-clause-constant c = refl

pub returns-clause-reversed : goal.returns-clause-reversed
unfolding digits
returns-clause-reversed c = refl

pub returns-clause-behind : goal.returns-clause-behind
unfolding digits
returns-clause-behind c = refl

pub returns-clause-before : goal.returns-clause-before
unfolding digits
returns-clause-before c = refl

pub returns-clause-negative : goal.returns-clause-negative
unfolding digits
returns-clause-negative c = refl

pub returns-clause-zero : goal.returns-clause-zero
unfolding digits
returns-clause-zero c = refl

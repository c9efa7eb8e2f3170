use Rattle.std.proofs.Common.{refl}
use Rattle.std.specs.Fmt.{digits}
use Rattle.form_text.proofs.examples.terms.Goals as goal

pub returns-clause-turned : goal.returns-clause-turned
unfolding digits
returns-clause-turned c = refl

pub returns-clause-joined : goal.returns-clause-joined
unfolding digits
returns-clause-joined c = refl

pub returns-clause-reshaped : goal.returns-clause-reshaped
unfolding digits
returns-clause-reshaped c = refl

pub returns-clause-unary : goal.returns-clause-unary
unfolding digits
returns-clause-unary c = refl

pub returns-clause-negative : goal.returns-clause-negative
unfolding digits
returns-clause-negative c = refl

pub returns-clause-numbers : goal.returns-clause-numbers
unfolding digits
returns-clause-numbers c = refl

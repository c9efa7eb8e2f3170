use Rattle.std.proofs.Common.{refl, ap, arith, length}
use Rattle.std.specs.Fmt.{digits}
use Rattle.std.specs.Prelude.{slice_index_or}
use Rattle.psi_top.proofs.call_examples.texts_are_told.Goals as goal

pub returns-clause-check : goal.returns-clause-check
unfolding digits
returns-clause-check c = refl

pub returns-clause-other_report : goal.returns-clause-other_report
unfolding digits
returns-clause-other_report c = λ e. omega (arith, ap (λ text. slice_index_or text 43 0) e)

pub returns-clause-source : goal.returns-clause-source
unfolding digits
returns-clause-source c = refl

pub returns-clause-other_source : goal.returns-clause-other_source
unfolding digits
returns-clause-other_source c = λ e. omega (arith, ap (λ text. slice_index_or text 32 0) e)

pub returns-clause-dnf : goal.returns-clause-dnf
unfolding digits
returns-clause-dnf c = refl

pub returns-clause-other_dnf : goal.returns-clause-other_dnf
unfolding digits
returns-clause-other_dnf c = λ e. omega (arith, ap (λ text. slice_index_or text 17 0) e)

pub returns-clause-onf : goal.returns-clause-onf
unfolding digits
returns-clause-onf c = refl

pub returns-clause-other_onf : goal.returns-clause-other_onf
unfolding digits
returns-clause-other_onf c = λ e. omega (arith, ap (λ text. slice_index_or text 17 0) e)

pub returns-clause-no_nest : goal.returns-clause-no_nest
unfolding digits
returns-clause-no_nest c = λ e. omega (arith, ap length e)

use Rattle.normal_form.proofs.OperatorLemmas.{moved-represents, number-represents, one-represents, stored-represents, two-represents}
use Rattle.normal_form.proofs.laws.operators_represent.Goals as goal

pub returns-clause-numbers : goal.returns-clause-numbers
returns-clause-numbers c = number-represents

pub returns-clause-stored : goal.returns-clause-stored
returns-clause-stored c = stored-represents

pub returns-clause-one : goal.returns-clause-one
returns-clause-one c = one-represents

pub returns-clause-moved : goal.returns-clause-moved
returns-clause-moved c = moved-represents

pub returns-clause-two : goal.returns-clause-two
returns-clause-two c = two-represents

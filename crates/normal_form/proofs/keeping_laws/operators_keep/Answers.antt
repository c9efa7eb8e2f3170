use Rattle.normal_form.proofs.KeepLemmas.{moved-keeps, one-keeps, stored-keeps, two-keeps}
use Rattle.normal_form.proofs.keeping_laws.operators_keep.Goals as goal

pub returns-clause-stored : goal.returns-clause-stored
returns-clause-stored c = stored-keeps

pub returns-clause-one : goal.returns-clause-one
returns-clause-one c = one-keeps

pub returns-clause-moved : goal.returns-clause-moved
returns-clause-moved c = moved-keeps

pub returns-clause-two : goal.returns-clause-two
returns-clause-two c = two-keeps

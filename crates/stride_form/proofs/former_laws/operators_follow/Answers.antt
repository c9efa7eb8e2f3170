use Rattle.stride_form.proofs.FollowMakeLemmas.{index-follows, literal-follows, load-follows, moved-follows, one-follows, two-follows}
use Rattle.stride_form.proofs.former_laws.operators_follow.Goals as goal

pub returns-clause-constant : goal.returns-clause-constant
returns-clause-constant c = literal-follows

pub returns-clause-numbers : goal.returns-clause-numbers
returns-clause-numbers c = index-follows

pub returns-clause-stored : goal.returns-clause-stored
returns-clause-stored c = load-follows

pub returns-clause-one : goal.returns-clause-one
returns-clause-one c = one-follows

pub returns-clause-two : goal.returns-clause-two
returns-clause-two c = two-follows

pub returns-clause-moved : goal.returns-clause-moved
returns-clause-moved c = moved-follows

use Rattle.stride_form.proofs.FollowMakeLemmas.{alone-follows, moved-follows-with, one-follows-with, two-follows-with}
use Rattle.stride_form.proofs.former_laws.items_follow.Goals as goal

pub returns-clause-alone : goal.returns-clause-alone
returns-clause-alone c = alone-follows

pub returns-clause-one : goal.returns-clause-one
returns-clause-one c = one-follows-with

pub returns-clause-two : goal.returns-clause-two
returns-clause-two c = two-follows-with

pub returns-clause-moved : goal.returns-clause-moved
returns-clause-moved c = moved-follows-with

use Rattle.std.specs.List.{insert}
use Rattle.stride_form.proofs.FollowBindLemmas.{fold-follows}
use Rattle.stride_form.proofs.FollowMakeLemmas.{moved-follows-with}
use Rattle.stride_form.proofs.FollowMoveLemmas.{insert-commutes}
use Rattle.stride_form.proofs.former_laws.folds_follow.Goals as goal

pub returns-clause-any : goal.returns-clause-any
returns-clause-any c = fold-follows

pub returns-clause-axis : goal.returns-clause-axis
returns-clause-axis c = λ op n axis of op_of h.
    fold-follows op n (λ entries entry. of (insert entries axis entry)) (λ entries entry. op_of (insert entries axis entry))
    (moved-follows-with of op_of (λ entries entry. insert entries axis entry) (insert-commutes axis) h)

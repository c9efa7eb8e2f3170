use Rattle.std.specs.Prelude.{pos, slice_index_or}
use Rattle.moa_tree.specs.Axes.{on_axis}
use Rattle.normal_form.specs.declared.entry.Entry.TheVariants.{At}
use Rattle.stride_form.proofs.FollowBindLemmas.{turn-follows}
use Rattle.stride_form.proofs.FollowMakeLemmas.{moved-follows-with}
use Rattle.stride_form.proofs.FollowMoveLemmas.{at-commutes, put-commutes}
use Rattle.stride_form.proofs.former_laws.turns_follow.Goals as goal

pub returns-clause-any : goal.returns-clause-any
returns-clause-any c = turn-follows

pub returns-clause-axis : goal.returns-clause-axis
returns-clause-axis c = λ by n axis shape of op_of h.
    turn-follows by n (λ entries. slice_index_or entries axis (At (pos 0)))
    (λ entries entry. of (on_axis axis (λ extent old. entry) shape entries))
    (λ entries entry. op_of (on_axis axis (λ extent old. entry) shape entries))
    (at-commutes axis) (moved-follows-with of op_of (λ entries entry. on_axis axis (λ extent old. entry) shape entries) (put-commutes axis shape) h)

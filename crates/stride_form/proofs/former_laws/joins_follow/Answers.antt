use Rattle.std.specs.Prelude.{pos, slice_index_or}
use Rattle.moa_tree.specs.Axes.{on_axis}
use Rattle.normal_form.specs.declared.entry.Entry.TheVariants.{At}
use Rattle.normal_form.specs.Moves.{behind_entry}
use Rattle.stride_form.proofs.FollowBindLemmas.{join-follows}
use Rattle.stride_form.proofs.FollowEntryLemmas.{behind-commutes}
use Rattle.stride_form.proofs.FollowMakeLemmas.{moved-follows}
use Rattle.stride_form.proofs.FollowMoveLemmas.{at-commutes, axis-commutes}
use Rattle.stride_form.proofs.former_laws.joins_follow.Goals as goal

pub returns-clause-any : goal.returns-clause-any
returns-clause-any c = join-follows

pub returns-clause-axis : goal.returns-clause-axis
returns-clause-axis c = λ n m axis shape left right op_left op_right h k.
    let move = on_axis axis behind_entry shape in
    join-follows n m (λ entries. slice_index_or entries axis (At (pos 0))) left (λ entries. right (move entries))
    op_left (λ entries. op_right (move entries)) (at-commutes axis) h
    (moved-follows right op_right move (axis-commutes behind_entry behind-commutes axis shape) k)

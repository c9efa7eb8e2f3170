use Rattle.stride_form.proofs.FollowEntryLemmas.{behind-commutes, minus-commutes, mirrored-commutes, raised-commutes, remaining-commutes}
use Rattle.stride_form.proofs.FollowEntryLemmas.{taken-commutes}
use Rattle.stride_form.proofs.FollowMoveLemmas.{append-commutes, first-commutes, last-commutes, psi-commutes, axis-commutes, between-commutes}
use Rattle.stride_form.proofs.FollowMoveLemmas.{constants-commute, drop-commutes, each-commutes}
use Rattle.stride_form.proofs.FollowMoveLemmas.{insert-commutes, own-commutes, put-commutes, restored-commutes, reverse-commutes, row-commutes}
use Rattle.stride_form.proofs.FollowMoveLemmas.{take-commutes}
use Rattle.stride_form.proofs.former_laws.moves_commute.Goals as goal

pub returns-clause-add : goal.returns-clause-add
returns-clause-add c = raised-commutes

pub returns-clause-subtracted : goal.returns-clause-subtracted
returns-clause-subtracted c = minus-commutes

pub returns-clause-taken : goal.returns-clause-taken
returns-clause-taken c = taken-commutes

pub returns-clause-remaining : goal.returns-clause-remaining
returns-clause-remaining c = remaining-commutes

pub returns-clause-mirrored : goal.returns-clause-mirrored
returns-clause-mirrored c = mirrored-commutes

pub returns-clause-behind : goal.returns-clause-behind
returns-clause-behind c = behind-commutes

pub returns-clause-front : goal.returns-clause-front
returns-clause-front c = take-commutes

pub returns-clause-back : goal.returns-clause-back
returns-clause-back c = drop-commutes

pub returns-clause-own : goal.returns-clause-own
returns-clause-own c = own-commutes

pub returns-clause-turned_round : goal.returns-clause-turned_round
returns-clause-turned_round c = reverse-commutes

pub returns-clause-constants : goal.returns-clause-constants
returns-clause-constants c = constants-commute

pub returns-clause-appended : goal.returns-clause-appended
returns-clause-appended c = append-commutes

pub returns-clause-permuted : goal.returns-clause-permuted
returns-clause-permuted c = restored-commutes

pub returns-clause-in_a_row : goal.returns-clause-in_a_row
returns-clause-in_a_row c = row-commutes

pub returns-clause-each : goal.returns-clause-each
returns-clause-each c = λ f list shape one. each-commutes f one list shape

pub returns-clause-axis : goal.returns-clause-axis
returns-clause-axis c = λ f axis shape one. axis-commutes f one axis shape

pub returns-clause-put : goal.returns-clause-put
returns-clause-put c = put-commutes

pub returns-clause-inserted : goal.returns-clause-inserted
returns-clause-inserted c = insert-commutes

pub returns-clause-between : goal.returns-clause-between
returns-clause-between c = between-commutes

pub returns-clause-behind_all : goal.returns-clause-behind_all
returns-clause-behind_all c = last-commutes

pub returns-clause-before_all : goal.returns-clause-before_all
returns-clause-before_all c = first-commutes

pub returns-clause-selected : goal.returns-clause-selected
returns-clause-selected c = psi-commutes

use Rattle.std.proofs.Common.{◌+◌, ◌-◌, ◌*◌, length}
use Rattle.std.specs.Prelude.{max}
use Rattle.psi_rules.proofs.arms.+arms.Given as goal

-- an operator stands above its operands, and below the node that it is of; a statement above all nodes of those before it
abbrev pub decreases-form_of : goal.decreases-form_of
decreases-form_of l = 1099511627776 * l.place.statement + 14 * l.number + 2

abbrev pub decreases-node_form : goal.decreases-node_form
decreases-node_form l = 1099511627776 * l.place.statement + 14 * l.number + 1

abbrev pub decreases-one_form : goal.decreases-one_form
decreases-one_form l = 1099511627776 * l.place.statement + 14 * l.of + 3

abbrev pub decreases-pair_form : goal.decreases-pair_form
decreases-pair_form l = 1099511627776 * l.place.statement + 14 * max l.left l.right + 3

abbrev pub decreases-reduce_form : goal.decreases-reduce_form
decreases-reduce_form l = 1099511627776 * l.place.statement + 14 * l.of + 3

abbrev pub decreases-inner_form : goal.decreases-inner_form
decreases-inner_form l = 1099511627776 * l.place.statement + 14 * max l.left l.right + 4

abbrev pub decreases-cat_form : goal.decreases-cat_form
decreases-cat_form l = 1099511627776 * l.place.statement + 14 * max l.left l.right + 3

abbrev pub decreases-rotate_form : goal.decreases-rotate_form
decreases-rotate_form l = 1099511627776 * l.place.statement + 14 * l.of + 3

abbrev pub decreases-spread_form : goal.decreases-spread_form
decreases-spread_form l = 1099511627776 * l.place.statement + 14 * l.of + 3 + (length l.shape.now - l.axis)

abbrev pub decreases-offset_form : goal.decreases-offset_form
decreases-offset_form l = 1099511627776 * l.place.statement + 14 * l.of + 10

abbrev pub decreases-flat_form : goal.decreases-flat_form
decreases-flat_form l = 1099511627776 * l.place.statement + 14 * l.of + 11

abbrev pub decreases-reshape_form : goal.decreases-reshape_form
decreases-reshape_form l = 1099511627776 * l.place.statement + 14 * l.of + 12

abbrev pub decreases-use_form : goal.decreases-use_form
decreases-use_form l = 1099511627776 * l.place.statement

abbrev pub decreases-psi_form : goal.decreases-psi_form
decreases-psi_form l = 1099511627776 * l.place.statement + 14 * l.of + 3

abbrev pub decreases-take_form : goal.decreases-take_form
decreases-take_form l = 1099511627776 * l.place.statement + 14 * l.of + 3

abbrev pub decreases-drop_form : goal.decreases-drop_form
decreases-drop_form l = 1099511627776 * l.place.statement + 14 * l.of + 3

abbrev pub decreases-permute_form : goal.decreases-permute_form
decreases-permute_form l = 1099511627776 * l.place.statement + 14 * l.of + 3

abbrev pub decreases-reverse_form : goal.decreases-reverse_form
decreases-reverse_form l = 1099511627776 * l.place.statement + 14 * l.of + 3

abbrev pub decreases-two_form : goal.decreases-two_form
decreases-two_form l = 1099511627776 * l.place.statement + 14 * max l.left l.right + 4

abbrev pub decreases-outer_form : goal.decreases-outer_form
decreases-outer_form l = 1099511627776 * l.place.statement + 14 * max l.left l.right + 4

abbrev pub decreases-transpose_form : goal.decreases-transpose_form
decreases-transpose_form l = 1099511627776 * l.place.statement + 14 * l.of + 3

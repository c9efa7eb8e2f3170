use Rattle.std.specs.Prelude.{◌≡◌, ◌≤◌}
use Rattle.std.proofs.Common.{arith}
use Rattle.moa_tree.proofs.SmallProgramLemmas.{small_is_program}
use Rattle.moa_tree.proofs.tree_examples.program_pools.Goals as goal

pub returns-clause-small_program : goal.returns-clause-small_program
returns-clause-small_program c = small_is_program c.canonical_reads.ensures

pub returns-clause-no_shared_node : goal.returns-clause-no_shared_node
returns-clause-no_shared_node c = λ h. let e : 2 ≡ 1 = h.each_once 1 (omega arith) in omega (arith, e)

pub returns-clause-no_node_left_over : goal.returns-clause-no_node_left_over
returns-clause-no_node_left_over c = λ h. let e : 0 ≡ 1 = h.each_once 1 (omega arith) in omega (arith, e)

pub returns-clause-no_doubling : goal.returns-clause-no_doubling
returns-clause-no_doubling c = λ h. let e : 2 ≡ 1 = h.each_once 0 (omega arith) in omega (arith, e)

pub returns-clause-no_shared_number : goal.returns-clause-no_shared_number
returns-clause-no_shared_number c = λ h. let e : 2 ≤ 1 = h.lists_apart 0 in omega (arith, e)

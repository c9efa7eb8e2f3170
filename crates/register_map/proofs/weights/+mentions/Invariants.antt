use Rattle.std.proofs.Common.{suc, ◌*◌, ◌-◌, length, take}
use Rattle.loop_ir.specs.Pool.{steps_of, tree_at, trees_from}
use Rattle.register_map.specs.Codes.{Weighs, codes_of}
use Rattle.register_map.proofs.DepthLemmas.{ahead}
use Rattle.register_map.proofs.weights.+mentions.Given as goal

abbrev pub decreases-weigh_list : goal.decreases-weigh_list
decreases-weigh_list l = 2 * (length l.nest.now - l.number)

abbrev pub decreases-weigh_step : goal.decreases-weigh_step
decreases-weigh_step l = suc (2 * ahead (length l.nest.now) l.step)

abbrev pub invariant-weigh_list-loop-step : goal.invariant-weigh_list-loop-step
invariant-weigh_list-loop-step l =
    Weighs (codes_of (steps_of (tree_at (trees_from 0 l.nest)) (take l.step-index l.step-items))) l.fn.weights.entries l.weights.entries

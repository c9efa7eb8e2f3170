use Rattle.std.proofs.Common.{suc, ◌*◌, ◌-◌, length, take}
use Rattle.loop_ir.specs.Pool.{steps_of, tree_at, trees_from}
use Rattle.rv_emit.specs.Programs.{Takes, read_by}
use Rattle.rv_emit.proofs.NestLemmas.{ahead}
use Rattle.rv_emit.proofs.counters.+reads.Given as goal

abbrev pub decreases-read_list : goal.decreases-read_list
decreases-read_list l = 2 * (length l.nest.now - l.number)

abbrev pub decreases-read_step : goal.decreases-read_step
decreases-read_step l = suc (2 * ahead (length l.nest.now) l.step)

abbrev pub invariant-read_list-loop-step : goal.invariant-read_list-loop-step
invariant-read_list-loop-step l =
    Takes (read_by (steps_of (tree_at (trees_from 0 l.nest)) (take l.step-index l.step-items))) l.fn.registers.keys l.registers.keys

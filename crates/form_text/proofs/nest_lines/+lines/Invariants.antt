use Rattle.std.proofs.Common.{◌≡◌, ◌++◌, ◌*◌, ◌-◌, length, take}
use Rattle.loop_ir.specs.Pool.{steps_of, tree_at, trees_from}
use Rattle.form_text.specs.NestSpelling.{step_lines}
use Rattle.form_text.proofs.nest_lines.+lines.Given as goal

abbrev pub decreases-push_list : goal.decreases-push_list
decreases-push_list l = 2 * (length l.nest.now - l.depth)

abbrev pub decreases-push_step : goal.decreases-push_step
decreases-push_step l = 2 * (length l.nest.now - l.depth) - 1

abbrev pub invariant-push_list-loop-step : goal.invariant-push_list-loop-step
invariant-push_list-loop-step l =
    l.out.items ≡ l.fn.out.items ++ step_lines l.areas l.depth (steps_of (tree_at (trees_from 0 l.nest)) (take l.step-index l.step-items))

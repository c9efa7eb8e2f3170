use Rattle.std.proofs.Common.{◌+◌, ◌*◌, ◌-◌, max, length, take}
use Rattle.rv_emit.specs.Programs.{list_tree, plan_at}
use Rattle.rv_emit.proofs.NestLemmas.{HasCome, ahead}
use Rattle.rv_emit.proofs.steps.+emits.Given as goal

abbrev pub decreases-emit_list : goal.decreases-emit_list
decreases-emit_list l = 8 * (length l.site.now.lists - l.number)

abbrev pub decreases-emit_step : goal.decreases-emit_step
decreases-emit_step l = 8 * ahead (length l.site.now.lists) l.step + 5

abbrev pub decreases-emit_settled : goal.decreases-emit_settled
decreases-emit_settled l = 8 * (length l.site.now.lists - l.number) + 1

abbrev pub decreases-emit_turn : goal.decreases-emit_turn
decreases-emit_turn l = 8 * (length l.site.now.lists - l.body) + 2

abbrev pub decreases-emit_turns : goal.decreases-emit_turns
decreases-emit_turns l = 8 * (length l.site.now.lists - l.body) + 3

abbrev pub decreases-emit_loop : goal.decreases-emit_loop
decreases-emit_loop l = 8 * (length l.site.now.lists - l.body) + 4

abbrev pub decreases-emit_lists : goal.decreases-emit_lists
decreases-emit_lists l = 8 * max (length l.site.now.lists - l.yes) (length l.site.now.lists - l.no) + 2

abbrev pub decreases-emit_choice : goal.decreases-emit_choice
decreases-emit_choice l = 8 * max (length l.site.now.lists - l.yes) (length l.site.now.lists - l.no) + 3

abbrev pub invariant-emit_list-loop-step : goal.invariant-emit_list-loop-step
invariant-emit_list-loop-step l =
    HasCome (plan_at l.site) (list_tree l.site) l.fn.owed.items (take l.step-index l.step-items) l.fn.lines.items l.lines.items l.steps l.owed.items

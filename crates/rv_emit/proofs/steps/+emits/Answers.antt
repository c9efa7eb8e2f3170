use Rattle.std.specs.Prelude.{◌≡◌, ℕ, ◌+◌, ◌<◌, length, pos, ℤ}
use Rattle.std.proofs.Common.{ap, sym, ◌∙◌, subst, arith, get_or, rules, w64}
use Rattle.std.proofs.lemmas.Int.{to_z-of_z}
use Rattle.std.proofs.lemmas.List.{take_all}
use Rattle.loop_ir.specs.declared.step.Step.TheVariants as step
use Rattle.loop_ir.specs.Kept.{KeepsCounters}
use Rattle.loop_ir.specs.Pool.{inner_lists, steps_of}
use Rattle.loop_ir.specs.Running.{Register}
use Rattle.rv_emit.specs.Emitting.{behind, closing_of, emitted, home_at, lists_of, owed_after, settled, straight, test_lines}
use Rattle.rv_emit.specs.Moving.{register_of}
use Rattle.rv_emit.specs.Programs.{Emits, HaveHomes, MayCome, list_tree, plan_at}
use Rattle.rv_emit.proofs.EmitLemmas.{emits-behind}
use Rattle.rv_emit.proofs.ListsLemmas.{lists-emitted}
use Rattle.rv_emit.proofs.NestLemmas.{ahead-falls, all-weaker, counters-at, inner-at, named-at, one-more}
use Rattle.rv_emit.proofs.RoomLemmas.{room-at, room-made}
use Rattle.rv_emit.proofs.steps.+emits.Goals as goal

pub emit_choice-returns-clause-emits : goal.emit_choice-returns-clause-emits
emit_choice-returns-clause-emits t c =
    let plan = plan_at c.args.site.now in
    let one = settled plan (list_tree c.args.site.now c.args.yes) in
    let other = settled plan (list_tree c.args.site.now c.args.no) in
    let test = straight (test_lines plan c.args.owed.now.items c.args.left c.args.below) in
    let register : c.register_of-register.result ≡ register_of 28 (home_at plan (Register c.args.left)) =
    c.register_of-register.ensures ∙ ap (register_of 28) c.register.ensures.home in
    subst (λ (r : ℕ). Emits (λ at. behind at test (λ next. lists_of r next one other)) c.args.lines.now.items
    c.emit_lists.new.lines.items (c.in_ok-steps.steps + c.in_ok-more.more))
    register
    (emits-behind (λ at. test) (λ next. lists_of c.register_of-register.result next one other) c.args.lines.now.items
    c.emit_test.new.lines.items c.emit_lists.new.lines.items c.in_ok-steps.steps c.in_ok-more.more
    (subst (λ (n : ℤ). Emits (λ at. straight (test_lines plan c.args.owed.now.items c.args.left n)) c.args.lines.now.items
    c.emit_test.new.lines.items c.in_ok-steps.steps) (to_z-of_z w64 c.args.below c.ranges.below) c.in_ok-steps.ensures.emits)
    c.in_ok-more.ensures.emits)

pub emit_list-emit_step-requires : goal.emit_list-emit_step-requires
emit_list-emit_step-requires t c =
    let lists = c.args.site.now.lists in
    let number = c.args.number in
    let items = c.list-step-items.result.now in
    let d = step.Set 0 (pos 0) in
    let of = get_or items c.loop-step.step-index d in
    let named = c.lists_in_order.ensures.greater lists number items c.list-step-items.ensures.kept c.list-step-items.ensures.list in
    let inner = inner-at (λ inner. (number < inner) × (inner < length lists)) items c.loop-step.step-index d c.loop-step-test.true named in
    let falls = ahead-falls number (length lists) of c.requires.within inner in
    let tree = c.lists_in_order.ensures.trees lists number items c.list-step-items.ensures.kept c.list-step-items.ensures.list in (
      omega (arith, falls, c.decreases),
      (
        all-weaker (λ inner h. h.1) (inner_lists of) inner,
        (
          named-at _ (list_tree c.args.site.now) items c.loop-step.step-index d c.loop-step-test.true
              (subst (HaveHomes c.args.site.now.homes) tree c.requires.homes),
          (
            counters-at (list_tree c.args.site.now) items c.loop-step.step-index d c.loop-step-test.true
                (subst KeepsCounters tree c.requires.counters),
            room-at (plan_at c.args.site.now) (list_tree c.args.site.now) c.args.owed.now.items items c.loop-step.step-index d
                c.args.lines.now.items c.loop-step.lines.items c.loop-step.steps c.loop-step.owed.items c.loop-step-test.true
                c.loop-step.invariant (subst (λ steps. MayCome (emitted (plan_at c.args.site.now) c.args.owed.now.items steps)
                c.args.lines.now.items) tree c.requires.room),
          ),
        ),
      ),
    )

pub emit_list-overflow_add-steps : goal.emit_list-overflow_add-steps
emit_list-overflow_add-steps t c =
    let items = c.list-step-items.result.now in
    let tree = c.lists_in_order.ensures.trees c.args.site.now.lists c.args.number items c.list-step-items.ensures.kept
    c.list-step-items.ensures.list in
    let room = subst (λ steps. MayCome (emitted (plan_at c.args.site.now) c.args.owed.now.items steps) c.args.lines.now.items) tree
    c.requires.room in
    omega (
      arith,
      room-made (plan_at c.args.site.now) (list_tree c.args.site.now) c.args.owed.now.items items c.loop-step.step-index _
          c.args.lines.now.items c.loop-step.lines.items c.emit_step.new.lines.items c.loop-step.steps c.in_ok-more.more
          c.loop-step.owed.items c.loop-step-test.true c.loop-step.invariant room c.in_ok-more.ensures.emits,
    )

pub emit_list-loop-step-preserved : goal.emit_list-loop-step-preserved
emit_list-loop-step-preserved t c =
    let plan = plan_at c.args.site.now in
    let owed = c.args.owed.now.items in
    let items = c.list-step-items.result.now in
    one-more plan (list_tree c.args.site.now) owed items c.loop-step.step-index _ c.args.lines.now.items c.loop-step.lines.items
    c.emit_step.new.lines.items c.loop-step.steps c.in_ok-more.more c.loop-step.owed.items c.emit_step.new.owed.items c.loop-step-test.true
    c.loop-step.invariant c.in_ok-more.ensures.emits c.in_ok-more.ensures.owed

pub emit_list-returns-clause-emits : goal.emit_list-returns-clause-emits
emit_list-returns-clause-emits t c =
    let plan = plan_at c.args.site.now in
    let lists = c.args.site.now.lists in
    let items = c.list-step-items.result.now in
    let all = take_all c.loop-step.step-index items c.loop-step-test.false in
    let tree = c.lists_in_order.ensures.trees lists c.args.number items c.list-step-items.ensures.kept c.list-step-items.ensures.list in
    subst (λ steps. Emits (emitted plan c.args.owed.now.items steps) c.args.lines.now.items c.loop-step.lines.items c.loop-step.steps)
    (ap (steps_of (list_tree c.args.site.now)) all ∙ sym tree) c.loop-step.invariant.emits

pub emit_list-returns-clause-owed : goal.emit_list-returns-clause-owed
emit_list-returns-clause-owed t c =
    let plan = plan_at c.args.site.now in
    let lists = c.args.site.now.lists in
    let items = c.list-step-items.result.now in
    let all = take_all c.loop-step.step-index items c.loop-step-test.false in
    let tree = c.lists_in_order.ensures.trees lists c.args.number items c.list-step-items.ensures.kept c.list-step-items.ensures.list in
    c.loop-step.invariant.owes ∙ ap (owed_after plan c.args.owed.now.items) (ap (steps_of (list_tree c.args.site.now)) all ∙ sym tree)

pub emit_lists-returns-clause-emits : goal.emit_lists-returns-clause-emits
emit_lists-returns-clause-emits t c =
    let plan = plan_at c.args.site.now in
    let one = settled plan (list_tree c.args.site.now c.args.yes) in
    let other = settled plan (list_tree c.args.site.now c.args.no) in
    let made = lists-emitted c.args.register one other c.args.lines.now.items c.push_branch.new.lines.items c.push_jump.new.lines.items
    c.emit_settled.new.lines.items c.push_jump-2.new.lines.items c.emit_settled-2.new.lines.items c.set_jump.new.lines.items
    c.set_jump-2.new.lines.items c.line_ahead-over.result c.len-first_jump.result c.len-second_jump.result c.line_ahead-middle.result
    c.line_ahead-end.result
    c.in_ok-one.one c.in_ok-other.other
    (c.line_ahead-over.ensures ∙ ap (λ list. length list + 2) c.deref.ensures.value) c.in_ok-push_branch.ensures (search rules)
    c.in_ok-push_jump.ensures c.in_ok-one.ensures.emits (search rules)
    c.in_ok-push_jump-2.ensures (c.line_ahead-middle.ensures ∙ ap (λ list. length list + 0) c.deref-2.ensures.value)
    c.in_ok-other.ensures.emits (c.line_ahead-end.ensures ∙ ap (λ list. length list + 0) c.deref-3.ensures.value) c.set_jump.ensures
    c.set_jump-2.ensures in
    (made.0, ap (λ (n : ℕ). 2 + n) c.max.ensures ∙ made.1)

pub emit_turn-returns-clause-emits : goal.emit_turn-returns-clause-emits
emit_turn-returns-clause-emits t c =
    let plan = plan_at c.args.site.now in
    let body = settled plan (list_tree c.args.site.now c.args.body) in
    let old = c.args.lines.now.items in
    let new = c.emit_closing.new.lines.items in
    let closing = closing_of plan c.args.counter c.args.turns in
    let steps = c.in_ok-steps.steps in
    let more = c.in_ok-more.more in
    let top : c.line_ahead-top.result ≡ length old =
    omega (arith, c.line_ahead-top.ensures ∙ ap (λ list. length list + 0) c.deref.ensures.value) in
    subst (λ (top : ℕ). Emits (λ at. behind at (body at) (closing top)) old new (steps + more)) top
    (emits-behind body (closing c.line_ahead-top.result) old c.emit_settled.new.lines.items new steps more c.in_ok-steps.ensures.emits
    c.in_ok-more.ensures)

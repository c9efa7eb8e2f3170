use Rattle.std.specs.Prelude.{◌≡◌, ◌++◌, pos, length}
use Rattle.std.proofs.Common.{arith, subst, sym}
use Rattle.std.proofs.lemmas.List.{take_all}
use Rattle.loop_ir.specs.declared.step.Step.TheVariants as step
use Rattle.loop_ir.specs.Pool.{steps_of, tree_at, trees_from}
use Rattle.form_text.specs.NestSpelling.{step_lines}
use Rattle.form_text.proofs.LineLemmas.{lines-more, named-deeper}
use Rattle.form_text.proofs.nest_lines.+lines.Goals as goal

pub push_list-push_step-requires : goal.push_list-push_step-requires
push_list-push_step-requires t c =
    let lists = c.args.nest.now in
    let items = c.list-step-items.result.now in
    let kept = c.list-step-items.ensures in (
      omega (arith, c.requires.there, c.requires.deep, c.decreases),
      named-deeper c.args.depth c.args.number (length lists) (omega (arith, c.requires.deep)) items c.loop-step.step-index (step.Set 0 (pos 0))
          c.loop-step-test.true (c.lists_in_order.ensures.greater lists c.args.number items kept.kept kept.list),
    )

pub push_list-loop-step-preserved : goal.push_list-loop-step-preserved
push_list-loop-step-preserved t c =
    lines-more c.args.areas.now c.args.depth (tree_at (trees_from 0 c.args.nest.now)) c.list-step-items.result.now c.loop-step.step-index _
    c.args.out.now.items c.loop-step.out.items c.push_step.new.out.items c.loop-step-test.true c.loop-step.invariant c.in_ok-push_step.ensures

pub push_list-returns : goal.push_list-returns
push_list-returns t c =
    let lists = c.args.nest.now in
    let items = c.list-step-items.result.now in
    let kept = c.list-step-items.ensures in
    let now = c.loop-step.out.items in
    let all = take_all c.loop-step.step-index items c.loop-step-test.false in
    let same = c.lists_in_order.ensures.trees lists c.args.number items kept.kept kept.list in
    subst (λ tree. now ≡ c.args.out.now.items ++ step_lines c.args.areas.now c.args.depth tree) (sym same)
    (subst (λ list. now ≡ c.args.out.now.items ++ step_lines c.args.areas.now c.args.depth (steps_of (tree_at (trees_from 0 lists)) list)) all
    c.loop-step.invariant)

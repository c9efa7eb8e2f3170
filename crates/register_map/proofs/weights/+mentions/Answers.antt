use Rattle.std.specs.Prelude.{◌<◌, ◌++◌, ◌∷◌, [], pos, length, OnOk}
use Rattle.std.proofs.Common.{sym, subst, arith, get_or}
use Rattle.std.proofs.lemmas.List.{take_all}
use Rattle.std.proofs.lemmas.Result.{on_ok_weaker}
use Rattle.loop_ir.specs.declared.step.Step.TheVariants as step
use Rattle.loop_ir.specs.Pool.{inner_lists, steps_of, tree_at, trees_from}
use Rattle.register_map.specs.Codes.{Weighs, codes_of}
use Rattle.register_map.proofs.DepthLemmas.{ahead-falls}
use Rattle.register_map.proofs.TreeLemmas.{all-weaker, inner-at}
use Rattle.register_map.proofs.WeightLemmas.{choice-weighs, steps-more}
use Rattle.register_map.proofs.weights.+mentions.Goals as goal

pub weigh_list-weigh_step-requires : goal.weigh_list-weigh_step-requires
weigh_list-weigh_step-requires t c =
    let lists = c.args.nest.now in
    let items = c.list-step-items.result.now in
    let named = c.lists_in_order.ensures.greater lists c.args.number items c.list-step-items.ensures.kept c.list-step-items.ensures.list in
    let of = get_or items c.loop-step.step-index (step.Set 0 (pos 0)) in
    let inner = inner-at (λ inner. (c.args.number < inner) × (inner < length lists)) items c.loop-step.step-index (step.Set 0 (pos 0))
    c.loop-step-test.true named in
    let falls = ahead-falls c.args.number (length lists) of c.requires inner in
    (omega (arith, falls, c.decreases), all-weaker (λ inner h. h.1) (inner_lists of) inner)

pub weigh_list-loop-step-preserved : goal.weigh_list-loop-step-preserved
weigh_list-loop-step-preserved t c =
    steps-more (tree_at (trees_from 0 c.args.nest.now)) c.list-step-items.result.now c.loop-step.step-index _ c.args.weights.now.entries
    c.loop-step.weights.entries c.weigh_step.new.weights.entries c.loop-step-test.true c.loop-step.invariant c.in_ok-weigh_step.ensures

pub weigh_list-returns : goal.weigh_list-returns
weigh_list-returns t c =
    let lists = c.args.nest.now in
    let items = c.list-step-items.result.now in
    let old = c.args.weights.now.entries in
    let now = c.loop-step.weights.entries in
    let all = take_all c.loop-step.step-index items c.loop-step-test.false in
    let same = c.lists_in_order.ensures.trees lists c.args.number items c.list-step-items.ensures.kept c.list-step-items.ensures.list in
    subst (λ tree. Weighs (codes_of tree) old now) (sym same)
    (subst (λ list. Weighs (codes_of (steps_of (tree_at (trees_from 0 lists)) list)) old now) all c.loop-step.invariant)

pub weigh_step-returns-in_ok-weigh_list-in-If : goal.weigh_step-returns-in_ok-weigh_list-in-If
weigh_step-returns-in_ok-weigh_list-in-If t c =
    let trees = tree_at (trees_from 0 c.args.nest.now) in
    let old = c.args.weights.now.entries in
    let new = c.weigh_list-in-If-2.new.weights.entries in
    let one = codes_of (trees c.in-If.yes) in
    let other = codes_of (trees c.in-If.no) in
    let done = on_ok_weaker c.weigh_list-in-If-2.result (choice-weighs c.register_code-in-If.result one other old c.weigh-in-If.new.weights.entries
    c.weigh_list-in-If.new.weights.entries new c.in_ok-weigh-in-If.ensures c.in_ok-weigh_list-in-If.ensures) c.weigh_list-in-If-2.ensures in
    let coded = subst (λ left. OnOk c.weigh_list-in-If-2.result (Weighs (left ∷ (one ++ (other ++ []))) old new))
    c.register_code-in-If.ensures done in
    subst (λ of. OnOk c.weigh_list-in-If-2.result (Weighs (codes_of (steps_of trees (of ∷ []))) old new)) (sym c.in-If.is) coded

use Rattle.std.specs.Prelude.{◌<◌, pos, length}
use Rattle.std.proofs.Common.{ap, sym, ◌∙◌, subst, arith, get_or}
use Rattle.std.proofs.lemmas.List.{take_all}
use Rattle.loop_ir.specs.declared.step.Step.TheVariants as step
use Rattle.loop_ir.specs.Pool.{inner_lists, steps_of, tree_at, trees_from}
use Rattle.rv_emit.specs.Programs.{Takes, read_by}
use Rattle.rv_emit.proofs.NestLemmas.{ahead-falls, all-weaker, inner-at}
use Rattle.rv_emit.proofs.ReadLemmas.{takes-more}
use Rattle.rv_emit.proofs.counters.+reads.Goals as goal

pub read_list-read_step-requires : goal.read_list-read_step-requires
read_list-read_step-requires t c =
    let lists = c.args.nest.now in
    let number = c.args.number in
    let items = c.list-step-items.result.now in
    let d = step.Set 0 (pos 0) in
    let of = get_or items c.loop-step.step-index d in
    let named = c.lists_in_order.ensures.greater lists number items c.list-step-items.ensures.kept c.list-step-items.ensures.list in
    let inner = inner-at (λ inner. (number < inner) × (inner < length lists)) items c.loop-step.step-index d c.loop-step-test.true named in
    let falls = ahead-falls number (length lists) of c.requires inner in
    (omega (arith, falls, c.decreases), all-weaker (λ inner h. h.1) (inner_lists of) inner)

pub read_list-loop-step-preserved : goal.read_list-loop-step-preserved
read_list-loop-step-preserved t c =
    takes-more (tree_at (trees_from 0 c.args.nest.now)) c.list-step-items.result.now c.loop-step.step-index _ c.args.registers.now.keys
    c.loop-step.registers.keys c.read_step.new.registers.keys c.loop-step-test.true c.loop-step.invariant c.in_ok-read_step.ensures

pub read_list-returns : goal.read_list-returns
read_list-returns t c =
    let lists = c.args.nest.now in
    let items = c.list-step-items.result.now in
    let old = c.args.registers.now.keys in
    let now = c.loop-step.registers.keys in
    let all = take_all c.loop-step.step-index items c.loop-step-test.false in
    let tree = c.lists_in_order.ensures.trees lists c.args.number items c.list-step-items.ensures.kept c.list-step-items.ensures.list in
    subst (λ tree. Takes (read_by tree) old now) (ap (steps_of (tree_at (trees_from 0 lists))) all ∙ sym tree) c.loop-step.invariant

use Rattle.std.proofs.Common.{◌+◌, ◌*◌, subst}
use Rattle.shape_check.specs.Costs.{element_work, nodes}
use Rattle.shape_check.specs.Uses.{IsCapped}
use Rattle.shape_check.specs.Judged.{node_tree}
use Rattle.shape_check.proofs.CountLemmas.{own_extent, priced_as, right_extent, shapes_of_one, shapes_of_two}
use Rattle.shape_check.specs.declared.uses.Form.TheVariants as form
use Rattle.shape_check.proofs.uses.+counts_of.Goals as goal

pub returns-in-Stored : goal.returns-in-Stored
returns-in-Stored t c = λ prices names shapes.
    let pools = c.args.program.now in
    priced_as c.node_trees.ensures pools c.requires.program.ordered c.args.number c.node-node.result c.node-node.ensures prices form.Stored
    (c.in-Stored.ensures.nodes prices _ _) (c.in-Stored.ensures.work prices _ _) c.stored.result c.stored.ensures

pub returns-in-Use : goal.returns-in-Use
returns-in-Use t c = λ prices names shapes.
    let pools = c.args.program.now in
    priced_as c.node_trees.ensures pools c.requires.program.ordered c.args.number c.node-node.result c.node-node.ensures prices (form.Use c.in-Use.name)
    (c.in-Use.ensures.nodes prices _ _) (c.in-Use.ensures.work prices _ _) c.used.result (c.used.ensures prices names)

pub returns-in-One : goal.returns-in-One
returns-in-One t c = λ prices names shapes.
    let pools = c.args.program.now in
    priced_as c.node_trees.ensures pools c.requires.program.ordered c.args.number c.node-node.result c.node-node.ensures prices (form.One c.in-One.of)
    (c.in-One.ensures.nodes prices _ _) (c.in-One.ensures.work prices _ _) c.above.result
    (c.above.ensures _ _
    (c.counts_of.ensures prices names
    (shapes_of_one c.walks_in_order.ensures.step pools c.requires.program.ordered prices c.args.shapes.now c.args.number c.node-node.result c.node-node.ensures shapes
    c.in-One.of c.in-One.ensures.operands)))

pub returns-in-Two : goal.returns-in-Two
returns-in-Two t c = λ prices names shapes.
    let pools = c.args.program.now in
    let parts = shapes_of_two c.walks_in_order.ensures.step pools c.requires.program.ordered prices c.args.shapes.now c.args.number c.node-node.result c.node-node.ensures
    shapes c.in-Two.left c.in-Two.right c.in-Two.ensures.operands in
    priced_as c.node_trees.ensures pools c.requires.program.ordered c.args.number c.node-node.result c.node-node.ensures prices
    (form.Two c.in-Two.left c.in-Two.right)
    (c.in-Two.ensures.nodes prices _ _) (c.in-Two.ensures.work prices _ _) c.above-in-Two.result
    (c.above-in-Two.ensures _ _
    (c.both.ensures _ _ _ _ (c.counts_of-in-Two.ensures prices names parts.0) (c.counts_of-in-Two-2.ensures prices names parts.1)))

pub returns-in-Inner : goal.returns-in-Inner
returns-in-Inner t c = λ prices names shapes.
    let pools = c.args.program.now in
    let parts = shapes_of_two c.walks_in_order.ensures.step pools c.requires.program.ordered prices c.args.shapes.now c.args.number c.node-node.result c.node-node.ensures
    shapes c.in-Inner.left c.in-Inner.right c.in-Inner.ensures.operands in
    let operands = c.parts_are_there.ensures.operands pools c.args.number c.node-node.result c.requires.program c.node-node.ensures in
    let extent = right_extent pools prices c.args.shapes.now c.walks_in_order.ensures.step c.requires.program.ordered c.args.number c.node-node.result
    c.in-Inner.left c.in-Inner.right c.in-Inner.ensures.operands operands c.requires.each parts.1 c.index-shapes-right.result c.first_extent-extent.result
    c.index-shapes-right.is c.first_extent-extent.ensures in
    priced_as c.node_trees.ensures pools c.requires.program.ordered c.args.number c.node-node.result c.node-node.ensures prices
    (form.Inner c.in-Inner.left c.in-Inner.right)
    (c.in-Inner.ensures.nodes prices _ _) (c.in-Inner.ensures.work prices _ _) c.above_all.result
    (subst (λ e. IsCapped (1 + (nodes prices (node_tree pools c.in-Inner.left) + nodes prices (node_tree pools c.in-Inner.right)))
    (1 + e * (2 + (element_work prices (node_tree pools c.in-Inner.left) + element_work prices (node_tree pools c.in-Inner.right)))) c.above_all.result) extent
    (c.above_all.ensures _ _
    (c.stepped.ensures _ _
    (c.both-each.ensures _ _ _ _ (c.counts_of-in-Inner.ensures prices names parts.0) (c.counts_of-in-Inner-2.ensures prices names parts.1)))))

pub returns-in-Reduce : goal.returns-in-Reduce
returns-in-Reduce t c = λ prices names shapes.
    let pools = c.args.program.now in
    let part = shapes_of_one c.walks_in_order.ensures.step pools c.requires.program.ordered prices c.args.shapes.now c.args.number c.node-node.result c.node-node.ensures
    shapes c.in-Reduce.of c.in-Reduce.ensures.operands in
    let operands = c.parts_are_there.ensures.operands pools c.args.number c.node-node.result c.requires.program c.node-node.ensures in
    let extent = own_extent pools prices c.args.shapes.now c.walks_in_order.ensures.step c.requires.program.ordered c.args.number c.node-node.result
    c.in-Reduce.of c.in-Reduce.ensures.operands operands c.requires.each part c.index-shapes-of.result c.first_extent-extent-in-Reduce.result
    c.index-shapes-of.is c.first_extent-extent-in-Reduce.ensures in
    priced_as c.node_trees.ensures pools c.requires.program.ordered c.args.number c.node-node.result c.node-node.ensures prices
    (form.Reduce c.in-Reduce.of)
    (c.in-Reduce.ensures.nodes prices _ _) (c.in-Reduce.ensures.work prices _ _) c.above_all-in-Reduce.result
    (subst (λ e. IsCapped (1 + nodes prices (node_tree pools c.in-Reduce.of)) (1 + e * (1 + element_work prices (node_tree pools c.in-Reduce.of))) c.above_all-in-Reduce.result) extent
    (c.above_all-in-Reduce.ensures _ _ (c.stepped-in-Reduce.ensures _ _ (c.counts_of-in-Reduce.ensures prices names part))))

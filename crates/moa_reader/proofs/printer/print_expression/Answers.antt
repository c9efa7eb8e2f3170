use Rattle.moa_reader.proofs.StackLemmas.{next-fewer, next-printed}
use Rattle.moa_reader.proofs.printer.print_expression.Goals as goal

pub loop-number-smaller : goal.loop-number-smaller
loop-number-smaller c =
    rw (c.in_ok-push_operands.ensures, c.in-Some.ensures.items)
    (next-fewer c.node_trees.ensures c.args.program.now c.requires.program c.in-Some.number c.node-node.result c.pop.new.self.items c.node-node.ensures)

pub loop-number-preserved : goal.loop-number-preserved
loop-number-preserved c =
    rw (c.in_ok-push_operands.ensures, c.in_ok-print_head.ensures)
    (next-printed c.node_trees.ensures c.args.program.now c.requires.program c.parts_are_there.ensures.operands
    c.in-Some.number c.node-node.result c.pop.new.self.items c.node-node.ensures c.in-Some.ensures.items c.loop-number.invariant)

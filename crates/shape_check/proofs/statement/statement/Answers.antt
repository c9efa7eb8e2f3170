use Rattle.std.proofs.Common.{refl, arith}
use Rattle.shape_check.proofs.ReachLemmas.{fails_so, goes_on, room_left}
use Rattle.shape_check.proofs.statement.statement.Goals as goal

pub named-requires-clause-room : goal.named-requires-clause-room
named-requires-clause-room c =
    let room = room_left c.walks_in_order.ensures.once c.walks_in_order.ensures.within c.args.program.now c.requires.program c.args.count _ c.in-Name.node c.in-Name.ensures refl in
    omega (arith, room, c.requires.reached.1.few_scans, c.requires.program.few, c.requires.few, c.requires.fewer)

pub output-requires-clause-room : goal.output-requires-clause-room
output-requires-clause-room c =
    let room = room_left c.walks_in_order.ensures.once c.walks_in_order.ensures.within c.args.program.now c.requires.program c.args.count _ c.in-Output.node c.in-Output.ensures refl in
    omega (arith, room, c.requires.reached.1.few_scans, c.requires.program.few, c.requires.few, c.requires.fewer)

pub returns-in-Input-clause-reached : goal.returns-in-Input-clause-reached
returns-in-Input-clause-reached c =
    goes_on c.args.program.now c.args.inventory c.args.count _ c.in-Input.ensures c.args.progress.now c.requires.reached c.input.result c.input.new.progress
    (c.input.ensures.added c.args.inventory c.requires.reached.0 c.args.count c.requires.reached.1.names c.in-Input.ensures)

pub returns-in-Input-clause-refused : goal.returns-in-Input-clause-refused
returns-in-Input-clause-refused c =
    fails_so c.args.program.now c.args.inventory c.args.count _ c.in-Input.ensures c.args.progress.now c.requires.reached c.input.result
    (c.input.ensures.refused c.requires.reached.0 c.args.count c.requires.reached.1.names c.in-Input.ensures)

pub returns-in-Name-clause-reached : goal.returns-in-Name-clause-reached
returns-in-Name-clause-reached c =
    goes_on c.args.program.now c.args.inventory c.args.count _ c.in-Name.ensures c.args.progress.now c.requires.reached c.named.result c.named.new.progress
    (c.named.ensures.added c.requires.reached.0 c.args.count c.requires.reached.1.names c.in-Name.ensures)

pub returns-in-Name-clause-refused : goal.returns-in-Name-clause-refused
returns-in-Name-clause-refused c =
    fails_so c.args.program.now c.args.inventory c.args.count _ c.in-Name.ensures c.args.progress.now c.requires.reached c.named.result
    (c.named.ensures.refused c.requires.reached.0 c.args.count c.requires.reached.1.names c.in-Name.ensures)

pub returns-in-Output-clause-reached : goal.returns-in-Output-clause-reached
returns-in-Output-clause-reached c =
    goes_on c.args.program.now c.args.inventory c.args.count _ c.in-Output.ensures c.args.progress.now c.requires.reached c.output.result c.output.new.progress
    (c.output.ensures.added c.requires.reached.0 c.args.count c.requires.reached.1.names c.in-Output.ensures)

pub returns-in-Output-clause-refused : goal.returns-in-Output-clause-refused
returns-in-Output-clause-refused c =
    fails_so c.args.program.now c.args.inventory c.args.count _ c.in-Output.ensures c.args.progress.now c.requires.reached c.output.result
    (c.output.ensures.refused c.requires.reached.0 c.args.count c.requires.reached.1.names c.in-Output.ensures)

use Rattle.std.proofs.Common.{sym}
use Rattle.psi_compile.proofs.UnbuiltLemmas.{each-plain, found-within, not-built}
use Rattle.psi_compile.proofs.built.first_unbuilt.Goals as goal

pub returns-in-None : goal.returns-in-None
returns-in-None c = λ text reads stands.
    let pools = c.args.program.now in
    each-plain pools (c.walks_in_order.ensures.expressions pools c.statements-statements.ensures.program) (sym c.in-None.ensures)

pub position-requires : goal.position-requires
position-requires c =
    let pools = c.args.program.now in
    found-within pools _ _ (c.walks_in_order.ensures.within pools c.statements-statements.ensures.program) c.in-Some.number
    (sym c.in-Some.ensures)

pub returns-in-Some : goal.returns-in-Some
returns-in-Some c = λ text reads stands.
    let pools = c.args.program.now in
    not-built text pools reads stands (c.walks_in_order.ensures.expressions pools c.statements-statements.ensures.program) c.in-Some.number
    (sym c.in-Some.ensures) c.position.result c.position.ensures

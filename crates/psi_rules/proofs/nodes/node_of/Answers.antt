use Rattle.std.specs.Prelude.{◌≡◌, pos, slice_get, Some}
use Rattle.std.proofs.Common.{subst}
use Rattle.std.proofs.lemmas.Option.{get_or_from_slice_get}
use Rattle.moa_tree.specs.declared.tree.Node.TheVariants as node
use Rattle.moa_tree.specs.Pools.{IsProgram}
use Rattle.psi_rules.proofs.ReadyLemmas.{operands-ready}
use Rattle.psi_rules.proofs.nodes.node_of.Goals as goal

pub returns-clause-ready : goal.returns-clause-ready
returns-clause-ready c = λ tables statement names.
    let pools = c.args.checked.now.pools in
    let same = c.program-program.ensures.value in
    let there = subst (λ p. slice_get p.nodes c.args.number ≡ Some c.node.result) same c.node.ensures in
    operands-ready c.args.checked.now tables statement names c.node_laws.ensures.walks c.args.number c.node.result
    (get_or_from_slice_get pools.nodes c.args.number c.node.result (node.Iota (pos 0)) there)
    (c.parts_are_there.ensures.operands pools c.args.number c.node.result (subst IsProgram same c.statements-statements.ensures.program) there)

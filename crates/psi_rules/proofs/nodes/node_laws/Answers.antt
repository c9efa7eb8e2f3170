use Rattle.std.specs.Prelude.{pos}
use Rattle.std.proofs.Common.{subst}
use Rattle.moa_tree.specs.declared.tree.Node.TheVariants as node
use Rattle.moa_tree.specs.Pools.{IsProgram}
use Rattle.psi_rules.proofs.nodes.node_laws.Goals as goal

pub returns-clause-trees : goal.returns-clause-trees
returns-clause-trees c = λ n there.
    let pools = c.args.checked.now.pools in
    c.node_trees.ensures pools.numbers pools.nodes (subst IsProgram c.program.ensures.value c.statements-statements.ensures.program).ordered n
    (node.Iota (pos 0)) there

pub returns-clause-walks : goal.returns-clause-walks
returns-clause-walks c = λ n there.
    c.walks_in_order.ensures.step c.args.checked.now.pools.nodes
    (subst IsProgram c.program.ensures.value c.statements-statements.ensures.program).ordered n
    (node.Iota (pos 0)) there

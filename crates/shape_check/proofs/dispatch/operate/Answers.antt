use Rattle.std.proofs.Common.{◌≡◌, ◌∙◌, ap, sym}
use Rattle.moa_tree.specs.Pool.{expr_of, trees}
use Rattle.shape_check.specs.Judged.{node_tree}
use Rattle.shape_check.proofs.OperatedLemmas.{accepted-shaped}
use Rattle.shape_check.proofs.dispatch.operate.Goals as goal

pub returns-in-Ok : goal.returns-in-Ok
returns-in-Ok c = λ prices operator accepted.
    let pools = c.args.program.now in
    let t = trees pools.numbers pools.nodes in
    let same = c.node_at-node.ensures.same in
    let e : node_tree pools c.args.number ≡ expr_of pools.numbers t c.node_at-node.result =
    c.node_laws.ensures.trees c.args.number c.requires.there
    ∙ ap (expr_of pools.numbers t) same in
    let o = rw same at operator in
    let a = rw same at accepted in
    rw e (
    record {
      accepted = λ at. sym (c.in-Ok.ensures prices t o (accepted-shaped _ _ _ a) at);
      nodes = c.operator_nodes.ensures prices pools.numbers t o a;
      work = c.operator_work.ensures prices pools.numbers t o a;
    }
    )

pub returns-in-Err : goal.returns-in-Err
returns-in-Err c = λ prices operator accepted.
    let pools = c.args.program.now in
    let t = trees pools.numbers pools.nodes in
    let same = c.node_at-node.ensures.same in
    let e : node_tree pools c.args.number ≡ expr_of pools.numbers t c.node_at-node.result =
    c.node_laws.ensures.trees c.args.number c.requires.there
    ∙ ap (expr_of pools.numbers t) same in
    let o = rw same at operator in
    let a = rw same at accepted in
    rw e (λ at. sym (c.in-Err.ensures prices t o (accepted-shaped _ _ _ a) at))

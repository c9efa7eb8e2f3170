use Rattle.std.specs.Prelude.{◌≡◌, ◌∷◌}
use Rattle.std.specs.List.{flat_map}
use Rattle.std.proofs.Common.{ap, ◌∙◌, arith}
use Rattle.std.proofs.lemmas.Result.{err_from_is_err_and}
use Rattle.moa_tree.specs.Pool.{operands, walk_of}
use Rattle.moa_tree.specs.declared.tree.Node.TheVariants as node
use Rattle.shape_check.specs.Operated.{node_at}
use Rattle.shape_check.proofs.ExpressionLemmas.{fails-first, fails-second, walk-length}
use Rattle.shape_check.proofs.OperatedLemmas.{accepted-none, accepted-one, accepted-two}
use Rattle.shape_check.proofs.WalkLemmas.{walk-none, walk-one, walk-two}
use Rattle.shape_check.proofs.WrittenLemmas.{kept-both, kept-none, kept-settled, kept-part, written-both, written-none, written-settled}
use Rattle.shape_check.proofs.expression.+judge_node.Goals as goal

-- the use of a name
pub returns-in-Name-clause-judged : goal.returns-in-Name-clause-judged
returns-in-Name-clause-judged t c = λ prices names.
    let here : node_at c.args.program.now c.args.number ≡ node.Use c.in-Name.name = c.in-Name.ensures in
    c.settle.ensures.judged prices (rw (c.node_laws.ensures.trees c.args.number c.requires.there, here) (c.declared.ensures prices names))

pub returns-in-Name-clause-written : goal.returns-in-Name-clause-written
returns-in-Name-clause-written t c = λ prices names.
    let walk = walk-none (walk_of c.args.program.now.nodes) c.args.number _ (c.node_laws.ensures.walks c.args.number c.requires.there) (ap operands c.in-Name.ensures) in
    written-settled c.args.program.now prices c.args.number _ c.args.shapes.now c.settle.new.shapes c.settle.result walk (omega arith) (written-none c.args.program.now prices c.args.shapes.now)
    (returns-in-Name-clause-judged t c prices names) c.settle.ensures.settled

pub returns-in-Name-clause-kept : goal.returns-in-Name-clause-kept
returns-in-Name-clause-kept t c =
    let walk = walk-none (walk_of c.args.program.now.nodes) c.args.number _ (c.node_laws.ensures.walks c.args.number c.requires.there) (ap operands c.in-Name.ensures) in
    kept-settled c.args.number _ _ c.args.shapes.now _ _ c.settle.result walk (kept-none _) c.settle.ensures.settled

-- no operand
pub returns-in-None-clause-judged : goal.returns-in-None-clause-judged
returns-in-None-clause-judged t c = λ prices names.
    c.settle-in-None.ensures.judged prices (
    c.operate.ensures prices c.in-None.ensures.0
    (accepted-none c.args.program.now prices _ _ _ c.in-None.ensures.1 (c.absent.ensures.nodes, c.absent.ensures.work) (c.absent-in-None.ensures.nodes, c.absent-in-None.ensures.work))
    )

pub returns-in-None-clause-written : goal.returns-in-None-clause-written
returns-in-None-clause-written t c = λ prices names.
    let walk = walk-none (walk_of c.args.program.now.nodes) c.args.number _ (c.node_laws.ensures.walks c.args.number c.requires.there) c.in-None.ensures.1 in
    written-settled c.args.program.now prices c.args.number _ c.args.shapes.now c.settle-in-None.new.shapes c.settle-in-None.result walk (omega arith) (written-none c.args.program.now prices c.args.shapes.now)
    (returns-in-None-clause-judged t c prices names) c.settle-in-None.ensures.settled

pub returns-in-None-clause-kept : goal.returns-in-None-clause-kept
returns-in-None-clause-kept t c =
    let walk = walk-none (walk_of c.args.program.now.nodes) c.args.number _ (c.node_laws.ensures.walks c.args.number c.requires.there) c.in-None.ensures.1 in
    kept-settled c.args.number _ _ c.args.shapes.now _ _ c.settle-in-None.result walk (kept-none _) c.settle-in-None.ensures.settled

-- one operand
pub returns-in_err-known-in-One-clause-judged : goal.returns-in_err-known-in-One-clause-judged
returns-in_err-known-in-One-clause-judged t c = λ prices names.
    let p = err_from_is_err_and c.from_residual.result c.from_residual.ensures.1 in
    let walk = c.node_laws.ensures.walks c.args.number c.requires.there ∙ ap (λ l. c.args.number ∷ flat_map (walk_of c.args.program.now.nodes) l) c.in-One.ensures.1 in
    rw (p.1, p.2) (
    fails-first c.args.program.now prices c.args.number c.in-One.of _ _ _ (c.node_laws.ensures.trees c.args.number c.requires.there) c.in-One.ensures.1 walk (c.in_err-known-in-One.ensures.judged prices names)
    )

pub returns-in_ok-known-in-One-clause-judged : goal.returns-in_ok-known-in-One-clause-judged
returns-in_ok-known-in-One-clause-judged t c = λ prices names.
    c.settle-in-One.ensures.judged prices (
    c.operate-in-One.ensures prices c.in-One.ensures.0
    (accepted-one c.args.program.now prices c.in-One.of _ _ _ c.in-One.ensures.1 (c.in_ok-known-in-One.ensures.judged prices names) (c.absent-in-One.ensures.nodes, c.absent-in-One.ensures.work))
    )

pub returns-in_ok-known-in-One-clause-written : goal.returns-in_ok-known-in-One-clause-written
returns-in_ok-known-in-One-clause-written t c = λ prices names.
    let walk = walk-one (walk_of c.args.program.now.nodes) c.args.number c.in-One.of _ (c.node_laws.ensures.walks c.args.number c.requires.there) c.in-One.ensures.1 in
    written-settled c.args.program.now prices c.args.number _ c.judge_node.new.shapes c.settle-in-One.new.shapes c.settle-in-One.result walk (omega arith) (c.in_ok-known-in-One.ensures.written prices names)
    (returns-in_ok-known-in-One-clause-judged t c prices names) c.settle-in-One.ensures.settled

pub returns-in_ok-known-in-One-clause-kept : goal.returns-in_ok-known-in-One-clause-kept
returns-in_ok-known-in-One-clause-kept t c =
    let walk = walk-one (walk_of c.args.program.now.nodes) c.args.number c.in-One.of _ (c.node_laws.ensures.walks c.args.number c.requires.there) c.in-One.ensures.1 in
    kept-settled c.args.number _ _ c.args.shapes.now _ _ c.settle-in-One.result walk c.judge_node.ensures.kept c.settle-in-One.ensures.settled

-- two operands
pub returns-in_err-first-in-Two-clause-judged : goal.returns-in_err-first-in-Two-clause-judged
returns-in_err-first-in-Two-clause-judged t c = λ prices names.
    let p = err_from_is_err_and c.from_residual-in_err-first-in-Two.result c.from_residual-in_err-first-in-Two.ensures.1 in
    let walk = walk-two (walk_of c.args.program.now.nodes) c.args.number c.in-Two.left c.in-Two.right _ (c.node_laws.ensures.walks c.args.number c.requires.there) c.in-Two.ensures.1 in
    rw (p.1, p.2) (
    fails-first c.args.program.now prices c.args.number c.in-Two.left _ _ _ (c.node_laws.ensures.trees c.args.number c.requires.there) c.in-Two.ensures.1 walk (c.in_err-first-in-Two.ensures.judged prices names)
    )

pub returns-in_err-second-in-Two-clause-judged : goal.returns-in_err-second-in-Two-clause-judged
returns-in_err-second-in-Two-clause-judged t c = λ prices names.
    let p = err_from_is_err_and c.from_residual-in_err-second-in-Two.result c.from_residual-in_err-second-in-Two.ensures.1 in
    let walk = walk-two (walk_of c.args.program.now.nodes) c.args.number c.in-Two.left c.in-Two.right _ (c.node_laws.ensures.walks c.args.number c.requires.there) c.in-Two.ensures.1 in
    let long = walk-length c.args.program.now c.in-Two.left (c.node_laws.ensures.expressions c.in-Two.left (omega (arith, c.in-Two.ensures.2))) in
    rw (p.1, p.2) (
    fails-second c.args.program.now prices c.args.number c.in-Two.left c.in-Two.right c.in_ok-first-in-Two.first.shape _ (c.node_laws.ensures.trees c.args.number c.requires.there) c.in-Two.ensures.1 walk long
    (c.in_ok-first-in-Two.ensures.judged prices names).accepted (c.in_err-second-in-Two.ensures.judged prices names)
    )

pub returns-in_err-second-in-Two-clause-kept : goal.returns-in_err-second-in-Two-clause-kept
returns-in_err-second-in-Two-clause-kept t c =
    let walk = walk-two (walk_of c.args.program.now.nodes) c.args.number c.in-Two.left c.in-Two.right _ (c.node_laws.ensures.walks c.args.number c.requires.there) c.in-Two.ensures.1 in
    kept-part c.args.number _ (walk_of c.args.program.now.nodes c.in-Two.left) (walk_of c.args.program.now.nodes c.in-Two.right) c.args.shapes.now _ walk
    (kept-both (walk_of c.args.program.now.nodes c.in-Two.left) (walk_of c.args.program.now.nodes c.in-Two.right) c.args.shapes.now c.judge_node-in-Two.new.shapes _ c.judge_node-in-Two.ensures.kept c.judge_node-in-Two-2.ensures.kept)

pub returns-in_ok-second-in-Two-clause-judged : goal.returns-in_ok-second-in-Two-clause-judged
returns-in_ok-second-in-Two-clause-judged t c = λ prices names.
    c.settle-in-Two.ensures.judged prices (
    c.operate-in-Two.ensures prices c.in-Two.ensures.0
    (accepted-two c.args.program.now prices c.in-Two.left c.in-Two.right _ _ _ c.in-Two.ensures.1 (c.in_ok-first-in-Two.ensures.judged prices names) (c.in_ok-second-in-Two.ensures.judged prices names))
    )

pub returns-in_ok-second-in-Two-clause-written : goal.returns-in_ok-second-in-Two-clause-written
returns-in_ok-second-in-Two-clause-written t c = λ prices names.
    let walk = walk-two (walk_of c.args.program.now.nodes) c.args.number c.in-Two.left c.in-Two.right _ (c.node_laws.ensures.walks c.args.number c.requires.there) c.in-Two.ensures.1 in
    let first = c.in_ok-first-in-Two.ensures.written prices names in
    let second = c.in_ok-second-in-Two.ensures.written prices names in
    let both = written-both c.args.program.now prices (walk_of c.args.program.now.nodes c.in-Two.left) (walk_of c.args.program.now.nodes c.in-Two.right) c.judge_node-in-Two.new.shapes c.judge_node-in-Two-2.new.shapes first second c.judge_node-in-Two-2.ensures.kept in
    written-settled c.args.program.now prices c.args.number _ c.judge_node-in-Two-2.new.shapes c.settle-in-Two.new.shapes c.settle-in-Two.result walk (omega arith) both
    (returns-in_ok-second-in-Two-clause-judged t c prices names) c.settle-in-Two.ensures.settled

pub returns-in_ok-second-in-Two-clause-kept : goal.returns-in_ok-second-in-Two-clause-kept
returns-in_ok-second-in-Two-clause-kept t c =
    let walk = walk-two (walk_of c.args.program.now.nodes) c.args.number c.in-Two.left c.in-Two.right _ (c.node_laws.ensures.walks c.args.number c.requires.there) c.in-Two.ensures.1 in
    kept-settled c.args.number _ _ c.args.shapes.now _ _ c.settle-in-Two.result walk
    (kept-both (walk_of c.args.program.now.nodes c.in-Two.left) (walk_of c.args.program.now.nodes c.in-Two.right) c.args.shapes.now c.judge_node-in-Two.new.shapes c.judge_node-in-Two-2.new.shapes c.judge_node-in-Two.ensures.kept c.judge_node-in-Two-2.ensures.kept)
    c.settle-in-Two.ensures.settled

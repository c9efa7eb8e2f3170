use Rattle.std.proofs.Common.{refl, ap, sym, subst, ◌∙◌, length}
use Rattle.std.specs.Prelude.{slice_get}
use Rattle.std.proofs.lemmas.List.{with_items_is}
use Rattle.moa_tree.specs.Pool.{walk_of}
use Rattle.shape_check.specs.Uses.{HasShapes}
use Rattle.std.proofs.lemmas.Result.{err_from_is_err_and}
use Rattle.moa_tree.specs.declared.tree.Statement.TheVariants as declaration
use Rattle.moa_tree.specs.Expr.{Let}
use Rattle.shape_check.specs.Judged.{node_tree}
use Rattle.shape_check.proofs.AddLemmas.{adds_let, expression_fails}
use Rattle.shape_check.proofs.StatementLemmas.{fails_as, table_known}
use Rattle.shape_check.proofs.statement.named.Goals as goal

pub returns-in_err-known-clause-refused : goal.returns-in_err-known-clause-refused
returns-in_err-known-clause-refused c = λ prices count names there.
    let p = err_from_is_err_and c.from_residual.result c.from_residual.ensures.1 in
    let pools = c.args.program.now in
    rw (p.1, p.2)
    (fails_as pools prices count (Let c.args.name (node_tree pools c.args.number)) c.in_err-known.field-0.0
    (expression_fails c.walks_in_order.ensures.step c.node_trees.ensures c.walks_in_order.ensures.once
    c.walks_in_order.ensures.within c.walks_in_order.ensures.each pools c.requires.program prices count
    (declaration.Name c.args.name c.args.number c.args.at) c.args.number c.requires.there there refl c.args.name c.args.at c.in_err-known.field-0.0 refl
    (c.in_err-known.ensures.answered prices names)))

pub returns-clause-added : goal.returns-clause-added
returns-clause-added c = λ prices count names there.
    let pools = c.args.program.now in
    let walks = c.walks_in_order.ensures.step in
    let over = c.node_trees.ensures in
    let once = c.walks_in_order.ensures.once in
    let inside = c.walks_in_order.ensures.within in
    let each = c.walks_in_order.ensures.each in
    let table = c.expression.new.shapes in
    let kept = c.in_ok-add_scans.ensures.kept in
    let is = with_items_is c.args.progress.now.shapes table (c.in_ok-known.ensures.sized ∙ c.deref_mut.ensures.len) in
    let answered = c.in_ok-known.ensures.answered prices names in
    let shaped = c.in_ok-known.ensures.shaped prices names in
    let known = table_known each pools c.requires.program prices c.args.number c.requires.there table shaped in
    let added = c.in_ok-add_scans.ensures.added prices names (subst (λ l. HasShapes pools prices l (walk_of pools.nodes c.args.number)) (sym is) known) in
    (adds_let walks over once inside each pools c.requires.program prices count
    (declaration.Name c.args.name c.args.number c.args.at) c.args.number c.requires.there there refl
    c.args.inventory c.args.name c.in_ok-known.known answered.0 answered.1 c.args.progress.now c.add_scans.new.progress c.in_ok-known.ensures.free names table
    (λ n h. c.in_ok-known.ensures.kept n h ∙ ap (λ l. slice_get l n) c.deref_mut.ensures.value) shaped (c.in_ok-known.ensures.sized ∙ ap length c.deref_mut.ensures.value)
    kept.names (kept.shapes ∙ is) kept.statement_shapes kept.inputs kept.outputs added.jobs added.scans added.totals
    _ c.in_ok-add_name.ensures.named refl c.in_ok-add_name.ensures.shaped refl refl refl refl refl)

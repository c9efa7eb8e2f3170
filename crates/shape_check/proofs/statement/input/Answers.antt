use Rattle.std.proofs.Common.{◌≡◌, ℕ, List, ◌++◌, refl, subst, sym}
use Rattle.std.specs.Prelude.{Ok, Err}
use Rattle.std.specs.List.{list_all}
use Rattle.moa_tree.specs.Axes.{naturals}
use Rattle.shape_check.specs.Rules.{Place, is_natural, rule, shape_limits}
use Rattle.shape_check.specs.Verdict.{judged}
use Rattle.std.proofs.lemmas.Result.{err_from_is_err_and}
use Rattle.moa_tree.specs.Expr.{Input}
use Rattle.moa_tree.specs.Pool.{list_at}
use Rattle.shape_check.specs.Progress.{Fails, answered, named_verdict}
use Rattle.shape_check.proofs.AddLemmas.{adds_input, input_fails, input_name_fails}
use Rattle.shape_check.proofs.StatementLemmas.{fails_as}
use Rattle.shape_check.proofs.statement.input.Goals as goal

pub returns-in_err-new_name-clause-refused : goal.returns-in_err-new_name-clause-refused
returns-in_err-new_name-clause-refused c = λ prices count names there.
    let p = err_from_is_err_and c.from_residual.result c.from_residual.ensures.1 in
    let told = c.in_err-new_name.ensures.told prices names in
    let pools = c.args.program.now in
    rw (p.1, p.2)
    (subst (Fails pools prices count (Input c.args.name (list_at pools.numbers c.args.extents))) (sym told.1)
    (input_name_fails pools prices count c.args.name c.args.extents c.args.at there told.0))

pub returns-in-Err-clause-refused : goal.returns-in-Err-clause-refused
returns-in-Err-clause-refused c = λ prices count names there.
    let pools = c.args.program.now in
    let fact = subst (λ l. named_verdict {A = List ℕ} count (Err c.in-Err.broken)
    ≡ judged (rule (Place.Name count) 3 (list_all is_natural l) ++ shape_limits (Place.Name count) (naturals l)) (naturals l)) c.list.ensures (c.in-Err.ensures count) in
    subst (Fails pools prices count (Input c.args.name (list_at pools.numbers c.args.extents))) (sym c.refusal.ensures)
    (fails_as pools prices count (Input c.args.name (list_at pools.numbers c.args.extents)) (answered c.args.at c.in-Err.broken)
    (input_fails pools prices count c.args.name c.args.extents c.args.at there (c.in_ok-new_name.ensures.told prices names) c.in-Err.broken fact))

pub returns-in_ok-add_array-in-Ok-clause-added : goal.returns-in_ok-add_array-in-Ok-clause-added
returns-in_ok-add_array-in-Ok-clause-added c = λ inventory prices count names there.
    let pools = c.args.program.now in
    let fact = subst (λ l. named_verdict {A = List ℕ} count (Ok c.in-Ok.shape)
    ≡ judged (rule (Place.Name count) 3 (list_all is_natural l) ++ shape_limits (Place.Name count) (naturals l)) (naturals l)) c.list.ensures (c.in-Ok.ensures count) in
    adds_input pools prices count c.args.name c.args.extents c.args.at there inventory c.args.progress.now _ c.in-Ok.shape c.stored.result names c.in_ok-new_name.ensures.free
    (c.in_ok-new_name.ensures.told prices names) fact c.stored.ensures c.in_ok-add_name-in-Ok.ensures.named refl c.in_ok-add_name-in-Ok.ensures.shaped refl
    c.in_ok-add_array-in-Ok.ensures refl refl refl

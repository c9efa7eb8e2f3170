use Rattle.std.proofs.Common.{◌≡◌, ap, arith, length, subst, ◌∙◌}
use Rattle.shape_check.specs.Judged.{items_in}
use Rattle.psi_rules.specs.Rows.{IsFilled, counted}
use Rattle.psi_rules.proofs.statements.tables_of.Goals as goal

pub returns : goal.returns
returns c =
    let pools = c.args.checked.now.pools in
    let tables = c.loop-number.tables in
    let next = counted c.loop-number.next in
    let count : length c.statements-count.result.now ≡ length pools.statements =
    ap length c.statements-count.ensures.value ∙ ap (λ p. length p.statements) c.program.ensures.value in
    let all : c.loop-number.number ≡ length pools.statements = omega (arith, count, c.loop-number-test.false, c.loop-number.auto.number-end) in
    c.filled_tables_tell.ensures tables next (subst (λ n. IsFilled (items_in pools) n tables next) all c.loop-number.invariant)

use Rattle.std.specs.Prelude.{◌+◌, ◌≡◌, length}
use Rattle.std.proofs.Common.{ap, arith, subst, sym, ◌∙◌}
use Rattle.moa_tree.specs.Denotation.{scans_of}
use Rattle.shape_check.specs.Jobs.{output_count}
use Rattle.shape_check.specs.Judged.{items_in}
use Rattle.psi_rules.specs.Numbered.{HaveNumbers}
use Rattle.psi_rules.specs.Rows.{counted, item_in}
use Rattle.psi_rules.proofs.RowLemmas.{filled-by, item-there}
use Rattle.psi_rules.proofs.statements.enter.Goals as goal

pub scans_in-scans-requires-clause-few : goal.scans_in-scans-requires-clause-few
scans_in-scans-requires-clause-few c =
    let pools = c.args.checked.now.pools in
    let statement = c.statement_of-statement.result in
    let areas = c.areas_have_numbers.ensures c.args.number (item_in pools statement)
    (item-there pools c.args.number statement c.statement_of-statement.ensures.there) in
    let h = areas.scan in omega (arith, h)

pub jobs_in-requires : goal.jobs_in-requires
jobs_in-requires c =
    let pools = c.args.checked.now.pools in
    let statement = c.statement_of-statement.result in
    let areas = c.areas_have_numbers.ensures c.args.number (item_in pools statement)
    (item-there pools c.args.number statement c.statement_of-statement.ensures.there) in
    let h = areas.scan in omega (arith, h, c.scans_in-scans.ensures)

pub areas_behind-requires-clause-input : goal.areas_behind-requires-clause-input
areas_behind-requires-clause-input c =
    let pools = c.args.checked.now.pools in
    let statement = c.statement_of-statement.result in
    let item = item_in pools statement in
    let areas = subst (λ next. HaveNumbers next item) (sym c.requires.filled.reached) (c.areas_have_numbers.ensures c.args.number item
    (item-there pools c.args.number statement c.statement_of-statement.ensures.there)) in
    let h = areas.input in omega (arith, h)

pub areas_behind-requires-clause-output : goal.areas_behind-requires-clause-output
areas_behind-requires-clause-output c =
    let pools = c.args.checked.now.pools in
    let statement = c.statement_of-statement.result in
    let item = item_in pools statement in
    let areas = subst (λ next. HaveNumbers next item) (sym c.requires.filled.reached) (c.areas_have_numbers.ensures c.args.number item
    (item-there pools c.args.number statement c.statement_of-statement.ensures.there)) in
    let h = areas.output in omega (arith, h)

pub areas_behind-requires-clause-scan : goal.areas_behind-requires-clause-scan
areas_behind-requires-clause-scan c =
    let pools = c.args.checked.now.pools in
    let statement = c.statement_of-statement.result in
    let item = item_in pools statement in
    let areas = subst (λ next. HaveNumbers next item) (sym c.requires.filled.reached) (c.areas_have_numbers.ensures c.args.number item
    (item-there pools c.args.number statement c.statement_of-statement.ensures.there)) in
    let h = areas.scan in omega (arith, h, c.scans_in-scans.ensures)

pub returns : goal.returns
returns c =
    let pools = c.args.checked.now.pools in
    let statement = c.statement_of-statement.result in
    let item = item_in pools statement in
    let scans = c.scans_in-scans.result in
    let count = c.jobs_in.result in
    let counted-so : count ≡ length (scans_of item) + output_count item =
    c.jobs_in.ensures pools ∙ ap (λ n. n + output_count item) c.scans_in-scans.ensures in
    filled-by (items_in pools) c.args.number c.args.tables.now c.push.new.self c.declare.new.self c.own.new.self
    (counted c.args.next) (counted c.areas_behind.result) item c.name_of.result c.own_area.result c.end_of-end.result count
    (item-there pools c.args.number statement c.statement_of-statement.ensures.there) c.in_ok-push.ensures c.in_ok-declare.ensures c.in_ok-own.ensures
    (c.name_of.ensures pools) (c.own_area.ensures pools) c.end_of-end.ensures counted-so (c.areas_behind.ensures pools c.scans_in-scans.ensures)
    c.requires.filled

use Rattle.std.proofs.Common.{◌≡◌, ◌++◌, ◌<◌, ◌≤◌, [], length, Some, slice_get, refl, sym, ap, ◌∙◌, arith}
use Rattle.std.specs.List.{flat_map, zip}
use Rattle.std.specs.Option.{option_map}
use Rattle.std.specs.Prelude.{slice_index_or}
use Rattle.std.proofs.lemmas.Option.{slice_get-get_or, slice_get-map}
use Rattle.std.proofs.lemmas.List.{length-map}
use Rattle.moa_tree.specs.Pool.{item_of, trees}
use Rattle.shape_check.specs.Judged.{items_in}
use Rattle.shape_check.specs.Layout.{statement_shapes}
use Rattle.psi_top.specs.Report.{statement_line}
use Rattle.psi_top.proofs.ReportLemmas.{pair-more, pairs-all, statement_shapes-len}
use Rattle.psi_top.proofs.report.report_on.Goals as goal

pub statement_shape-requires : goal.statement_shape-requires
statement_shape-requires c =
    let there : length c.statements-statements.result.now ≡ length c.args.checked.now.pools.statements =
    ap length c.statements-statements.ensures.value ∙ ap (λ p. length p.statements) c.program.ensures.value in
    omega (arith, there, c.loop-number-test.true)

pub loop-number-preserved : goal.loop-number-preserved
loop-number-preserved c =
    let pools = c.args.checked.now.pools in
    let of = item_of pools.numbers (trees pools.numbers pools.nodes) in
    let statement : slice_get pools.statements c.loop-number.number ≡ Some c.index-statements-number.result =
    rw (← c.program.ensures.value, ← c.statements-statements.ensures.value)
    (slice_get-get_or _ c.loop-number.number c.index-statements-number.result c.loop-number-test.true ∙ ap Some (sym c.index-statements-number.is)) in
    let item : slice_get (items_in pools) c.loop-number.number ≡ Some (of c.index-statements-number.result) =
    slice_get-map of pools.statements c.loop-number.number ∙ ap (option_map of) statement in
    let there : length c.statements-statements.result.now ≡ length (items_in pools) =
    ap length c.statements-statements.ensures.value ∙ ap (λ p. length p.statements) c.program.ensures.value ∙ sym (length-map pools.statements of) in
    let shapes = statement_shapes (items_in pools) in
    let within : c.loop-number.number < length shapes = omega (arith, there, statement_shapes-len (items_in pools), c.loop-number-test.true) in
    let shape : slice_get shapes c.loop-number.number ≡ Some c.statement_shape.result =
    slice_get-get_or shapes c.loop-number.number [] within
    ∙ ap Some (sym (c.statement_shape.ensures ∙ ap (λ list. slice_index_or list c.loop-number.number []) c.program.ensures.checked.shapes_of_statements)) in
    c.in_ok-push_statement.ensures pools.numbers (trees pools.numbers pools.nodes)
    ∙ ap (λ t. t ++ statement_line (of c.index-statements-number.result, c.statement_shape.result)) c.loop-number.invariant
    ∙ sym (pair-more statement_line (items_in pools) (statement_shapes (items_in pools)) c.loop-number.number _ _ item shape)

pub returns-clause-made : goal.returns-clause-made
returns-clause-made c =
    let pools = c.args.checked.now.pools in
    let items = items_in pools in
    let checked = c.program.ensures.checked in
    let there : length c.statements-statements.result.now ≡ length items =
    ap length c.statements-statements.ensures.value ∙ ap (λ p. length p.statements) c.program.ensures.value
    ∙ sym (length-map pools.statements (item_of pools.numbers (trees pools.numbers pools.nodes))) in
    let all : length items ≤ c.loop-number.number = omega (arith, there, c.loop-number-test.false) in
    let lines : c.loop-number.report.items ≡ flat_map statement_line (zip items (statement_shapes items)) =
    c.loop-number.invariant ∙ ap (flat_map statement_line) (pairs-all items (statement_shapes items) c.loop-number.number (statement_shapes-len items) all) in
    c.in_ok-push_costs.ensures ∙ rw (checked.sized, checked.worked, checked.laid_out, lines) refl

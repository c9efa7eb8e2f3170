use Rattle.std.proofs.Common.{length, ap, subst, arith, ◌∙◌}
use Rattle.std.specs.Str.Lines.{lines}
use Rattle.std.proofs.lemmas.List.{length-append}
use Rattle.std.proofs.lemmas.Result.{err_from_is_err_and}
use Rattle.rv_reader.specs.AreaRows.{row_of}
use Rattle.rv_reader.specs.Refusals.{area_in}
use Rattle.rv_reader.specs.RowsSoFar.{IsRowsSoFar}
use Rattle.rv_reader.proofs.RowStepLemmas.{one_area, rows_refused, rows_step}
use Rattle.rv_reader.proofs.rows.read_rows.Goals as goal

pub returns-in_err-add_row-clause-refused : goal.returns-in_err-add_row-clause-refused
returns-in_err-add_row-clause-refused c =
    let p = err_from_is_err_and c.from_residual.result c.from_residual.ensures.1 in
    let areas = c.loop-row.areas.areas.items in
    let all = lines c.args.text.now in
    let here = subst (IsRowsSoFar c.args.spill all c.loop-row.place areas) c.in-Some.ensures.split c.loop-row.invariant.so_far in
    rw (p.1, p.2)
    (rows_refused c.args.spill all c.loop-row.place areas c.in-Some.row.now (lines c.in-Some.behind.now) c.in_err-add_row.field-0.0 here c.in-Some.ensures.row c.in_err-add_row.ensures.refused)

pub loop-row-preserved : goal.loop-row-preserved
loop-row-preserved c =
    let areas = c.loop-row.areas.areas.items in
    let new = c.add_row.new.self.areas.items in
    let all = lines c.args.text.now in
    let here = subst (IsRowsSoFar c.args.spill all c.loop-row.place areas) c.in-Some.ensures.split c.loop-row.invariant.so_far in
    let most = one_area (row_of c.args.spill areas c.in-Some.row.now) in
    let added = ap length c.in_ok-add_row.ensures.areas ∙ length-append areas (area_in (row_of c.args.spill areas c.in-Some.row.now)) in
    let shorter = c.in-Some.ensures.shorter in
    let small = c.loop-row.invariant.small in
    let count = c.loop-row.invariant.count in
    record {
      so_far = rows_step c.args.spill all c.loop-row.place areas new c.in-Some.row.now (lines c.in-Some.behind.now) here c.in-Some.ensures.row c.in_ok-add_row.ensures.fine c.in_ok-add_row.ensures.areas;
      tracked = c.in_ok-add_row.ensures.tracked;
      small = omega (arith, shorter, small);
      count = omega (arith, shorter, count, added, most);
    }

use Rattle.array_text.proofs.PrintLemmas.{row_printed}
use Rattle.array_text.proofs.printer.push_rows.Goals as goal

pub loop-row-preserved : goal.loop-row-preserved
loop-row-preserved c =
    row_printed c.loop-row.out.items c.push_row.new.out.items _ c.split_at.result.0.now c.loop-row.rest.now c.split_at.result.1.now
    c.row_count-count.result c.loop-row.row c.row_length-length.result c.min-cut.result c.loop-row-test.true c.min-cut.ensures
    c.split_at.ensures.front c.split_at.ensures.back c.in_ok-push_row.ensures c.loop-row.invariant

use Rattle.rv_reader.proofs.RowStepLemmas.{row_follows, row_new}
use Rattle.rv_reader.proofs.rows.Areas.add_row.Goals as goal

pub add-requires-clause-follows : goal.add-requires-clause-follows
add-requires-clause-follows c = row_follows c.args.spill c.args.self.now.areas.items c.args.row.now c.in-Ok.area c.in-Ok.ensures.fine

pub add-requires-clause-new : goal.add-requires-clause-new
add-requires-clause-new c = row_new c.args.spill c.args.self.now.areas.items c.args.row.now c.in-Ok.area c.in-Ok.ensures.fine

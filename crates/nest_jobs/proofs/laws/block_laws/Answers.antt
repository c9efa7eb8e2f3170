use Rattle.nest_jobs.proofs.laws.block_laws.Goals as goal

pub returns : goal.returns
returns c = record {
  areas_shaped = c.areas_stand_in_order.ensures.shapes;
  areas_listed = c.areas_stand_in_order.ensures.lists;
  inputs_counted = c.areas_stand_in_order.ensures.inputs;
  areas_counted = c.areas_stand_in_order.ensures.all;
  names_shaped = c.names_have_shapes.ensures;
  arrays_shaped = c.lists_are_totals.ensures.after;
  jobs_shaped = c.jobs_are_tasks.ensures.shapes;
}

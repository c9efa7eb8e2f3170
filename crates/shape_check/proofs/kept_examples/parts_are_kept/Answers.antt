use Rattle.std.proofs.Common.{refl}
use Rattle.shape_check.proofs.kept_examples.parts_are_kept.Goals as goal

pub returns-clause-kept : goal.returns-clause-kept
returns-clause-kept c = record {
  accepted = refl;
  each = refl;
  shapes_of_nodes = refl;
  shapes_of_statements = refl;
  jobs_in_order = refl;
  laid_out = refl;
  sized = refl;
  worked = refl;
}

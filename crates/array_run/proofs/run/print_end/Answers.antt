use Rattle.array_run.proofs.BlockLemmas.{areas_lie_within}
use Rattle.array_run.proofs.run.print_end.Goals as goal

pub print_outputs-requires : goal.print_outputs-requires
print_outputs-requires c = record {
  within = rw (c.areas.ensures.value, c.header-spill.ensures)
      (areas_lie_within c.args.program.now.header c.args.program.now.areas _ c.areas.ensures.fits.in_block c.requires.sized);
}

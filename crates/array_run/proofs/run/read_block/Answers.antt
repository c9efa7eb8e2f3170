use Rattle.std.proofs.Common.{◌≡◌, ◌∙◌, ap, length}
use Rattle.array_run.specs.Starts.{start_block}
use Rattle.array_run.proofs.BlockLemmas.{block_sized}
use Rattle.array_run.proofs.run.read_block.Goals as goal

pub returns-clause-sized : goal.returns-clause-sized
returns-clause-sized c =
    let made : c.in_ok-start_block.field-0.items
    ≡ start_block c.args.program.now.header.spill c.args.program.now.areas c.in_ok-arrays.arrays = c.in_ok-start_block.ensures in
    ap length made ∙ block_sized c.args.program.now.header c.args.program.now.areas c.in_ok-arrays.arrays c.in_ok-arrays.ensures.whole

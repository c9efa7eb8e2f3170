use Rattle.std.proofs.Common.{◌≡◌, take}
use Rattle.array_run.specs.Ran.{printed_outputs}
use Rattle.array_run.proofs.outputs.print_outputs.Given as goal

abbrev pub invariant-loop-area : goal.invariant-loop-area
invariant-loop-area l = l.out.items ≡ printed_outputs l.spill (take l.area-index l.areas) l.block

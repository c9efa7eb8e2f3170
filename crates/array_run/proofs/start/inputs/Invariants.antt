use Rattle.std.proofs.Common.{◌≡◌, take}
use Rattle.array_run.specs.Starts.{inputs}
use Rattle.array_run.proofs.start.inputs.Given as goal

abbrev pub invariant-loop-area : goal.invariant-loop-area
invariant-loop-area l = l.declared.items ≡ inputs (take l.area-index l.areas)

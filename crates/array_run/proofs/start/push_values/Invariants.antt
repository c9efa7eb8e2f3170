use Rattle.std.proofs.Common.{◌≡◌, ◌++◌, take}
use Rattle.array_run.specs.Starts.{bytes_of}
use Rattle.array_run.proofs.start.push_values.Given as goal

abbrev pub invariant-loop-value : goal.invariant-loop-value
invariant-loop-value l = l.block.items ≡ l.initial.block.items ++ bytes_of (take l.value-index l.values)

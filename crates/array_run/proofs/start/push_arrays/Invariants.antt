use Rattle.std.proofs.Common.{◌≡◌, ◌++◌, take}
use Rattle.std.specs.List.{flat_map}
use Rattle.array_run.specs.Starts.{bytes_of}
use Rattle.array_run.proofs.start.push_arrays.Given as goal

abbrev pub invariant-loop-place : goal.invariant-loop-place
invariant-loop-place l = l.block.items ≡ l.initial.block.items ++ flat_map bytes_of (take l.place l.arrays)

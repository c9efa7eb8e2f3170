use Rattle.std.proofs.Common.{map, take}
use Rattle.loop_ir.specs.Pool.{tree}
use Rattle.psi_compile.specs.Assigned.{AreAssigned}
use Rattle.psi_compile.proofs.nests.homes_of.Given as goal

-- those of the nests so far
abbrev pub invariant-loop-nest : goal.invariant-loop-nest
invariant-loop-nest l = AreAssigned (map tree (take l.nest-index l.nests)) l.made.items

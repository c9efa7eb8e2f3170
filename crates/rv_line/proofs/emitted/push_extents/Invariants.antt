use Rattle.std.proofs.Common.{◌≡◌, ◌++◌, take}
use Rattle.rv_line.specs.Emitted.{extents_text}
use Rattle.rv_line.proofs.emitted.push_extents.Given as goal

abbrev pub invariant-loop-extent : goal.invariant-loop-extent
invariant-loop-extent l = l.out.items ≡ l.initial.out.items ++ extents_text (take l.extent-index l.extent-items)

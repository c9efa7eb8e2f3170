use Rattle.std.proofs.Common.{◌≡◌, ◌-◌, ◌+◌, length}
use Rattle.stride_form.specs.Small.{flag_at}
use Rattle.stride_form.proofs.flags.Flags.set.Given as goal

abbrev pub invariant-loop-self : goal.invariant-loop-self
invariant-loop-self l = flag_at l.self-inside.list.items ≡ flag_at l.initial.self-inside.list.items

abbrev pub decreases-loop-self : goal.decreases-loop-self
decreases-loop-self l = (1 + l.place) - length l.self-inside.list.items

use Rattle.std.proofs.Common.{◌≡◌, ◌-◌, ◌+◌, length}
use Rattle.std.specs.List.{AllByRecursion}
use Rattle.stride_form.specs.Small.{IsSmallFact, fact_at}
use Rattle.stride_form.proofs.table.Table.set.Given as goal

abbrev pub invariant-loop-self : goal.invariant-loop-self
invariant-loop-self l =
    (fact_at l.self-inside.list.items ≡ fact_at l.initial.self-inside.list.items) × AllByRecursion IsSmallFact l.self-inside.list.items

abbrev pub decreases-loop-self : goal.decreases-loop-self
decreases-loop-self l = (1 + l.place) - length l.self-inside.list.items

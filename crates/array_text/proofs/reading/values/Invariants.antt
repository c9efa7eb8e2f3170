use Rattle.std.proofs.Common.{◌-◌, [], length}
use Rattle.array_text.specs.Sources.{Fills, all}
use Rattle.array_text.proofs.reading.values.Given as goal

abbrev pub invariant-values : goal.invariant-values
invariant-values l = Fills l.count [] (all l.initial.source) l.values.items (all l.source)

abbrev pub decreases-values : goal.decreases-values
decreases-values l = l.count - length l.values.items

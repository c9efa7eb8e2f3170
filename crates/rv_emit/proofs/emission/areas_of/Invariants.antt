use Rattle.std.proofs.Common.{◌≡◌, take}
use Rattle.std.specs.List.{AllByRecursion}
use Rattle.rv_line.specs.Fits.{IsArea}
use Rattle.rv_emit.proofs.emission.areas_of.Given as goal

abbrev pub invariant-loop-area : goal.invariant-loop-area
invariant-loop-area l = (l.copies.items ≡ take l.area-index l.areas) × AllByRecursion IsArea l.copies.items

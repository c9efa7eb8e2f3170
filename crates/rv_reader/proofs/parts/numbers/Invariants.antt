use Rattle.std.proofs.Common.{◌≡◌, []}
use Rattle.rv_reader.specs.AreaRows.{numbers_of}
use Rattle.rv_reader.specs.Parts.{left_len, parts_left}
use Rattle.rv_reader.proofs.PartLemmas.{numbers_with}
use Rattle.rv_reader.proofs.parts.numbers.Given as goal

abbrev pub invariant-loop-left : goal.invariant-loop-left
invariant-loop-left l = numbers_with l.found.items (numbers_of (parts_left l.left)) ≡ numbers_with [] (numbers_of (parts_left l.row))

abbrev pub decreases-loop-left : goal.decreases-loop-left
decreases-loop-left l = left_len l.left

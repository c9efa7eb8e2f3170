use Rattle.std.proofs.Common.{◌≡◌, ◌+◌, drop}
use Rattle.std.specs.List.{position_or_len}
use Rattle.rv_reader.specs.Marks.{stops}
use Rattle.rv_reader.proofs.cuts.front_len.Given as goal

abbrev pub invariant-loop-place : goal.invariant-loop-place
invariant-loop-place l = l.place + position_or_len (stops l.mark) (drop l.place l.text) ≡ position_or_len (stops l.mark) l.text

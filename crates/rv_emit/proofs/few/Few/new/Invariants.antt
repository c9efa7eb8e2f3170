use Rattle.std.proofs.Common.{◌≡◌, take}
use Rattle.rv_emit.proofs.few.Few.new.Given as goal

abbrev pub invariant-loop-line : goal.invariant-loop-line
invariant-loop-line l = l.few ≡ take l.line-index l.lines

use Rattle.std.proofs.Common.{◌<◌, ℕ, ℤ, FitsSigned, get_or}
use Rattle.std.specs.Int.{w64}
use Rattle.array_text.proofs.printer.are_words.Given as goal

abbrev pub invariant-loop-value : goal.invariant-loop-value
invariant-loop-value l = (k : ℕ) (other : ℤ) → k < l.value-index → FitsSigned w64 (get_or l.values k other)

use Rattle.std.proofs.Common.{◌-◌, length}
use Rattle.text_tokens.specs.Tokens.{remaining_tokens}
use Rattle.array_text.specs.Lines.{lined}
use Rattle.array_text.specs.Sources.{Fills}
use Rattle.array_text.proofs.values.take_values.Given as goal

abbrev pub invariant-numbers : goal.invariant-numbers
invariant-numbers l =
    Fills l.count l.initial.values.items (lined (remaining_tokens l.initial.scanner)) l.values.items (lined (remaining_tokens l.scanner))

abbrev pub decreases-numbers : goal.decreases-numbers
decreases-numbers l = l.count - length l.values.items

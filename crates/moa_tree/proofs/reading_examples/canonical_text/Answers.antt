use Rattle.std.proofs.Common.{refl, arith}
use Rattle.std.proofs.lemmas.Fmt.{decimal_digit}
use Rattle.moa_tree.proofs.reading_examples.canonical_text.Goals as goal

pub returns : goal.returns
returns c =
    rw (decimal_digit 1 (omega arith)) (rw (decimal_digit 2 (omega arith)) (rw (decimal_digit 3 (omega arith)) (rw (decimal_digit 5 (omega arith)) refl)))

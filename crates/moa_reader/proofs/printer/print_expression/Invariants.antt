use Rattle.std.proofs.Common.{◌++◌, length, reverse}
use Rattle.moa_tree.specs.Canonical.{expr_lexemes}
use Rattle.moa_tree.specs.Pool.{tree_at, trees}
use Rattle.moa_reader.specs.Printed.{spaced}
use Rattle.moa_reader.proofs.StackLemmas.{IsPrinting, lexemes_at}
use Rattle.moa_reader.proofs.printer.print_expression.Given as goal

abbrev pub invariant-loop-number : goal.invariant-loop-number
invariant-loop-number l =
    let whole = l.fn.out.items ++ spaced (expr_lexemes (tree_at (trees l.program.numbers l.program.nodes) l.fn.node)) in
    IsPrinting l.program whole l.out.items l.waiting.items

abbrev pub decreases-loop-number : goal.decreases-loop-number
decreases-loop-number l = length (lexemes_at (trees l.program.numbers l.program.nodes) (reverse l.waiting.items))

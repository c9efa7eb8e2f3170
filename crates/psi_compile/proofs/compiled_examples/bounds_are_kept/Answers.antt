use Rattle.std.proofs.Common.{arith}
use Rattle.psi_compile.proofs.compiled_examples.bounds_are_kept.Goals as goal

pub returns-clause-greatest : goal.returns-clause-greatest
returns-clause-greatest c = λ made lines spill steps.
    record { lines = omega (arith, lines); most_lines = omega (arith, lines); spill = omega (arith, spill); steps = omega (arith, steps) }

pub returns-clause-most_lines : goal.returns-clause-most_lines
returns-clause-most_lines c = λ made lines spill steps.
    record { lines = omega (arith, lines); most_lines = omega (arith, lines); spill = omega (arith, spill); steps = omega (arith, steps) }

pub returns-clause-a_line_more : goal.returns-clause-a_line_more
returns-clause-a_line_more c = λ made lines bounded. omega (arith, lines, bounded.lines)

pub returns-clause-a_line_more_in_all : goal.returns-clause-a_line_more_in_all
returns-clause-a_line_more_in_all c = λ made size work lines bounded. omega (arith, lines, bounded.most_lines)

pub returns-clause-a_spill_word_more : goal.returns-clause-a_spill_word_more
returns-clause-a_spill_word_more c = λ made spill bounded. omega (arith, spill, bounded.spill)

pub returns-clause-a_step_more : goal.returns-clause-a_step_more
returns-clause-a_step_more c = λ made steps bounded. omega (arith, steps, bounded.steps)

use Rattle.array_text.proofs.ValueLemmas.{fills_on}
use Rattle.array_text.proofs.values.take_values.Goals as goal

pub numbers-preserved : goal.numbers-preserved
numbers-preserved c = fills_on _ _ _ _ _ _ _ c.numbers.invariant c.in_ok-take_value.ensures.fills

pub returns-then-not-branch-clause-fills : goal.returns-then-not-branch-clause-fills
returns-then-not-branch-clause-fills c = fills_on _ _ _ _ _ _ _ c.numbers.invariant c.in_ok-take_value.ensures.fills

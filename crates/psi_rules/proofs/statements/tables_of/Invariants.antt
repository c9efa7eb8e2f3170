use Rattle.shape_check.specs.Judged.{items_in}
use Rattle.psi_rules.specs.Rows.{IsFilled, counted}
use Rattle.psi_rules.proofs.statements.tables_of.Given as goal

abbrev pub invariant-loop-number : goal.invariant-loop-number
invariant-loop-number l = IsFilled (items_in l.checked.pools) l.number l.tables (counted l.next)

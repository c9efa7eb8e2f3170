use Rattle.std.proofs.Common.{◌≡◌, ◌++◌}
use Rattle.form_text.specs.NestSpelling.{margin}
use Rattle.form_text.proofs.rows.push_margin.Given as goal

abbrev pub invariant-loop : goal.invariant-loop
invariant-loop l = l.out.items ≡ l.initial.out.items ++ margin l.counter

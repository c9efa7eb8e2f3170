use Rattle.std.proofs.Common.{◌≡◌, ℕ, [], refl, ap, arith}
use Rattle.moa_tree.specs.Outcome.{Outcome}
use Rattle.psi_compile.proofs.compiled_examples.causes_are_told.Goals as goal

-- the column where a text is refused
abbrev column_of : Outcome → ℕ
column_of (Outcome.Read tree) = 0
column_of (Outcome.Refused at cause) = at.column

pub returns-clause-empty : goal.returns-clause-empty
returns-clause-empty c = (c.outcomes.ensures.refused [] _ 4).0 refl

pub returns-clause-other_cause : goal.returns-clause-other_cause
returns-clause-other_cause c = λ cause. let e = (c.outcomes.ensures.refused [] _ 5).1 cause in cc

pub returns-clause-other_place : goal.returns-clause-other_place
returns-clause-other_place c = λ cause.
    let column : 1 ≡ 2 = ap column_of ((c.outcomes.ensures.refused [] _ 4).1 cause) in omega (arith, column)

pub returns-clause-rule : goal.returns-clause-rule
returns-clause-rule c = λ at rule failing. c.never_both.ensures [] failing.tree _ 4 failing.read ((c.outcomes.ensures.refused [] _ 4).0 refl)

pub returns-clause-not_built : goal.returns-clause-not_built
returns-clause-not_built c = λ at not_built. c.never_both.ensures [] not_built.tree _ 4 not_built.read ((c.outcomes.ensures.refused [] _ 4).0 refl)

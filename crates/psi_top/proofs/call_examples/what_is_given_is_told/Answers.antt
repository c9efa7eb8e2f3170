use Rattle.std.proofs.Common.{inl, inr, refl, arith}
use Rattle.psi_top.proofs.call_examples.what_is_given_is_told.Goals as goal

pub returns-clause-most : goal.returns-clause-most
returns-clause-most c = refl

pub returns-clause-three : goal.returns-clause-three
returns-clause-three c = inl (omega arith)

pub returns-clause-two : goal.returns-clause-two
returns-clause-two c = λ given. elim given [ inl e ↦ omega (arith, e) | inr e ↦ omega (arith, e.0) ]

pub returns-clause-none : goal.returns-clause-none
returns-clause-none c = λ count. inr (refl, refl)

pub returns-clause-last : goal.returns-clause-last
returns-clause-last c = inl (omega arith)

pub returns-clause-none_and_one : goal.returns-clause-none_and_one
returns-clause-none_and_one c = λ given. elim given [ inl e ↦ omega (arith, e) | inr e ↦ omega (arith, e.1) ]

use Rattle.std.proofs.Common.{refl, arith}
use Rattle.psi_edges.specs.Calls.AreOffered.{more, none}
use Rattle.psi_edges.proofs.HeldLemmas.{none_offered}
use Rattle.psi_edges.proofs.examples.call_examples.Goals as goal

pub returns-clause-piece : goal.returns-clause-piece
returns-clause-piece c = record { room = 4096; enough = omega arith; taken = refl }

pub returns-clause-short_piece : goal.returns-clause-short_piece
returns-clause-short_piece c = λ asked. omega (arith, asked.enough, asked.taken)

pub returns-clause-left : goal.returns-clause-left
returns-clause-left c = record { room = 1; enough = omega arith; taken = refl }

pub returns-clause-less_than_left : goal.returns-clause-less_than_left
returns-clause-less_than_left c = λ asked. omega (arith, asked.enough, asked.taken)

pub returns-clause-rest : goal.returns-clause-rest
returns-clause-rest c = more {done = 0} {taken = 1} none refl

pub returns-clause-front : goal.returns-clause-front
returns-clause-front c = λ offered. let none_taken = none_offered _ _ _ _ _ (λ between now taken e. cc) offered in omega (arith, none_taken)

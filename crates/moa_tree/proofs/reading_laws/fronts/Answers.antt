use Rattle.moa_tree.proofs.BehindLemmas.{accepted, expr_begins, expr_wanted, is_front, wants_cause}
use Rattle.moa_tree.proofs.CauseLemmas.{cause_wanted}
use Rattle.moa_tree.proofs.WantedLemmas.{after_program, no_front}
use Rattle.moa_tree.proofs.reading_laws.fronts.Goals as goal

pub returns-clause-read : goal.returns-clause-read
returns-clause-read c = λ list. (λ e. accepted list e, λ text. after_program text.0 list text.1 text.2)

pub returns-clause-front : goal.returns-clause-front
returns-clause-front c = λ list. (λ front e. no_front list e front, λ free. is_front list free)

pub returns-clause-depth : goal.returns-clause-depth
returns-clause-depth c = λ depth list. (λ begins. expr_wanted depth list begins, λ wanted. expr_begins depth list wanted.0 wanted.1)

pub returns-clause-cause : goal.returns-clause-cause
returns-clause-cause c = λ front next cause begins wants. cause_wanted front next cause begins wants

pub returns-clause-wants : goal.returns-clause-wants
returns-clause-wants c = λ front next begins some. wants_cause front (λ e. no_front front e begins) some next

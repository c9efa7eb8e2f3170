use Rattle.array_text.specs.Outcome.{outcome_of}
use Rattle.array_text.proofs.EndLemmas.{given_no_refusal, given_same}
use Rattle.array_text.proofs.reading.read_arrays.Goals as goal

pub returns-clause-accepted : goal.returns-clause-accepted
returns-clause-accepted c = λ arrays accepted.
    given_same c.read_once.result (outcome_of c.args.declared.now c.args.text.now) arrays c.read_once.ensures.read
    ((c.grammar.ensures c.args.declared.now arrays c.args.text.now c.requires.differ).1 accepted)

pub returns-clause-never_refused : goal.returns-clause-never_refused
returns-clause-never_refused c = λ arrays line cause accepted.
    given_no_refusal c.read_once.result (outcome_of c.args.declared.now c.args.text.now) arrays line cause c.read_once.ensures.refused
    ((c.grammar.ensures c.args.declared.now arrays c.args.text.now c.requires.differ).1 accepted)

use Rattle.std.proofs.Common.{inl, inr}
use Rattle.array_text.specs.Outcome.{outcome_of}
use Rattle.array_text.proofs.EndLemmas.{never_both, same_arrays, same_refusal, text_ends}
use Rattle.array_text.proofs.laws.accepted_or_refused.Goals as goal

pub returns-clause-either : goal.returns-clause-either
returns-clause-either c = λ declared text differ.
    elim (text_ends declared text) [
      | inl accepted ↦ inl (accepted.0, (c.grammar.ensures declared accepted.0 text differ).0 accepted.1)
      | inr refused ↦ inr refused
    ]

pub returns-clause-not_both : goal.returns-clause-not_both
returns-clause-not_both c = λ declared arrays text line cause differ accepted refused.
    never_both (outcome_of declared text) arrays line cause ((c.grammar.ensures declared arrays text differ).1 accepted) refused

pub returns-clause-one : goal.returns-clause-one
returns-clause-one c = λ declared first second text differ one two.
    same_arrays (outcome_of declared text) first second ((c.grammar.ensures declared first text differ).1 one) ((c.grammar.ensures declared second text differ).1 two)

pub returns-clause-one_refusal : goal.returns-clause-one_refusal
returns-clause-one_refusal c = λ declared text line other cause why one two. same_refusal (outcome_of declared text) line other cause why one two

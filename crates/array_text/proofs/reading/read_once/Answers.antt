use Rattle.std.proofs.Common.{◌∙◌, sym}
use Rattle.std.proofs.lemmas.Result.{err_from_is_err_and}
use Rattle.array_text.specs.Outcome.{Outcome, Want, outcome_along, outcome_of}
use Rattle.array_text.specs.Sources.{all}
use Rattle.array_text.proofs.PassLemmas.{ends_accepted, ends_refused, explained, refused_next}
use Rattle.array_text.proofs.reading.read_once.Goals as goal

pub returns-in_err-begins_array-clause-refused : goal.returns-in_err-begins_array-clause-refused
returns-in_err-begins_array-clause-refused c =
    let p = err_from_is_err_and c.from_residual-in_err-begins_array.result c.from_residual-in_err-begins_array.ensures.1 in
    rw (p.1, p.2) (
    explained (outcome_of c.args.declared.now c.args.text.now) (outcome_along c.args.declared.now (Outcome.Goes c.arrays.slots Want.AnArray) (all c.arrays.source)) _
    c.arrays.invariant.passes
    (refused_next c.args.declared.now (Outcome.Goes c.arrays.slots Want.AnArray) c.arrays.source _ (c.in_err-begins_array.ensures.refused c.arrays.slots)))

pub returns-in-Some-clause-read : goal.returns-in-Some-clause-read
returns-in-Some-clause-read c =
    c.arrays.invariant.passes
    ∙ ends_accepted c.args.declared.now c.arrays.slots c.arrays.source c.in-Some.arrays
    (rw c.if-branch.false at c.in_ok-begins_array.ensures.begins) (sym c.all.ensures.value ∙ c.in-Some.is)

pub returns-clause-refused : goal.returns-clause-refused
returns-clause-refused c =
    explained (outcome_of c.args.declared.now c.args.text.now) (outcome_along c.args.declared.now (Outcome.Goes c.arrays.slots Want.AnArray) (all c.arrays.source)) c.refusal.result
    c.arrays.invariant.passes
    (ends_refused c.args.declared.now c.arrays.slots c.arrays.source c.refusal.result
    (rw c.if-branch.false at c.in_ok-begins_array.ensures.begins) (sym c.all.ensures.value ∙ c.in-None.is) c.refusal.ensures)

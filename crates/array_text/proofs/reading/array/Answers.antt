use Rattle.std.proofs.Common.{◌∙◌, [], Some}
use Rattle.std.proofs.lemmas.Result.{err_from_is_err_and}
use Rattle.array_text.specs.Outcome.{Outcome, Want, filled}
use Rattle.array_text.proofs.PassLemmas.{array_begun, begins_no_end, passed_refused}
use Rattle.array_text.proofs.reading.array.Goals as goal

pub advance-requires : goal.advance-requires
advance-requires c = begins_no_end c.args.source.now c.requires.begins

pub returns-in_err-name-clause-refused : goal.returns-in_err-name-clause-refused
returns-in_err-name-clause-refused c =
    let p = err_from_is_err_and c.from_residual.result c.from_residual.ensures.1 in
    rw (p.1, p.2) (
    passed_refused c.args.declared.now (Outcome.Goes c.args.slots.now Want.AnArray) (Outcome.Goes c.args.slots.now (Want.AName c.line-first.result))
    c.args.source.now c.advance.new.self _
    (array_begun c.args.declared.now c.args.slots.now c.args.source.now c.advance.new.self c.line-first.result c.requires.begins c.line-first.ensures c.advance.ensures)
    (c.in_err-name.ensures.refused c.args.declared.now c.args.slots.now))

pub returns-in_err-extents-clause-refused : goal.returns-in_err-extents-clause-refused
returns-in_err-extents-clause-refused c =
    let p = err_from_is_err_and c.from_residual-in_err-extents.result c.from_residual-in_err-extents.ensures.1 in
    rw (p.1, p.2) (
    passed_refused c.args.declared.now (Outcome.Goes c.args.slots.now Want.AnArray)
    (Outcome.Goes c.args.slots.now (Want.AnExtent c.line-first.result c.in_ok-name.name (Some [])))
    c.args.source.now c.name.new.source _
    (array_begun c.args.declared.now c.args.slots.now c.args.source.now c.advance.new.self c.line-first.result c.requires.begins c.line-first.ensures c.advance.ensures
    ∙ c.in_ok-name.ensures.passes c.args.declared.now c.args.slots.now)
    (c.in_err-extents.ensures.refused c.args.declared.now c.args.slots.now c.in_ok-name.name))

pub returns-in_err-list-clause-refused : goal.returns-in_err-list-clause-refused
returns-in_err-list-clause-refused c =
    let p = err_from_is_err_and c.from_residual-in_err-list.result c.from_residual-in_err-list.ensures.1 in
    rw (p.1, p.2) (
    passed_refused c.args.declared.now (Outcome.Goes c.args.slots.now Want.AnArray)
    (filled c.args.slots.now c.in_ok-place.place [] c.in_ok-place.count)
    c.args.source.now c.read_extents.new.source _
    (array_begun c.args.declared.now c.args.slots.now c.args.source.now c.advance.new.self c.line-first.result c.requires.begins c.line-first.ensures c.advance.ensures
    ∙ c.in_ok-name.ensures.passes c.args.declared.now c.args.slots.now
    ∙ c.in_ok-extents.ensures.passes c.args.declared.now c.args.slots.now c.in_ok-name.name
    ∙ c.in_ok-place.ensures.passes)
    (c.in_err-list.ensures.refused c.args.declared.now c.args.slots.now c.in_ok-place.place))

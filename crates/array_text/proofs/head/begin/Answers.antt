use Rattle.std.proofs.Common.{◌∙◌, ap}
use Rattle.array_text.specs.declared.error.DataError.{DataError}
use Rattle.array_text.specs.Outcome.{Outcome, Want, behind_head}
use Rattle.array_text.proofs.PassLemmas.{off_the_line, refused_next}
use Rattle.array_text.proofs.head.begin.Goals as goal

pub returns-in-Err-clause-refused : goal.returns-in-Err-clause-refused
returns-in-Err-clause-refused c =
    refused_next c.args.declared.now (Outcome.Goes c.args.slots.now (Want.AnExtent c.args.first c.args.name.now c.args.extents.now)) c.args.source.now
    (DataError.Text c.args.first c.in-Err.cause)
    (off_the_line c.args.declared.now c.args.slots.now c.args.first c.args.name.now c.args.extents.now c.args.source.now.token c.args.source.now.line c.requires.ends
    ∙ ap (λ head. behind_head c.args.slots.now head c.args.first c.args.source.now.token c.args.source.now.line) c.in-Err.ensures.head)

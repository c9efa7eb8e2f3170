use Rattle.std.specs.Prelude.{[], Some}
use Rattle.std.proofs.Common.{subst}
use Rattle.nest_jobs.specs.Outputs.{dues, form_of}
use Rattle.nest_jobs.proofs.ListLemmas.{each-at}
use Rattle.nest_jobs.proofs.OutputLemmas.{FormHas, form-due}
use Rattle.nest_jobs.proofs.StraightLemmas.{IsStraight, dues-straight}
use Rattle.nest_jobs.proofs.laws.plain_forms_are_straight.Goals as goal

pub returns : goal.returns
returns c = λ items number form plain e.
    let found = form-due [] items number (Some form) plain e in
    subst (FormHas IsStraight) found.2
    (each-at (λ due. FormHas IsStraight (form_of due)) (dues [] items) (dues-straight [] items plain) number found.0 found.1)

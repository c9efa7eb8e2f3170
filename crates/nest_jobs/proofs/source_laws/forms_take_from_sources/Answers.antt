use Rattle.std.specs.Prelude.{[], Some}
use Rattle.std.proofs.Common.{subst}
use Rattle.nest_jobs.specs.Outputs.{dues, form_of}
use Rattle.nest_jobs.proofs.ListLemmas.{each-at}
use Rattle.nest_jobs.proofs.OutputLemmas.{FormHas, form-due}
use Rattle.nest_jobs.proofs.SourceLemmas.{Passes, dues-pass}
use Rattle.nest_jobs.proofs.source_laws.forms_take_from_sources.Goals as goal

pub returns : goal.returns
returns c = λ op_test number_test items number form plain each zero_passes e.
    let found = form-due [] items number (Some form) plain e in
    let P = Passes op_test number_test zero_passes in
    subst (FormHas P) found.2
    (each-at (λ due. FormHas P (form_of due)) (dues [] items) (dues-pass op_test number_test zero_passes [] items plain each) number found.0
    found.1)

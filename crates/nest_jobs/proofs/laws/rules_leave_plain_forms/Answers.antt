use Rattle.nest_jobs.proofs.UnboundLemmas.{straight-stays}
use Rattle.nest_jobs.proofs.laws.rules_leave_plain_forms.Goals as goal

pub returns : goal.returns
returns c = λ items number form region plain made.
    straight-stays c.rules_are_about_bindings.ensures region form (c.plain_forms_are_straight.ensures items number form plain made)

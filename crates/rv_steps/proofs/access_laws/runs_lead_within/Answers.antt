use Rattle.rv_steps.proofs.AccessLemmas.{within-exact, within-later, within-line, within-longer, within-more, within-none}
use Rattle.rv_steps.proofs.access_laws.runs_lead_within.Goals as goal

pub returns : goal.returns
returns c = record { none = within-none; first = within-later; line = within-line; steps = within-more; exact = within-exact; more = within-longer }

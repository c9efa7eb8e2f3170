use Rattle.std.proofs.Common.{◌≡◌}
use Rattle.shape_check.specs.Judged.{items_in}
use Rattle.psi_top.specs.Shown.{shown_first}
use Rattle.psi_top.proofs.forms.forms_of.Given as goal

-- the jobs so far
abbrev pub invariant-loop-job : goal.invariant-loop-job
invariant-loop-job l = l.text.items ≡ shown_first l.kind (items_in l.checked.pools) l.job

use Rattle.std.specs.Prelude.{◌≡◌, slice_get, Some}
use Rattle.std.proofs.Common.{subst}
use Rattle.shape_check.specs.Judged.{items_in}
use Rattle.psi_rules.specs.Scopes.{names_at}
use Rattle.psi_rules.specs.Tables.{HasShapes}
use Rattle.psi_rules.proofs.JobNodeLemmas.{job-node}
use Rattle.psi_rules.proofs.NodeShapeLemmas.{statement-shaped, walk-shaped}
use Rattle.psi_rules.proofs.node_shapes.nodes_have_shapes.Goals as goal

pub returns-clause-statements : goal.returns-clause-statements
returns-clause-statements c = statement-shaped c.walks_in_order.ensures.step c.walks_in_order.ensures.each

pub returns-clause-jobs : goal.returns-clause-jobs
returns-clause-jobs c = λ checking program checked number job o there.
    let laws = c.walks_in_order.ensures in
    job-node checking.pools (λ number node. HasShapes checking (names_at (items_in checking.pools) number) node) laws.each program
    (walk-shaped laws.step laws.each checking program checked) number job o
    (subst (λ jobs. slice_get jobs number ≡ Some job) checked.jobs_in_order there)

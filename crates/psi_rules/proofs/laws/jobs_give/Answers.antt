use Rattle.std.specs.Prelude.{[]}
use Rattle.moa_tree.specs.ShapeOf.{shape_of}
use Rattle.moa_tree.specs.Values.{shapes_of}
use Rattle.psi_rules.specs.Areas.{store}
use Rattle.psi_rules.proofs.JobLemmas.{items-accepted, program-given}
use Rattle.psi_rules.proofs.laws.jobs_give.Goals as goal

pub returns : goal.returns
returns c = λ inputs items shapes accepted.
    program-given c.stored_values.ensures inputs items (c.operators_represent.ensures.stored (store inputs items))
    (λ names env agree scan expr held known.
    c.forms_represent.ensures (store inputs items) names env scan 0 expr (shape_of (shapes_of env) expr) agree held known)
    c.operands_move.ensures
    (items-accepted c.verdicts_are_shapes.ensures.lets c.verdicts_are_shapes.ensures.outputs
    c.lists_are_totals.ensures.after inputs [] items shapes accepted)

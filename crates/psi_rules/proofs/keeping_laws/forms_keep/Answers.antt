use Rattle.std.specs.Prelude.{[]}
use Rattle.std.proofs.Common.{refl, subst}
use Rattle.std.proofs.lemmas.List.Elements.{recursion_from_All}
use Rattle.shapes_core.specs.Shape.{IsShape}
use Rattle.shape_check.specs.Jobs.{jobs}
use Rattle.psi_rules.specs.Areas.{given}
use Rattle.psi_rules.specs.Jobs.{first, forms}
use Rattle.psi_rules.proofs.JobLemmas.{items-accepted}
use Rattle.psi_rules.proofs.KeepJobLemmas.{AreShapes, kept-at, program-kept, reached-first}
use Rattle.psi_rules.proofs.keeping_laws.forms_keep.Goals as goal

pub returns-clause-each : goal.returns-clause-each
returns-clause-each c = λ inputs items shapes accepted built.
    let known = c.verdicts_are_shapes.ensures in
    let start = first items in
    program-kept c.operators_keep.ensures.stored c.expressions_keep.ensures c.operands_move.ensures
    (λ shape. (c.span_laws.ensures.no_extent_0 shape).0) start inputs items [] [] [] start 0 refl
    (reached-first items start refl refl refl) (λ own free. tt)
    (items-accepted known.lets known.outputs c.lists_are_totals.ensures.after inputs [] items shapes accepted) built
    (subst AreShapes (known.after items shapes accepted)
    (recursion_from_All (λ entry. IsShape entry.1) shapes (known.each_within items shapes accepted)))
    (known.limits items shapes accepted).0

pub returns-clause-at : goal.returns-clause-at
returns-clause-at c = λ inputs items shapes number tree_job array form accepted built.
    λ listed here made. (kept-at (jobs items) (given inputs items) (forms items) number tree_job array form
    (returns-clause-each c inputs items shapes accepted built) listed here made).kept

pub returns-clause-varying : goal.returns-clause-varying
returns-clause-varying c = λ inputs items shapes number tree_job array form accepted built listed here made.
    (kept-at (jobs items) (given inputs items) (forms items) number tree_job array form
    (returns-clause-each c inputs items shapes accepted built) listed here made).varying

pub returns-clause-roomy : goal.returns-clause-roomy
returns-clause-roomy c = λ inputs items shapes number tree_job array form accepted built listed here made.
    (kept-at (jobs items) (given inputs items) (forms items) number tree_job array form
    (returns-clause-each c inputs items shapes accepted built) listed here made).roomy

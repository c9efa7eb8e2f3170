use Rattle.std.specs.Prelude.{◌*◌, []}
use Rattle.std.proofs.Common.{arith}
use Rattle.shape_check.specs.Costs.{size, work}
use Rattle.shape_check.specs.Layout.{areas, words}
use Rattle.shape_check.specs.Statements.{verdict_of}
use Rattle.psi_rules.specs.Areas.{given}
use Rattle.psi_rules.specs.Jobs.{forms}
use Rattle.nest_jobs.specs.Leads.{nests}
use Rattle.nest_jobs.specs.Sizes.{form_sizes, form_works}
use Rattle.psi_compile.proofs.NestHomeLemmas.{prices-low}
use Rattle.psi_compile.proofs.NestLemmas.{all-few, all-lines, all-spill, all-steps, lines-below, spill-below, steps-below}
use Rattle.psi_compile.proofs.NestProgramLemmas.{program-known, there}
use Rattle.psi_compile.proofs.nest_laws.nests_are_small.Goals as goal

pub returns-clause-size : goal.returns-clause-size
returns-clause-size c = λ text tree reads accepted.
    let found = there (verdict_of tree.statements) accepted in
    (c.verdicts_are_shapes.ensures.limits tree.statements found.0 found.1).0

pub returns-clause-work : goal.returns-clause-work
returns-clause-work c = λ text tree reads accepted.
    let found = there (verdict_of tree.statements) accepted in
    (c.verdicts_are_shapes.ensures.limits tree.statements found.0 found.1).1

pub returns-clause-lines : goal.returns-clause-lines
returns-clause-lines c = λ text tree homes reads accepted plain assigned.
    let items = tree.statements in
    let known = program-known (record {
      written = c.reads_again.ensures.writable;
      nested = c.nests_are_of_forms.ensures;
      limits = c.verdicts_are_shapes.ensures.limits;
      laid = c.areas_are_laid_out.ensures;
    }) text tree reads accepted plain in
    lines-below _ (form_sizes (forms items)) (size items)
    (all-lines (areas items) (words items) (prices-low c.constants_are_short.ensures.most c.constants_are_short.ensures.few) known.laid
    known.few c.nests_cost_little.ensures.lines (forms items) (given [] items) (nests items) homes known.nested assigned)
    (c.forms_are_small.ensures.sizes items plain) (omega (arith, c.outputs_have_size.ensures.size items plain known.output))

pub returns-clause-names : goal.returns-clause-names
returns-clause-names c = λ text tree reads accepted plain.
    let items = tree.statements in
    let known = program-known (record {
      written = c.reads_again.ensures.writable;
      nested = c.nests_are_of_forms.ensures;
      limits = c.verdicts_are_shapes.ensures.limits;
      laid = c.areas_are_laid_out.ensures;
    }) text tree reads accepted plain in
    let found = there (verdict_of items) accepted in
    let small = (c.verdicts_are_shapes.ensures.limits items found.0 found.1).0 in
    all-few c.nests_name_few.ensures (areas items) (forms items) (given [] items) (nests items) known.nested
    (omega (arith, c.forms_are_small.ensures.sizes items plain, small))

pub returns-clause-spill : goal.returns-clause-spill
returns-clause-spill c = λ text tree homes reads accepted plain assigned.
    let items = tree.statements in
    let known = program-known (record {
      written = c.reads_again.ensures.writable;
      nested = c.nests_are_of_forms.ensures;
      limits = c.verdicts_are_shapes.ensures.limits;
      laid = c.areas_are_laid_out.ensures;
    }) text tree reads accepted plain in
    all-spill c.nests_name_few.ensures (areas items) (forms items) (given [] items) (nests items) homes (8 * size items) known.nested
    assigned (omega (arith, c.outputs_have_size.ensures.size items plain known.output))
    (spill-below (form_sizes (forms items)) (size items) (c.forms_are_small.ensures.sizes items plain))

pub returns-clause-steps : goal.returns-clause-steps
returns-clause-steps c = λ text tree homes reads accepted plain assigned.
    let items = tree.statements in
    let known = program-known (record {
      written = c.reads_again.ensures.writable;
      nested = c.nests_are_of_forms.ensures;
      limits = c.verdicts_are_shapes.ensures.limits;
      laid = c.areas_are_laid_out.ensures;
    }) text tree reads accepted plain in
    steps-below _ (form_works (forms items) (given [] items)) (work items)
    (all-steps (areas items) (words items) (prices-low c.constants_are_short.ensures.most c.constants_are_short.ensures.few) known.laid
    known.few c.nests_cost_little.ensures.steps (forms items) (given [] items) (nests items) homes known.nested assigned)
    (c.forms_are_small.ensures.works [] items plain) (c.outputs_have_size.ensures.work items plain known.output)

use Rattle.std.specs.Prelude.{[]}
use Rattle.std.proofs.Common.{le_refl}
use Rattle.shape_check.specs.Layout.{areas}
use Rattle.psi_rules.specs.Areas.{given}
use Rattle.psi_rules.specs.Jobs.{forms}
use Rattle.nest_jobs.specs.Leads.{nests}
use Rattle.rv_emit.specs.Programs.{most_spill}
use Rattle.psi_compile.proofs.NestLemmas.{all-ready}
use Rattle.psi_compile.proofs.NestProgramLemmas.{program-nests, program-passes}
use Rattle.psi_compile.proofs.NestShapeLemmas.{CalmLaws}
use Rattle.psi_compile.proofs.nest_laws.nests_are_ready.Goals as goal

pub returns : goal.returns
returns c = λ text tree homes reads accepted plain assigned.
    let calm : CalmLaws = record {
      nothing = c.nests_need_nothing.ensures;
      counters = c.nests_keep_counters.ensures;
      fit = c.nests_set_what_fits.ensures;
    } in
    let items = tree.statements in
    all-ready calm (areas items) (forms items) (given [] items) (nests items) homes (most_spill homes)
    (program-nests c.reads_again.ensures.writable c.nests_are_of_forms.ensures text tree reads accepted plain)
    (program-passes c.reads_again.ensures.writable c.forms_take_from_sources.ensures text tree reads plain) assigned
    (le_refl (most_spill homes))

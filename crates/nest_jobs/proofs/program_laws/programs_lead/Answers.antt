use Rattle.nest_jobs.proofs.LeadLemmas.{MeaningLaws, program-leads}
use Rattle.nest_jobs.proofs.ProgramLemmas.{all-shapes}
use Rattle.nest_jobs.proofs.StepLemmas.{NestLaws}
use Rattle.nest_jobs.proofs.program_laws.programs_lead.Goals as goal

pub returns : goal.returns
returns c = λ inputs items shapes state accepted built plain sized held.
    let meant : MeaningLaws = record {
      same = c.meaning_is_kept.ensures.same;
      long = c.lists_are_totals.ensures.values;
      stored = c.stored_values.ensures;
    } in
    let nested : NestLaws = record {
      gives = c.nests_give.ensures.gives;
      inside = c.nests_give.ensures.inside;
      is_index = c.gamma_laws.ensures.is_index;
      of_ungamma = c.gamma_laws.ensures.of_ungamma;
      below = c.gamma_laws.ensures.below;
      rules = c.rules_are_about_bindings.ensures;
    } in
    program-leads meant c.block_laws.ensures inputs items nested plain
    (all-shapes items shapes (c.verdicts_are_shapes.ensures.after items shapes accepted)
    (c.verdicts_are_shapes.ensures.each_within items shapes accepted))
    (c.jobs_give.ensures inputs items shapes accepted)
    (λ number tree_job array form job at made.
    c.forms_are_buildable.ensures inputs items shapes number tree_job array form accepted built plain job at made)
    (c.areas_are_laid_out.ensures items) state sized held

use Rattle.nest_jobs.proofs.NestOfLemmas.{nests-of-forms}
use Rattle.nest_jobs.proofs.ProgramLemmas.{all-shapes}
use Rattle.nest_jobs.proofs.source_laws.nests_are_of_forms.Goals as goal

pub returns : goal.returns
returns c = λ inputs items shapes accepted built plain.
    nests-of-forms c.rules_are_about_bindings.ensures c.block_laws.ensures inputs items plain
    (all-shapes items shapes (c.verdicts_are_shapes.ensures.after items shapes accepted)
    (c.verdicts_are_shapes.ensures.each_within items shapes accepted))
    (λ number tree_job array form job at made.
    c.forms_are_buildable.ensures inputs items shapes number tree_job array form accepted built plain job at made)

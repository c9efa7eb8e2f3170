use Rattle.nest_jobs.proofs.ProgramLemmas.{form-buildable}
use Rattle.nest_jobs.proofs.laws.forms_are_buildable.Goals as goal

pub returns : goal.returns
returns c = λ inputs items shapes number tree_job array form accepted built plain job at made.
    form-buildable c.block_laws.ensures c.places_are_offsets.ensures.offset c.places_are_offsets.ensures.below
    (λ shape. (c.span_laws.ensures.no_extent_0 shape).0)
    inputs items shapes number tree_job array form plain
    (c.plain_forms_are_straight.ensures items number form plain made)
    (c.forms_keep.ensures.at inputs items shapes number tree_job array form accepted built job at made)
    (c.forms_load.ensures items number form made)
    (c.jobs_give.ensures inputs items shapes accepted)
    (c.verdicts_are_shapes.ensures.after items shapes accepted)
    (c.verdicts_are_shapes.ensures.each_within items shapes accepted)
    job at made

use Rattle.std.proofs.Common.{ap, sym, ◌∙◌}
use Rattle.form_text.specs.NestSpelling.{nest_lines}
use Rattle.loop_ir.specs.Pool.{tree}
use Rattle.psi_top.proofs.ShownLemmas.{nest-more}
use Rattle.psi_top.proofs.nests.push_nest.Goals as goal

pub returns : goal.returns
returns c = λ before.
    let checking = c.args.checked.now in
    let checked = c.program-program.ensures.checked in
    let job = c.job_at-job.result in
    let nest = c.nest_at-nest.result.now in
    let areas_are = c.layout_of.ensures ∙ checked.laid_out in
    let line = c.deref.ensures.value ∙ c.in_ok-lines.ensures ∙ ap (λ among. nest_lines among job (tree nest)) areas_are in
    c.in_ok-extend_from_slice.ensures.items
    ∙ rw (before, line) (sym (nest-more checking c.args.number job c.args.made.now nest checked c.job_at-job.ensures c.requires.nests c.nest_at-nest.ensures))

use Rattle.std.proofs.Common.{ap, sym, ◌∙◌}
use Rattle.normal_form.specs.Kept.{form_in}
use Rattle.psi_top.proofs.ShownLemmas.{line-more}
use Rattle.psi_top.specs.Shown.{spelled_as}
use Rattle.psi_top.proofs.forms.push_form.Goals as goal

pub line_of-requires : goal.line_of-requires
line_of-requires c = record { whole = c.in_ok-normal.ensures.reduced.whole }

pub returns : goal.returns
returns c = λ before.
    let checking = c.args.checked.now in
    let checked = c.program-program.ensures.checked in
    let normal = c.in_ok-normal.normal in
    let areas_are = c.layout_of.ensures ∙ checked.laid_out in
    let line = c.deref.ensures.value ∙ c.in_ok-line.ensures ∙ ap (λ among. spelled_as c.args.kind among normal.job normal.shape (form_in normal.terms)) areas_are in
    c.in_ok-extend_from_slice.ensures.items ∙ rw (before, line) (sym (line-more c.args.kind checking c.args.job normal checked c.in_ok-normal.ensures.reduced))

use Rattle.std.proofs.Common.{◌≡◌, ◌∙◌}
use Rattle.std.proofs.lemmas.Result.{IfOk-weaker}
use Rattle.normal_form.specs.Kept.{form_in}
use Rattle.stride_form.specs.Kept.{op_form_in}
use Rattle.form_text.specs.Spelling.{operational_line}
use Rattle.psi_top.proofs.ShownLemmas.{same-strided}
use Rattle.psi_top.specs.Shown.{strided_line}
use Rattle.psi_top.proofs.forms.strided_line.Goals as goal

pub returns : goal.returns
returns c =
    let normal = c.args.normal.now in
    let form = c.in_ok-operational.operational in
    let made = c.in_ok-operational.ensures in
    let among = c.args.layout.now in
    IfOk-weaker c.operational_text.result (λ line. line.items ≡ operational_line among form.job form.shape (op_form_in form.terms))
    (λ line. line.items ≡ strided_line among normal.job normal.shape (form_in normal.terms))
    (λ line e. e ∙ same-strided among normal form.job form.shape (op_form_in form.terms) made.job made.shape made.tree c.requires.whole)
    c.operational_text.ensures

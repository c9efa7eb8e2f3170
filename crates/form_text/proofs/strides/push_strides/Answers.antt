use Rattle.std.proofs.Common.{◌≡◌, OnOk, subst}
use Rattle.form_text.proofs.StrideLemmas.{strides_put}
use Rattle.form_text.proofs.strides.push_strides.Goals as goal

pub returns : goal.returns
returns c =
    subst (λ text. OnOk c.push_rest.result (c.push_rest.new.out.items ≡ text)) (strides_put c.args.out.now.items c.args.strides.now)
    c.push_rest.ensures

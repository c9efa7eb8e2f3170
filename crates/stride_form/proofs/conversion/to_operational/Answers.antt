use Rattle.std.specs.Prelude.{List, ℕ}
use Rattle.std.proofs.Common.{subst, sym}
use Rattle.moa_tree.specs.declared.tree.Job.{Job}
use Rattle.stride_form.specs.Kept.{IsOpForm}
use Rattle.stride_form.proofs.StartLemmas.{form-made}
use Rattle.stride_form.proofs.conversion.to_operational.Goals as goal

pub new-requires : goal.new-requires
new-requires c =
    let parts = c.args.normal.now in
    let terms = c.in_ok-terms.terms.items in
    let made = form-made parts terms c.empty.ensures.formed c.in_ok-terms.ensures.pool c.in_ok-terms.ensures.tree in
    subst (λ (job : Job). IsOpForm (record { job = job; shape = c.shape.result; region = c.region.result; terms = terms })) (sym c.job.ensures)
    (subst (λ (shape : List ℕ). IsOpForm (record { job = parts.job; shape = shape; region = c.region.result; terms = terms })) (sym c.shape.ensures)
    (subst (λ (region : List (ℕ × ℕ)). IsOpForm (record { job = parts.job; shape = parts.shape; region = region; terms = terms }))
    (sym c.region.ensures) made))

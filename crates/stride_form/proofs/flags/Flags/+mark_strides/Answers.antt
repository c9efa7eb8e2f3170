use Rattle.std.specs.Prelude.{◌==◌, ℕ, ℤ}
use Rattle.std.proofs.Common.{◌∙◌}
use Rattle.stride_form.specs.Small.{flag_at}
use Rattle.stride_form.proofs.TableLemmas.{all-marked, flagged-true}
use Rattle.stride_form.proofs.flags.Flags.+mark_strides.Goals as goal

pub returns : goal.returns
returns t c =
    all-marked (λ (var : ℕ) (step : ℕ × ℤ). var == step.0) c.in-Some.step.now c.in-Some.others.now c.args.strides.now (flag_at c.args.self.now)
    (flag_at c.set.new.self) (flag_at c.mark_strides.new.self) c.mark_strides.result c.in-Some.ensures.cases.0
    (c.in_ok-set.ensures ∙ flagged-true (flag_at c.args.self.now) c.in-Some.step.now.0) c.mark_strides.ensures

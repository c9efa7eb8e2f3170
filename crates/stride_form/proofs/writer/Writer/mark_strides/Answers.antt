use Rattle.std.specs.Prelude.{◌==◌, ℕ, ℤ}
use Rattle.std.specs.List.{list_any}
use Rattle.std.proofs.Common.{◌∙◌, ap}
use Rattle.std.proofs.lemmas.Result.{on_ok_weaker}
use Rattle.stride_form.specs.Small.{either, flag_at}
use Rattle.stride_form.specs.Writing.{Written}
use Rattle.stride_form.proofs.writer.Writer.mark_strides.Goals as goal

pub returns : goal.returns
returns c =
    on_ok_weaker c.mark_strides.result (λ e. record {
      flags = e ∙ ap (λ (w : Written). either (flag_at w.flags) (λ var. list_any (λ (step : ℕ × ℤ). var == step.0) c.args.strides.now)) c.self.view_is;
      facts = ap (λ (w : Written). w.facts) c.self.view_is;
      terms = ap (λ (w : Written). w.terms) c.self.view_is;
    }) c.mark_strides.ensures

use Rattle.std.proofs.lemmas.Result.{IfOk-weaker}
use Rattle.std.proofs.Common.{◌∙◌, ap}
use Rattle.stride_form.specs.Facts.{resolved}
use Rattle.stride_form.specs.Small.{fact_at}
use Rattle.stride_form.proofs.WriteLemmas.{index-written}
use Rattle.stride_form.proofs.writing.write_index.Goals as goal

pub returns : goal.returns
returns c =
    IfOk-weaker c.push.result _ _ (λ number push. index-written c.args.entry c.resolved-found.result c.args.writer.now c.mark.new.self c.push.new.self number
    (c.resolved-found.ensures ∙ ap (λ facts. resolved (fact_at facts) c.args.entry) c.table.ensures) c.in_ok-mark.ensures push) c.push.ensures

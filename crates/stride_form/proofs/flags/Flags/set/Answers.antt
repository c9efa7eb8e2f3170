use Rattle.std.proofs.Common.{◌<◌, ◌∙◌, length, ap, arith}
use Rattle.stride_form.specs.Small.{flag_at, flagged}
use Rattle.stride_form.proofs.TableLemmas.{longer-flags, set-flags}
use Rattle.stride_form.proofs.flags.Flags.set.Goals as goal

pub loop-self-preserved : goal.loop-self-preserved
loop-self-preserved c = ap flag_at c.in_ok-push.ensures.items ∙ longer-flags c.loop-self.self-inside.list.items ∙ c.loop-self.invariant

pub returns : goal.returns
returns c =
    let list = c.loop-self.self-inside.list.items in
    let within : c.args.var < length list = grind (arith, c.len.ensures, c.loop-self-test.false) in
    set-flags list c.args.var c.args.flag within ∙ ap (λ flags. flagged flags c.args.var c.args.flag) (c.loop-self.invariant ∙ ap flag_at c.self.view_is)

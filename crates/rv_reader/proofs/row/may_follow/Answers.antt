use Rattle.std.proofs.Common.{◌<◌, length, sym, ap, ◌∙◌, rules}
use Rattle.std.specs.declared.option.Option.TheVariants.{Some}
use Rattle.rv_reader.specs.AreaRows.{may_follow}
use Rattle.rv_reader.proofs.KindLemmas.{last_kind}
use Rattle.rv_reader.proofs.row.may_follow.Goals as goal

pub returns-in-In : goal.returns-in-In
returns-in-In c =
    let some : 0 < length c.args.areas.now = search rules in
    let last = last_kind c.args.areas.now c.index-areas-areas.result some ∙ ap (λ k. Some k) c.in-In.is in
    c.may_follow_input.ensures c.in-In.field-0 ∙ ap (λ k. may_follow k c.args.next.now) (sym last)

pub returns-in-Out : goal.returns-in-Out
returns-in-Out c =
    let some : 0 < length c.args.areas.now = search rules in
    let last = last_kind c.args.areas.now c.index-areas-areas.result some ∙ ap (λ k. Some k) c.in-Out.is in
    c.may_follow_output.ensures c.in-Out.field-0 ∙ ap (λ k. may_follow k c.args.next.now) (sym last)

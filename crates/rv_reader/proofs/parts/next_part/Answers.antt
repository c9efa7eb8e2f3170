use Rattle.std.proofs.Common.{◌<◌, length, drop, sym, ap, subst, ◌∙◌, arith, rules}
use Rattle.std.specs.Prelude.{◌==◌}
use Rattle.rv_reader.specs.Cuts.{since}
use Rattle.rv_reader.proofs.MarkLemmas.{behind_shorter}
use Rattle.rv_reader.proofs.parts.next_part.Goals as goal

pub returns-clause-shorter : goal.returns-clause-shorter
returns-clause-shorter c =
    let text = c.args.text.now in
    let here : 0 < length c.cut.result.1.now = search rules in
    let some : 0 < length (since (λ byte. byte == 32) text) = subst (λ t. 0 < length t) c.cut.ensures.behind here in
    let small : length c.behind_first.result.now < length text =
    subst (λ t. length t < length text) (sym (c.behind_first.ensures ∙ ap (drop 1) c.cut.ensures.behind)) (behind_shorter (λ byte. byte == 32) text some) in
    omega (arith, small)

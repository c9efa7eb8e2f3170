use Rattle.std.specs.Prelude.{◌==◌}
use Rattle.std.proofs.Common.{◌≡◌, ◌<◌, length, drop, ◌∷◌, sym, ap, subst, ◌∙◌, rules}
use Rattle.std.specs.Str.Lines.{lines, strip_carriage_return}
use Rattle.rv_reader.specs.Cuts.{since}
use Rattle.rv_reader.proofs.LineLemmas.{first_line, last_line, no_line}
use Rattle.rv_reader.proofs.MarkLemmas.{behind_shorter}
use Rattle.rv_reader.proofs.lines.split_line.Goals as goal

pub returns-then-is_empty-clause-split : goal.returns-then-is_empty-clause-split
returns-then-is_empty-clause-split c = no_line c.args.text.now (search rules)

pub returns-then-is_empty-2-clause-split : goal.returns-then-is_empty-2-clause-split
returns-then-is_empty-2-clause-split c =
    let text = c.args.text.now in
    let some : 0 < length text = search rules in
    let none : length c.cut.result.1.now ≡ 0 = search rules in
    last_line text some (sym (ap length c.cut.ensures.behind) ∙ none)
    ∙ ap (λ t. t ∷ lines (since (λ byte. byte == 10) text)) (sym c.cut.ensures.front)
    ∙ ap (λ t. c.cut.result.0.now ∷ lines t) (sym c.cut.ensures.behind)

pub returns-clause-split : goal.returns-clause-split
returns-clause-split c =
    let text = c.args.text.now in
    let here : 0 < length c.cut.result.1.now = search rules in
    let some : 0 < length (since (λ byte. byte == 10) text) = subst (λ t. 0 < length t) c.cut.ensures.behind here in
    first_line text some
    ∙ ap (λ t. strip_carriage_return t ∷ lines (drop 1 (since (λ byte. byte == 10) text))) (sym c.cut.ensures.front)
    ∙ ap (λ t. t ∷ lines (drop 1 (since (λ byte. byte == 10) text))) (sym c.without_return.ensures)
    ∙ ap (λ t. c.without_return.result.now ∷ lines (drop 1 t)) (sym c.cut.ensures.behind)
    ∙ ap (λ t. c.without_return.result.now ∷ lines t) (sym c.behind_first.ensures)

pub returns-clause-shorter : goal.returns-clause-shorter
returns-clause-shorter c =
    let text = c.args.text.now in
    let here : 0 < length c.cut.result.1.now = search rules in
    let some : 0 < length (since (λ byte. byte == 10) text) = subst (λ t. 0 < length t) c.cut.ensures.behind here in
    subst (λ t. length t < length text) (sym (c.behind_first.ensures ∙ ap (drop 1) c.cut.ensures.behind)) (behind_shorter (λ byte. byte == 10) text some)

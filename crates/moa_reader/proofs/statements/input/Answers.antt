use Rattle.std.proofs.Common.{◌-◌, ap, ◌∙◌, sym, length}
use Rattle.moa_reader.proofs.StatementLemmas.{input_read}
use Rattle.moa_reader.proofs.statements.input.Goals as goal

pub returns-clause-read : goal.returns-clause-read
returns-clause-read c =
    let list = c.list_from-extents.ensures.value in
    let start = ap (λ l. l.start) list in
    input_read c.pools_keep.ensures.numbers c.args.source.now c.name.new.source c.numbers.new.source c.args.builder.now c.numbers.new.builder c.statement.new.self
    c.in_ok-name.name c.list_from-extents.result c.at-at.result c.requires.open c.in_ok-name.ensures.taken c.in_ok-numbers.ensures.taken
    (start ∙ c.list-start.ensures.value)
    (ap (λ l. l.count) list ∙ ap (λ n. length c.numbers.new.builder.numbers - n) (sym start))
    c.at-at.ensures c.in_ok-statement.ensures.added

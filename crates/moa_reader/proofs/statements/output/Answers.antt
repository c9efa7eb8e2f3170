use Rattle.moa_reader.proofs.StatementLemmas.{out_read}
use Rattle.moa_reader.proofs.statements.output.Goals as goal

pub returns-clause-read : goal.returns-clause-read
returns-clause-read c =
    out_read c.args.source.now c.define.new.source c.args.builder.now c.define.new.builder c.statement.new.self c.in_ok-definition.definition.name
    c.in_ok-definition.definition.node c.in_ok-definition.definition.at c.requires.open c.in_ok-definition.ensures.read c.in_ok-definition.ensures.stands
    c.in_ok-statement.ensures.added

use Rattle.std.proofs.Common.{ap, ◌∙◌}
use Rattle.std.proofs.lemmas.Result.{err_from_is_err_and}
use Rattle.text_tokens.specs.Tokens.{start, tokens}
use Rattle.moa_tree.specs.Pools.{tree_of}
use Rattle.moa_reader.specs.Build.{no_pools}
use Rattle.moa_reader.specs.Sources.{placed}
use Rattle.moa_reader.proofs.StatementLemmas.{behind_version_refused, error_explains, program_read, text_stands}
use Rattle.moa_reader.proofs.reading.read_once.Goals as goal

pub returns-in_err-version_line-clause-refused : goal.returns-in_err-version_line-clause-refused
returns-in_err-version_line-clause-refused c =
    let p = err_from_is_err_and c.from_residual.result c.from_residual.ensures.1 in
    rw (p.1, p.2)
    (error_explains c.outcomes.ensures.refused c.args.text.now c.new-source.result c.in_err-version_line.field-0.0 (c.new-source.ensures.value ∙ ap (λ version. placed version (tokens start c.args.text.now)) c.version_of-version.ensures) c.in_err-version_line.ensures.refused)

pub returns-in_err-statements-clause-refused : goal.returns-in_err-statements-clause-refused
returns-in_err-statements-clause-refused c =
    let p = err_from_is_err_and c.from_residual-in_err-statements.result c.from_residual-in_err-statements.ensures.1 in
    rw (p.1, p.2)
    (error_explains c.outcomes.ensures.refused c.args.text.now c.new-source.result c.in_err-statements.field-0.0 (c.new-source.ensures.value ∙ ap (λ version. placed version (tokens start c.args.text.now)) c.version_of-version.ensures)
    (behind_version_refused c.new-source.result c.version_line.new.source c.in_err-statements.field-0.0 c.in_ok-version_line.ensures.read c.in_err-statements.ensures.refused))

pub finish-requires-clause-reads : goal.finish-requires-clause-reads
finish-requires-clause-reads c =
    c.reads_again.ensures.again c.args.text.now (tree_of c.statements.new.builder)
    (program_read c.outcomes.ensures.read c.args.text.now c.new-source.result c.version_line.new.source c.statements.new.source c.new-builder.result
    c.statements.new.builder (c.new-source.ensures.value ∙ ap (λ version. placed version (tokens start c.args.text.now)) c.version_of-version.ensures) c.in_ok-version_line.ensures.read (c.new-builder.ensures.value ∙ ap no_pools c.version_of-version.ensures) c.in_ok-statements.ensures.read
    c.in_ok-statements.ensures.ended)

pub returns-clause-read : goal.returns-clause-read
returns-clause-read c =
    rw c.finish.ensures
    (program_read c.outcomes.ensures.read c.args.text.now c.new-source.result c.version_line.new.source c.statements.new.source c.new-builder.result
    c.statements.new.builder (c.new-source.ensures.value ∙ ap (λ version. placed version (tokens start c.args.text.now)) c.version_of-version.ensures) c.in_ok-version_line.ensures.read (c.new-builder.ensures.value ∙ ap no_pools c.version_of-version.ensures) c.in_ok-statements.ensures.read
    c.in_ok-statements.ensures.ended)

pub returns-clause-placed : goal.returns-clause-placed
returns-clause-placed c =
    rw c.finish.ensures
    (text_stands c.args.text.now c.new-source.result c.version_line.new.source c.statements.new.source c.new-builder.result c.statements.new.builder
    (c.new-source.ensures.value ∙ ap (λ version. placed version (tokens start c.args.text.now)) c.version_of-version.ensures) c.in_ok-version_line.ensures.read (c.new-builder.ensures.value ∙ ap no_pools c.version_of-version.ensures) c.in_ok-statements.ensures.read c.in_ok-statements.ensures.ended)

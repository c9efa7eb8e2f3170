use Rattle.std.proofs.Common.{ap, sym, ◌∙◌}
use Rattle.std.proofs.lemmas.Result.{err_from_is_err_and}
use Rattle.moa_reader.specs.Statements.{declared_by}
use Rattle.moa_reader.proofs.StatementLemmas.{rest_refused, statement_read}
use Rattle.moa_reader.proofs.WantLemmas.{declaration_taken}
use Rattle.moa_reader.proofs.statements.statement.Goals as goal

pub returns-in_err-rest-clause-refused : goal.returns-in_err-rest-clause-refused
returns-in_err-rest-clause-refused c =
    let e = declaration_taken c.args.source.now.lexeme c.in-Some.what (ap declared_by (sym c.lexeme.ensures) ∙ sym c.declares.ensures ∙ c.in-Some.is) in
    let p = err_from_is_err_and c.from_residual.result c.from_residual.ensures.1 in
    rw (p.1, p.2)
    (rest_refused c.args.has_output c.in-Some.what c.args.source.now c.advance.new.self c.in_err-rest.field-0.0 e c.advance.ensures.value c.in_err-rest.ensures.refused)

pub returns-clause-read : goal.returns-clause-read
returns-clause-read c =
    let e = declaration_taken c.args.source.now.lexeme c.in-Some.what (ap declared_by (sym c.lexeme.ensures) ∙ sym c.declares.ensures ∙ c.in-Some.is) in
    rw c.sees_output.ensures
    (statement_read c.args.has_output c.in-Some.what c.args.source.now c.advance.new.self c.rest.new.source c.args.builder.now c.rest.new.builder e
    c.advance.ensures.value c.in_ok-rest.ensures.read)

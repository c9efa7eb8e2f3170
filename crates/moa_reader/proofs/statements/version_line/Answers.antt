use Rattle.std.proofs.Common.{◌≡◌, true, ap, rules}
use Rattle.std.proofs.lemmas.Result.{err_from_is_err_and}
use Rattle.moa_reader.specs.Statements.{is_psi}
use Rattle.moa_reader.proofs.StatementLemmas.{version_refused}
use Rattle.moa_reader.proofs.WantLemmas.{word_taken}
use Rattle.moa_reader.proofs.statements.version_line.Goals as goal

pub returns-in_err-version_number-clause-refused : goal.returns-in_err-version_number-clause-refused
returns-in_err-version_number-clause-refused c =
    let h : is_psi c.args.source.now.lexeme ≡ true = search (rules, ap is_psi c.lexeme.ensures) in
    let p = err_from_is_err_and c.from_residual.result c.from_residual.ensures.1 in
    rw (p.1, p.2)
    (version_refused c.args.source.now c.advance.new.self c.in_err-version_number.field-0.0 (word_taken c.args.source.now.lexeme h) c.advance.ensures.value
    c.in_err-version_number.ensures.refused)

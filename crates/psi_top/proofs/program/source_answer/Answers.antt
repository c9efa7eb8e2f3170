use Rattle.std.proofs.Common.{refl}
use Rattle.std.proofs.lemmas.Result.{err_from_is_err_and}
use Rattle.psi_compile.specs.declared.error.CompileError.TheVariants as error
use Rattle.psi_top.specs.Outcome.IsSourceOutcome.{made}
use Rattle.psi_top.specs.Outcome.IsDue.{no_memory}
use Rattle.psi_top.specs.Command.Asks.{source}
use Rattle.psi_top.proofs.DueLemmas.{due_source, due_unread_source}
use Rattle.psi_top.proofs.OutcomeLemmas.{reason_said}
use Rattle.psi_top.proofs.program.source_answer.Goals as goal

pub returns-in_err-source-clause-due : goal.returns-in_err-source-clause-due
returns-in_err-source-clause-due g c = λ words command.
    let p = err_from_is_err_and c.from_residual.result c.from_residual.ensures.1 in
    rw (p.1, p.2) (due_unread_source words _ _ _ _ command _ c.in_err-source.ensures.unread)

pub returns-in-Ok-clause-due : goal.returns-in-Ok-clause-due
returns-in-Ok-clause-due g c = λ words command.
    let is = rw c.deref.ensures.value at c.in-Ok.ensures.made in
    let read = c.in_ok-source.ensures.read in
    record { outcome = _; due = due_source words _ _ _ _ command c.in_ok-source.source.items read _ (made read.short is.read is.can); is_text = is.made; done = refl; no_line = refl }

pub returns-in-Err-Text-clause-due : goal.returns-in-Err-Text-clause-due
returns-in-Err-Text-clause-due g c = λ words command.
    let read = c.in_ok-source.ensures.read in
    let cause = rw c.deref.ensures.value at c.in-Err-Text.ensures.causes in
    let reason = rw c.in-Err-Text.field-0-is at cause in
    due_source words _ _ _ _ command c.in_ok-source.source.items read _
    (reason_said _ _ _ read.short (error.Text c.in-Err-Text.at c.in-Err-Text.cause) (λ e. cc) reason)

pub returns-in-Err-Rule-clause-due : goal.returns-in-Err-Rule-clause-due
returns-in-Err-Rule-clause-due g c = λ words command.
    let read = c.in_ok-source.ensures.read in
    let cause = rw c.deref.ensures.value at c.in-Err-Rule.ensures.causes in
    let reason = rw c.in-Err-Rule.field-0-is at cause in
    due_source words _ _ _ _ command c.in_ok-source.source.items read _
    (reason_said _ _ _ read.short (error.Rule c.in-Err-Rule.at c.in-Err-Rule.rule) (λ e. cc) reason)

pub returns-in-Err-Limit-clause-due : goal.returns-in-Err-Limit-clause-due
returns-in-Err-Limit-clause-due g c = λ words command.
    let read = c.in_ok-source.ensures.read in
    let cause = rw c.deref.ensures.value at c.in-Err-Limit.ensures.causes in
    let reason = rw c.in-Err-Limit.field-0-is at cause in
    due_source words _ _ _ _ command c.in_ok-source.source.items read _
    (reason_said _ _ _ read.short (error.Limit c.in-Err-Limit.at c.in-Err-Limit.which c.in-Err-Limit.value) (λ e. cc) reason)

pub returns-in-Err-NotBuilt-clause-due : goal.returns-in-Err-NotBuilt-clause-due
returns-in-Err-NotBuilt-clause-due g c = λ words command.
    let read = c.in_ok-source.ensures.read in
    let cause = rw c.deref.ensures.value at c.in-Err-NotBuilt.ensures.causes in
    let reason = rw c.in-Err-NotBuilt.field-0-is at cause in
    due_source words _ _ _ _ command c.in_ok-source.source.items read _
    (reason_said _ _ _ read.short (error.NotBuilt c.in-Err-NotBuilt.at) (λ e. cc) reason)

pub returns-clause-due : goal.returns-clause-due
returns-clause-due g c = λ words command. no_memory (source command)

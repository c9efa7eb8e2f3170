use Rattle.std.proofs.lemmas.Result.{err_from_is_err_and}
use Rattle.psi_top.proofs.DueLemmas.{due_answer, due_refusal, due_unread_arrays, due_unread_assembly}
use Rattle.psi_top.proofs.execute.run_of.Goals as goal

pub returns-in_err-text-clause-due : goal.returns-in_err-text-clause-due
returns-in_err-text-clause-due g c = λ words asked.
    let p = err_from_is_err_and c.from_residual.result c.from_residual.ensures.1 in
    rw (p.1, p.2) (due_unread_assembly words _ _ asked _ _ _ c.in_err-text.ensures.unread)

pub returns-in_err-program-clause-due : goal.returns-in_err-program-clause-due
returns-in_err-program-clause-due g c = λ words asked.
    let p = err_from_is_err_and c.from_residual-in_err-program.result c.from_residual-in_err-program.ensures.1 in
    let refused = rw c.deref.ensures.value at c.in_err-program.ensures.refused in
    rw (p.1, p.2) (due_refusal words _ _ asked _ _ _ _ c.in_ok-text.ensures.read refused)

pub returns-in_err-file-clause-due : goal.returns-in_err-file-clause-due
returns-in_err-file-clause-due g c = λ words asked.
    let p = err_from_is_err_and c.from_residual-in_err-file.result c.from_residual-in_err-file.ensures.1 in
    let runnable = rw c.deref.ensures.value at c.in_ok-program.ensures.runnable in
    rw (p.1, p.2) (due_unread_arrays words _ _ asked _ _ _ _ c.in_ok-text.ensures.read runnable _ c.in_err-file.ensures.unread)

pub returns-clause-due : goal.returns-clause-due
returns-clause-due g c = λ words asked.
    let runnable = rw c.deref.ensures.value at c.in_ok-program.ensures.runnable in
    let same = rw c.deref.ensures.value at c.in_ok-program.ensures.parts in
    let prints = rw c.deref-2.ensures.value at c.printed.ensures.prints in
    let refused = rw c.deref-2.ensures.value at c.printed.ensures.refused in
    due_answer words _ _ asked _ _ _ _ c.in_ok-text.ensures.read runnable c.printed.result c.in_ok-program.program _ same c.in_ok-file.ensures.read prints refused

use Rattle.psi_top.proofs.texts.checked.Goals as goal

pub returns-clause-read : goal.returns-clause-read
returns-clause-read c = rw c.in_ok-check.ensures.checked c.in_ok-program.ensures.read

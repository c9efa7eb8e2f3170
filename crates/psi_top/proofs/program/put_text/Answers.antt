use Rattle.psi_top.proofs.AnswerLemmas.{text_cut, text_put}
use Rattle.psi_top.proofs.program.put_text.Goals as goal

pub returns-in-Ok-clause-put : goal.returns-in-Ok-clause-put
returns-in-Ok-clause-put g c = λ outcome is_text status line.
    text_put outcome _ _ _ _ 0 is_text status line c.in-Ok.ensures.whole c.in-Ok.ensures.cause.same

pub returns-in-Err-clause-put : goal.returns-in-Err-clause-put
returns-in-Err-clause-put g c = λ outcome is_text status line.
    text_cut outcome _ _ _ _ _ _ is_text line (record { held = c.in-Err.ensures.part; rose = c.in-Err.ensures.cause.failed }) c.put_line.ensures.put

use Rattle.rv_emit.proofs.KindLemmas.{lines_are_free}
use Rattle.rv_emit.proofs.form_laws.lines_are_free.Goals as goal

pub returns : goal.returns
returns c =
    let fit = c.constants_fit.ensures in lines_are_free (record { fit = fit.fit; base = fit.base; free = fit.free })

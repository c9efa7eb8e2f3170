use Rattle.rv_emit.proofs.KindLemmas.{lines_fit}
use Rattle.rv_emit.proofs.form_laws.lines_fit.Goals as goal

pub returns : goal.returns
returns c =
    let fit = c.constants_fit.ensures in lines_fit (record { fit = fit.fit; base = fit.base; free = fit.free }) c.pieces_fit.ensures

use Rattle.std.proofs.Common.{sym, subst}
use Rattle.shape_check.specs.Uses.{IsCapped}
use Rattle.shape_check.specs.Judged.{IsFound}
use Rattle.shape_check.proofs.CountLemmas.{price_absent}
use Rattle.shape_check.proofs.uses.used.Goals as goal

pub returns-in-None : goal.returns-in-None
returns-in-None c = λ prices names.
    let e = price_absent prices c.args.name (subst (IsFound prices c.args.name) (sym c.in-None.ensures) (names c.args.name c.bytes-spelling.ensures.name)) in
    subst (λ p. IsCapped p.nodes p.work c.stored.result) (sym e) c.stored.ensures

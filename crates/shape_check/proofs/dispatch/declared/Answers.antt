use Rattle.std.proofs.Common.{Some, ◌∙◌, sym}
use Rattle.shape_check.specs.Judged.{IsFound}
use Rattle.shape_check.proofs.OperatedLemmas.{use-accepted}
use Rattle.shape_check.proofs.dispatch.declared.Goals as goal

pub returns-in-Some : goal.returns-in-Some
returns-in-Some c = λ prices names.
    let found : IsFound prices c.args.name (Some c.in-Some.known) =
    rw (sym c.find.ensures ∙ c.in-Some.is) at (names c.args.name c.bytes-bytes.ensures.name) in
    use-accepted prices c.args.name c.in-Some.known found.0 found.1 c.extents-extents.ensures.shape

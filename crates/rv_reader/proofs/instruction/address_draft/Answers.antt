use Rattle.std.proofs.Common.{sym, ap, ◌∙◌}
use Rattle.rv_reader.specs.BodyLines.{address_draft}
use Rattle.rv_reader.specs.Views.{addressed_line, listed}
use Rattle.rv_reader.proofs.RangeLemmas.{address_read}
use Rattle.rv_reader.proofs.instruction.address_draft.Goals as goal

pub returns-in-Two : goal.returns-in-Two
returns-in-Two c =
    c.with_address.ensures
    ∙ address_read c.args.form c.in-Two.one.now c.in-Two.two.now c.register.result c.address.result c.register.ensures c.address.ensures
    ∙ ap (λ operands. address_draft (addressed_line c.args.form) (listed operands)) (sym c.in-Two.is)

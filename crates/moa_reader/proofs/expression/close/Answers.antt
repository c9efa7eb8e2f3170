use Rattle.std.proofs.lemmas.Result.{IfErr-weaker}
use Rattle.moa_reader.proofs.expression.close.Goals as goal

pub returns-in-Parentheses-clause-refused : goal.returns-in-Parentheses-clause-refused
returns-in-Parentheses-clause-refused c =
    rw c.in-Parentheses.is
    (IfErr-weaker c.close_parentheses.result _ _
    (λ error refused first before frames read. refused first before c.args.builder.now frames read) c.close_parentheses.ensures.refused)

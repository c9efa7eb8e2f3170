use Rattle.std.proofs.Common.{◌∙◌, ◌<◌, ◌∷◌, ap, sym, arith}
use Rattle.normal_form.specs.Moves.{variable}
use Rattle.psi_rules.proofs.EntryLemmas.{range-step}
use Rattle.psi_rules.proofs.moves.+variables_from.Goals as goal

pub returns-clause-variables : goal.returns-clause-variables
returns-clause-variables t c =
    let more : c.args.var < c.args.axes = omega (arith, c.if-var-axes.false, c.requires.within) in
    c.in_front.ensures ∙ (ap (λ entry. entry ∷ c.variables_from.result) c.variable.ensures
    ∙ ap (λ others. variable c.args.var ∷ others) c.variables_from.ensures.variables ∙ sym (range-step variable c.args.var c.args.axes more))

use Rattle.std.specs.Prelude.{Ok}
use Rattle.std.proofs.Common.{ap, sym, subst, ◌∙◌}
use Rattle.moa_tree.specs.Values.{shapes_of, value}
use Rattle.normal_form.specs.Stands.{Represents}
use Rattle.psi_rules.specs.Rules.{form}
use Rattle.psi_rules.proofs.FormLemmas.{represented}
use Rattle.psi_rules.proofs.LawLemmas.{FormerLaws}
use Rattle.psi_rules.proofs.laws.forms_represent.Goals as goal

pub returns : goal.returns
returns c = λ store names env scan at expr shape agree held accepted.
    let formers : FormerLaws store = record {
      constant = c.operators_represent.ensures.constant store;
      numbers = c.operators_represent.ensures.numbers store;
      stored = c.operators_represent.ensures.stored store;
      one = c.operators_represent.ensures.one store;
      moved = c.operators_represent.ensures.moved store;
      two = c.operators_represent.ensures.two store;
      turns = c.turns_represent.ensures store;
      joins = c.joins_represent.ensures store;
      folds = c.folds_represent.ensures store;
      reshapes = c.reshapes_represent.ensures store;
    } in
    let same = c.verdicts_are_shapes.ensures.shape (shapes_of env) at expr shape accepted in
    let whole = c.verdicts_are_shapes.ensures.anywhere (shapes_of env) at 0 expr shape accepted ∙ ap (λ t. Ok t) same in
    subst (λ t. Represents store (form names scan expr) t (value env expr)) (sym same)
    (represented store formers names env agree (c.operands_move.ensures (shapes_of env)) scan expr held whole)

use Rattle.psi_rules.specs.Rules.{shapes_of}
use Rattle.psi_rules.proofs.KeepFormLemmas.{KeepLaws, kept}
use Rattle.psi_rules.proofs.keeping_laws.expressions_keep.Goals as goal

pub returns : goal.returns
returns c = λ names prices own room scan levels expr agree built spared accepted cost.
    let law : KeepLaws own = record {
      constant = c.operators_keep.ensures.constant own;
      numbers = c.operators_keep.ensures.numbers own;
      stored = c.operators_keep.ensures.stored own;
      one = c.operators_keep.ensures.one own;
      moved = c.operators_keep.ensures.moved own;
      two = c.operators_keep.ensures.two own;
      turns = c.turns_keep.ensures own;
      joins = c.joins_keep.ensures own;
      folds = c.folds_keep.ensures own;
      reshapes = c.reshapes_keep.ensures own;
    } in
    kept own law names prices agree (c.operands_move.ensures (shapes_of names)) (c.operands_stay_within.ensures (shapes_of names))
    levels room scan expr built spared accepted cost

use Rattle.std.proofs.Common.{◌∷◌, ap, subst, ◌∙◌}
use Rattle.text_tokens.specs.Tokens.{TakesBytes, following}
use Rattle.text_tokens.proofs.TokenLemmas.{following_more, shorter_by}
use Rattle.text_tokens.proofs.laws.tokens_are_given_in_order.Goals as goal

pub returns : goal.returns
returns c = record {
  token = λ old new given gives more. (
    gives.next ∙ ap (λ others. given ∷ others) (following_more given.0 new more),
    shorter_by given.0 old new more gives.takes,
  );
  end = λ old new given gives ended. (
    gives.next ∙ ap (λ token. given ∷ following token new) ended,
    gives.again ended,
    subst (λ token. TakesBytes token old new) ended gives.takes,
  );
}

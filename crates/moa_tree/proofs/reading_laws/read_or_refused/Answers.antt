use Rattle.std.proofs.Common.{◌≡◌, ◌⊎◌, inl, inr, refl, ℕ, List}
use Rattle.text_tokens.specs.declared.token.Position.{Position}
use Rattle.moa_tree.specs.Expr.{Tree}
use Rattle.moa_tree.specs.Outcome.{Outcome, outcome_of}
use Rattle.moa_tree.specs.Readings.{Reads}
use Rattle.moa_tree.specs.Refusals.{IsRefused}
use Rattle.moa_tree.proofs.reading_laws.read_or_refused.Goals as goal

pub returns : goal.returns
returns c = λ text. either text (outcome_of text) refl
  where
    either : (text : List ℕ) (outcome : Outcome) → outcome_of text ≡ outcome
        → ((tree : Tree) × Reads text tree) ⊎ ((position : Position) × (cause : ℕ) × IsRefused text position cause)
    either text (Outcome.Read tree) e = inl (tree, (c.outcomes.ensures.read text tree).0 e)
    either text (Outcome.Refused position cause) e = inr (position, cause, (c.outcomes.ensures.refused text position cause).0 e)

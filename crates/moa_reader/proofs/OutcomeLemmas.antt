-- What becomes of lexemes, by the first of them.
use Rattle.std.proofs.Common.{◌≡◌, ℕ, List, ◌∷◌, refl, ap, ◌∙◌}
use Rattle.std.specs.Prelude.{if◌then◌else◌}
use Rattle.std.specs.declared.option.Option.TheVariants.{Some}
use Rattle.text_tokens.specs.declared.token.Position.{Position}
use Rattle.moa_tree.specs.Expected.{Want, cause_of, next, stuck, wanted_depth}
use Rattle.moa_tree.specs.Expr.{Tree}
use Rattle.moa_tree.specs.Outcome.{Outcome, depth_refusal, is_stuck, refusal, refused_or}
use Rattle.moa_tree.specs.Vocabulary.{Lexeme}
use Rattle.moa_reader.specs.Outcomes.{cause_or, outcome_along}
use Rattle.moa_reader.specs.Sources.{Placed}

-- what is stuck is refused for what it is, or for what is wanted
pub refusal_stuck : (wants : List Want) (lexeme : Lexeme) → next wants lexeme ≡ stuck → refusal wants lexeme ≡ Some (cause_or lexeme (cause_of wants lexeme))
refusal_stuck wants Lexeme.Malformed e = refl
refusal_stuck wants Lexeme.OutOfRange e = refl
refusal_stuck wants Lexeme.LongWord e = refl
refusal_stuck wants lexeme e = ap (λ left. if is_stuck left then Some (cause_of wants lexeme) else depth_refusal (wanted_depth wants)) e

-- so these lexemes are
pub stuck_refused : (wants : List Want) (lexeme : Lexeme) (at : Position) (others : Placed) (wanted : ℕ)
    → next wants lexeme ≡ stuck → cause_of wants lexeme ≡ wanted
    → (tree : Tree) → outcome_along tree wants ((lexeme, at) ∷ others) ≡ Outcome.Refused at (cause_or lexeme wanted)
stuck_refused wants lexeme at others wanted e cause tree =
    ap (λ found. refused_or found at (outcome_along tree (next wants lexeme) others)) (refusal_stuck wants lexeme e)
    ∙ ap (λ why. Outcome.Refused at (cause_or lexeme why)) cause

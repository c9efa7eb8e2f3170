-- What becomes of a text, by one pass from the left over its tokens. This project's own.
use Rattle.std.specs.Prelude.{ℕ, suc, Bool, true, false, List, [], ◌∷◌, ◌==◌, if◌then◌else◌}
use Rattle.std.specs.declared.option.Option.{Option}
use Rattle.std.specs.declared.option.Option.TheVariants.{None, Some}
use Rattle.text_tokens.specs.declared.token.Position.{Position}
use Rattle.text_tokens.specs.declared.token.Token.{Token}
use Rattle.text_tokens.specs.Tokens.{start, tokens}
use Rattle.moa_tree.specs.Expected.{Want, at_start, cause_of, next, wanted_depth}
use Rattle.moa_tree.specs.Expr.{Tree}
use Rattle.moa_tree.specs.Readings.{deepest}
use Rattle.moa_tree.specs.Trees.{statements_in}
use Rattle.moa_tree.specs.Vocabulary.{Lexeme, lexeme_of, lexemes, version_of}

-- a text is read as this tree, or it is refused
pub data Outcome : Type 0 where
  Read : (tree : Tree) → Outcome
  Refused : (position : Position) (cause : ℕ) → Outcome

abbrev pub is_stuck : List Want → Bool
is_stuck (Want.Never ∷ []) = true
is_stuck _ = false

-- an expression that begins at this depth is refused where it stands too deep
abbrev pub depth_refusal : ℕ → Option ℕ
depth_refusal depth = if depth == suc deepest then Some 14 else None

-- the cause with which a lexeme is refused where these are wanted, if it is: it is none, or it gets stuck, or it stands too deep
abbrev pub refusal : List Want → Lexeme → Option ℕ
refusal wants Lexeme.Malformed = Some 1
refusal wants Lexeme.OutOfRange = Some 2
refusal wants Lexeme.LongWord = Some 3
refusal wants lexeme = if is_stuck (next wants lexeme) then Some (cause_of wants lexeme) else depth_refusal (wanted_depth wants)

-- refused at this position, or else this outcome
abbrev pub refused_or : Option ℕ → Position → Outcome → Outcome
refused_or None position outcome = outcome
refused_or (Some cause) position outcome = Outcome.Refused position cause

-- what becomes of these tokens, where these are wanted: the first of them that is refused, or else this tree
abbrev pub outcome_from : Tree → List Want → List (Token × Position) → Outcome
outcome_from tree wants [] = Outcome.Read tree
outcome_from tree wants (first ∷ others) =
    let lexeme = lexeme_of tree.version first.0 in
    refused_or (refusal wants lexeme) first.1 (outcome_from tree (next wants lexeme) others)

-- the program that is found in a text
abbrev pub tree_in : List ℕ → Tree
tree_in text = record { version = version_of text; statements = statements_in deepest (lexemes (version_of text) text) }

abbrev pub outcome_of : List ℕ → Outcome
outcome_of text = outcome_from (tree_in text) at_start (tokens start text)

-- What becomes of the lexemes that are left, where something is wanted of them, and what stands where among them. This project's own.
use Rattle.std.specs.Prelude.{◌≡◌, ℕ, Bool, List, [], ◌∷◌, ◌++◌, ⊤, if◌then◌else◌}
use Rattle.text_tokens.specs.declared.token.Position.{Position}
use Rattle.moa_tree.specs.Expected.{Want, next}
use Rattle.moa_tree.specs.Expr.{Tree}
use Rattle.moa_tree.specs.Outcome.{Outcome, refusal, refused_or}
use Rattle.moa_tree.specs.Positions.{begins_expression, is_statement_name}
use Rattle.moa_tree.specs.Refusals.{IsRefused}
use Rattle.moa_tree.specs.Vocabulary.{Lexeme}
use Rattle.moa_reader.specs.declared.error.ReadError.{ReadError}
use Rattle.moa_reader.specs.Sources.{Placed}

-- the first of these lexemes that is refused where these are wanted, or else this tree
abbrev pub outcome_along : Tree → List Want → Placed → Outcome
outcome_along tree wants [] = Outcome.Read tree
outcome_along tree wants (first ∷ others) =
    refused_or (refusal wants first.0) first.1 (outcome_along tree (next wants first.0) others)

-- where those of these lexemes stand that pass a test, which sees what is wanted before the lexeme
abbrev pub places_along : (List Want → Lexeme → Bool) → List Want → Placed → List Position
places_along test wants [] = []
places_along test wants (first ∷ others) =
    (if test wants first.0 then first.1 ∷ [] else []) ++ places_along test (next wants first.0) others

-- what becomes of some lexemes, and where expressions begin and the names of statements stand among them
pub record Course : Type 0 where
  pub outcome : Outcome
  pub expressions : List Position
  pub names : List Position

abbrev pub course_of : Tree → List Want → Placed → Course
course_of tree wants lexemes = record {
  outcome = outcome_along tree wants lexemes;
  expressions = places_along begins_expression wants lexemes;
  names = places_along is_statement_name wants lexemes;
}

-- the same where further expressions and names stand before it
abbrev pub course_behind : List Position → List Position → Course → Course
course_behind expressions names course = record {
  outcome = course.outcome;
  expressions = expressions ++ course.expressions;
  names = names ++ course.names;
}

-- What becomes of these lexemes, where these are wanted, becomes of those, where those are wanted; the expressions and the names between
-- stand at these positions.
abbrev pub Leads : List Position → List Position → List Want → Placed → List Want → Placed → Type 0
Leads expressions names wants old others new =
    (tree : Tree) → course_of tree wants old ≡ course_behind expressions names (course_of tree others new)

-- and none is between
abbrev pub Passes : List Want → Placed → List Want → Placed → Type 0
Passes wants old others new = (tree : Tree) → course_of tree wants old ≡ course_of tree others new

-- these lexemes are refused so, where these are wanted; want of memory refuses nothing
abbrev pub IsRefusedWith : List Want → Placed → ReadError → Type 0
IsRefusedWith wants lexemes (ReadError.Text at cause) = (tree : Tree) → outcome_along tree wants lexemes ≡ Outcome.Refused at cause
IsRefusedWith wants lexemes ReadError.Memory = ⊤

-- the cause for which a lexeme is refused where something else is wanted
abbrev pub cause_or : Lexeme → ℕ → ℕ
cause_or Lexeme.Malformed wanted = 1
cause_or Lexeme.OutOfRange wanted = 2
cause_or Lexeme.LongWord wanted = 3
cause_or lexeme wanted = wanted

-- the text is refused so; want of memory explains nothing
abbrev pub Explains : List ℕ → ReadError → Type 0
Explains text (ReadError.Text at cause) = IsRefused text at cause
Explains text ReadError.Memory = ⊤

-- How statements are read. This project's own.
use Rattle.std.specs.Prelude.{◌≡◌, ℕ, ◌≤◌, Bool, true, false, List, [], ◌∷◌, ◌++◌, length, map}
use Rattle.std.specs.declared.option.Option.{Option}
use Rattle.std.specs.declared.option.Option.TheVariants.{None, Some}
use Rattle.text_tokens.specs.declared.token.Sign.TheVariants as sign
use Rattle.moa_tree.specs.Expected.{Want, at_start, on_items}
use Rattle.moa_tree.specs.Expr.{Item, Tree}
use Rattle.moa_tree.specs.Outcome.{is_stuck}
use Rattle.moa_tree.specs.Pools.{Pools, tree_of, walk}
use Rattle.moa_tree.specs.Positions.{position_of, positions_at}
use Rattle.moa_tree.specs.Readings.{deepest}
use Rattle.moa_tree.specs.Trees.{statements_in}
use Rattle.moa_tree.specs.Vocabulary.{Lexeme}
use Rattle.moa_reader.specs.declared.words.Declaration.{Declaration}
use Rattle.moa_reader.specs.declared.words.Declaration.TheVariants as declaration
use Rattle.moa_reader.specs.Build.{IsOpen}
use Rattle.moa_reader.specs.Frames.{places_in}
use Rattle.moa_reader.specs.Outcomes.{Course, Leads, Passes, course_behind, course_of}
use Rattle.moa_reader.specs.Sources.{Ahead, all, left}
use Rattle.moa_reader.specs.Standing.{IsRead}

-- the word with which a statement begins, and what it declares
abbrev pub declared_by : Lexeme → Option Declaration
declared_by Lexeme.In = Some declaration.Input
declared_by Lexeme.Let = Some declaration.Name
declared_by Lexeme.Out = Some declaration.Output
declared_by _ = None

abbrev pub word_of : Declaration → Lexeme
word_of declaration.Input = Lexeme.In
word_of declaration.Name = Lexeme.Let
word_of declaration.Output = Lexeme.Out

-- whether an output was seen, behind such a statement
abbrev pub seen_behind : Declaration → Bool → Bool
seen_behind declaration.Output seen = true
seen_behind _ seen = seen

abbrev pub is_psi : Lexeme → Bool
is_psi Lexeme.Psi = true
is_psi _ = false

-- what lexemes tell, behind what the pools have: the positions of their nodes in prefix order, and those of their statements
abbrev pub course_from : Pools → Course → Course
course_from pools course = course_behind (positions_at pools.positions (walk pools)) (map position_of pools.statements) course

-- a program with further statements at its end
abbrev pub followed_by : Tree → List Item → Tree
followed_by tree items = record tree { statements = tree.statements ++ items }

-- the version is passed over
pub record ReadsVersion (old new : Ahead) : Type 0 where
  pub passes : Passes at_start (all old) (Want.Items false ∷ []) (all new)
  pub statements : (levels : ℕ) → statements_in levels (left old) ≡ statements_in levels (left new)

-- a name, `=` and an expression are passed over
pub record ReadsDefinition (old : Ahead) (before : Pools) (name : List ℕ) (number : ℕ) (new : Ahead) (behind : Pools) : Type 0 where
  pub middle : Ahead
  pub front : left old ≡ Lexeme.Name name ∷ Lexeme.Sign sign.Equal ∷ left middle
  pub read : IsRead middle before [] number new behind
  pub passes : (wants : List Want) → is_stuck wants ≡ false
      → Leads (places_in behind number) (old.at ∷ []) (Want.AName ∷ Want.AnEqual ∷ Want.AnExpr 1 ∷ wants) (all old) wants (all new)
  pub fewer : length new.behind ≤ length old.behind

-- a statement is passed over behind its first word, and added
pub record ReadsRest (what : Declaration) (old : Ahead) (before : Pools) (new : Ahead) (behind : Pools) : Type 0 where
  pub passes : (seen : Bool) (any : Tree)
      → course_from before (course_of any (on_items seen [] (word_of what)) (all old)) ≡ course_from behind (course_of any (Want.Items (seen_behind what seen) ∷ []) (all new))
  pub tree : followed_by (tree_of before) (statements_in deepest (word_of what ∷ left old)) ≡ followed_by (tree_of behind) (statements_in deepest (left new))
  pub made : IsOpen [] [] behind
  pub fewer : length new.behind ≤ length old.behind

-- statements are passed over, and added; whether an output was seen before them and behind them
pub record ReadsStatements (seen : Bool) (old : Ahead) (before : Pools) (later : Bool) (new : Ahead) (behind : Pools) : Type 0 where
  pub passes : (any : Tree) → course_from before (course_of any (Want.Items seen ∷ []) (all old)) ≡ course_from behind (course_of any (Want.Items later ∷ []) (all new))
  pub tree : followed_by (tree_of before) (statements_in deepest (left old)) ≡ followed_by (tree_of behind) (statements_in deepest (left new))
  pub made : IsOpen [] [] behind

-- Numbers that are read into the pool. This project's own.
use Rattle.std.specs.Prelude.{◌≡◌, ℕ, ℤ, ◌+◌, ◌≤◌, false, List, ◌∷◌, length}
use Rattle.std.specs.declared.option.Option.TheVariants.{None, Some}
use Rattle.text_tokens.specs.declared.token.Position.{Position}
use Rattle.moa_tree.specs.Expected.{Want}
use Rattle.moa_tree.specs.Outcome.{is_stuck}
use Rattle.moa_tree.specs.declared.tree.Numbers.{Numbers}
use Rattle.moa_tree.specs.Pool.{list_at}
use Rattle.moa_tree.specs.Pools.{Pools}
use Rattle.moa_tree.specs.Trees.{extents_at, listed_at as find_list, statements_in}
use Rattle.moa_tree.specs.Vocabulary.{Lexeme}
use Rattle.moa_reader.specs.Build.{with_numbers}
use Rattle.moa_reader.specs.Lexemes.{number_in}
use Rattle.moa_reader.specs.Outcomes.{Passes}
use Rattle.moa_reader.specs.Sources.{Ahead, Placed, all, left}

-- these are wanted behind a number too
abbrev pub StayAtNumbers : List Want → Type 0
StayAtNumbers wants = (value : ℤ) (at : Position) (others : Placed) → Passes wants ((Lexeme.Number value, at) ∷ others) wants others

-- all numbers that come next are passed over and added
pub record TakesNumbers (old : Ahead) (before : Pools) (new : Ahead) (behind : Pools) : Type 0 where
  pub added : behind ≡ with_numbers before (extents_at (left old)).0
  pub follow : (extents_at (left old)).1 ≡ left new
  pub ended : number_in new.lexeme ≡ None
  pub passes : (wants : List Want) → StayAtNumbers wants → Passes wants (all old) wants (all new)
  pub statements : (levels : ℕ) → statements_in levels (left old) ≡ statements_in levels (left new)
  pub fewer : length new.behind ≤ length old.behind

-- a list is passed over, and its numbers are added
pub record TakesList (old : Ahead) (before : Pools) (list : Numbers) (new : Ahead) (behind : Pools) : Type 0 where
  pub found : find_list (left old) ≡ Some (list_at behind.numbers list, left new)
  pub added : behind ≡ with_numbers before (list_at behind.numbers list)
  pub start : list.start ≡ length before.numbers
  pub end : list.start + list.count ≡ length behind.numbers
  pub passes : (wants : List Want) → is_stuck wants ≡ false → Passes (Want.AList ∷ wants) (all old) wants (all new)
  pub statements : (levels : ℕ) → statements_in levels (left old) ≡ statements_in levels (left new)
  pub fewer : length new.behind ≤ length old.behind

-- The files that a shelf tells, and the bytes of one that a call gives. This project's own.
use Rattle.std.specs.Prelude.{ℕ, ◌-◌, ◌≡◌, ◌≤◌, ◌↔◌, ◌++◌, List, length, take, drop, Option, Some, None, IsSomeAnd}
use Rattle.std.specs.Ordering.{nat_cmp}
use Rattle.std.specs.Cmp.Lexicographic.{slice_cmp}
use Rattle.std.specs.FinMap.{FinMap, get}

-- the files of a shelf: from the bytes of a name to the bytes of its file
abbrev pub Files : Type 0
Files = FinMap (slice_cmp nat_cmp) (List ℕ)

-- what holds of the file of this name, where a shelf tells its files: it is there, and this is true of it
abbrev pub OnFile : Option Files → List ℕ → (List ℕ → Type 0) → Type 0
OnFile None name P = Unit {0}
OnFile (Some files) name P = IsSomeAnd (get files name) P

-- the bytes that follow `before` in the file, `count` of them, make it `after`. There are none exactly at the file's end
pub record IsNext (file before : List ℕ) (count : ℕ) (after : List ℕ) : Type 0 where
  pub appended : after ≡ before ++ take count (drop (length before) file)
  pub within : count ≤ length file - length before
  pub ended : (count ≡ 0) ↔ (length file ≤ length before)

-- the shelf tells its files, and the one of this name holds these bytes
abbrev pub TellsFile : Option Files → List ℕ → List ℕ → Type 0
TellsFile told name file = IsSomeAnd told (λ files. get files name ≡ Some file)

-- the shelf tells its files, and has none of this name
abbrev pub LacksFile : Option Files → List ℕ → Type 0
LacksFile told name = IsSomeAnd told (λ files. get files name ≡ None)

-- the first `count` places hold the file's bytes from `at` on, and there are none exactly at the file's end
pub record Gives (file : List ℕ) (at count : ℕ) (into : List ℕ) : Type 0 where
  pub bytes : take count into ≡ take count (drop at file)
  pub within : count ≤ length file - at
  pub ended : (count ≡ 0) ↔ (length file ≤ at)

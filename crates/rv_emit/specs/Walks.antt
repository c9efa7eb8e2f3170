-- Walks that are not made yet: how many words the number in a home is behind that of its place. This project's own.
use Rattle.std.specs.Prelude.{◌==◌, Bool, false, ℤ, pos, ◌+ℤ◌, ◌*ℤ◌, List, [], ◌∷◌, if◌then◌else◌}
use Rattle.std.specs.Int.{int_wrap, w64}
use Rattle.register_map.specs.declared.home.Home.{Home}
use Rattle.register_map.specs.declared.home.Home.TheVariants as home

abbrev pub is_home : Home → Home → Bool
is_home (home.Register number) (home.Register other) = number == other
is_home (home.Spill word) (home.Spill other) = word == other
is_home _ _ = false

-- what homes owe, in words; a home that stands more than once owes the sum, which wraps at 64 bits as addresses do
abbrev pub Owed : Type 0
Owed = List (Home × ℤ)

abbrev pub owed_at : Owed → Home → ℤ
owed_at [] home = pos 0
owed_at (first ∷ others) home = if is_home first.0 home then int_wrap w64 (first.1 +ℤ owed_at others home) else owed_at others home

-- a home that is set owes nothing
abbrev pub without : Owed → Home → Owed
without [] home = []
without (first ∷ others) home = if is_home first.0 home then without others home else first ∷ without others home

-- a home that walks on by some words
abbrev pub with_walk : Owed → Home → ℤ → Owed
with_walk [] home words = (home, words) ∷ []
with_walk (first ∷ others) home words =
    if is_home first.0 home then (first.0, int_wrap w64 (first.1 +ℤ words)) ∷ others
    else first ∷ with_walk others home words

-- the bytes of so many words, as a signed number of 64 bits that wraps
abbrev pub bytes : ℤ → ℤ
bytes words = int_wrap w64 (pos 8 *ℤ words)

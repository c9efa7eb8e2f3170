-- Configurations that show states: where homes hold what is needed, and the block the words of all areas. This project's own.
use Rattle.std.specs.Prelude.{◌≡◌, ℕ, ◌+◌, ◌*◌, ◌%◌, ◌^◌, ◌<◌, ◌≤◌, Bool, true, not, ◌&&◌, ◌==◌, ℤ, pos, ◌+ℤ◌, ◌-ℤ◌, ◌*ℤ◌, All}
use Rattle.std.specs.Prelude.{List, length, map, filter, reverse, Some, unsigned_abs}
use Rattle.std.specs.List.{AllByRecursion}
use Rattle.std.specs.Int.{w64}
use Rattle.shapes_core.specs.Limits.{most_words}
use Rattle.loop_ir.specs.Needed.{Keys}
use Rattle.loop_ir.specs.Running.{Access as Touch, Key, Pointer, ReadsWord, Register, State, WritesWord}
use Rattle.register_map.specs.declared.home.Home.{Home}
use Rattle.register_map.specs.declared.home.Home.TheVariants as home
use Rattle.register_map.specs.Homes.{IsHome, home_of}
use Rattle.rv_steps.specs.Good.{is_within, values_at}
use Rattle.rv_steps.specs.Machine.{Access, Config, Loads, NoAccess, Stores, register_at, value_at}
use Rattle.rv_steps.specs.Wrapped.{wrapped}
use Rattle.rv_emit.specs.Emitting.{Plan}
use Rattle.rv_emit.specs.Walks.{Owed, owed_at}

-- ---- where lines run

-- an address of words, with room for so many spill words and words of areas
pub record HasRoom (base spill words : ℕ) : Type 0 where
  pub aligned : base % 8 ≡ 0
  pub within : base + 8 * (spill + words) ≤ 2 ^ 64
  pub few : spill ≤ most_words

-- each home lies where homes may
abbrev pub HomesLie : Plan → Type 0
HomesLie plan = (key : Key) (home : Home) → home_of plan.homes key ≡ Some home → IsHome plan.spill home

-- room for a block at this address, and homes that are there
pub record IsSetting (plan : Plan) (base words : ℕ) : Type 0 where
  pub room : HasRoom base plan.spill words
  pub homes : HomesLie plan

-- 32 registers, and a block of bytes of that size, whose address x10 holds
pub record HasBlock (base spill words : ℕ) (c : Config) : Type 0 where
  pub count : length c.registers ≡ 32
  pub bytes : All (λ byte. byte < 256) c.block
  pub sized : length c.block ≡ 8 * (spill + words)
  pub block_at : register_at c.registers 10 ≡ base

-- homes that owe are there
abbrev pub AreHomes : ℕ → Owed → Type 0
AreHomes spill owed = AllByRecursion (λ entry. IsHome spill entry.0) owed

-- ---- what a configuration shows

-- what a home holds
abbrev pub held_in : Config → Home → ℕ
held_in c (home.Register number) = register_at c.registers number
held_in c (home.Spill word) = value_at w64 c.block (8 * word)

-- what the home of a key must hold: the word of a register's number; and of a place's word the address, less what the home owes
abbrev pub shown : Plan → ℕ → Owed → State → Key → Home → ℕ
shown plan base owed state (Register number) home = wrapped (state.held (Register number))
shown plan base owed state (Pointer number) home =
    wrapped (pos base +ℤ pos 8 *ℤ (pos plan.spill +ℤ (state.held (Pointer number) -ℤ owed_at owed home)))

-- a configuration shows these keys of a state, and all its words; a register's home owes nothing
pub record Shows (plan : Plan) (base : ℕ) (owed : Owed) (keys : Keys) (state : State) (c : Config) : Type 0 where
  pub block : HasBlock base plan.spill (length state.words) c
  pub words : values_at c.block plan.spill (length state.words) ≡ state.words
  pub held : (key : Key) (home : Home) → keys key ≡ true → home_of plan.homes key ≡ Some home
      → held_in c home ≡ shown plan base owed state key home
  pub clear : (number : ℕ) (home : Home) → keys (Register number) ≡ true → home_of plan.homes (Register number) ≡ Some home
      → owed_at owed home ≡ pos 0

-- ---- loads and stores

-- of a whole word among the spill words
abbrev pub is_whole : ℕ → ℕ → ℕ → ℕ → Bool
is_whole base spill at size = at % 8 == 0 && (size == 8 && is_within base 0 spill at size)

abbrev pub is_spill : ℕ → ℕ → Access → Bool
is_spill base spill NoAccess = true
is_spill base spill (Loads at size) = is_whole base spill at size
is_spill base spill (Stores at size) = is_whole base spill at size

-- the load or store of an access of a nest
abbrev pub access_of : ℕ → ℕ → Touch → Access
access_of base spill (ReadsWord area word) = Loads (base + 8 * (spill + unsigned_abs word)) 8
access_of base spill (WritesWord area word) = Stores (base + 8 * (spill + unsigned_abs word)) 8

-- besides those of spill words, the loads and stores are in order the accesses of a nest, of which the last one stands first
abbrev pub AreInOrder : ℕ → ℕ → List Access → List Touch → Type 0
AreInOrder base spill accesses touches =
    filter (λ access. not (is_spill base spill access)) accesses ≡ map (access_of base spill) (reverse touches)

-- an access is of one of so many words
pub record IsWord (words : ℕ) (word : ℤ) : Type 0 where
  pub place : ℕ
  pub same : word ≡ pos place
  pub within : place < words

abbrev pub IsTouch : ℕ → Touch → Type 0
IsTouch words (ReadsWord area word) = IsWord words word
IsTouch words (WritesWord area word) = IsWord words word

abbrev pub AreTouches : ℕ → State → Type 0
AreTouches words state = AllByRecursion (IsTouch words) state.trace

-- What lines between homes and registers change, and that they do. This project's own.
use Rattle.std.specs.Prelude.{◌≡◌, ◌≢◌, ℕ, ◌+◌, ◌^◌, ◌<◌, ◌≤◌, ℤ, pos, ◌+ℤ◌, ◌*ℤ◌, List, [], ◌∷◌, length}
use Rattle.register_map.specs.declared.home.Home.{Home}
use Rattle.register_map.specs.Homes.{IsHome}
use Rattle.rv_line.specs.declared.line.Line.{Line}
use Rattle.rv_steps.specs.Accesses.{Leads}
use Rattle.rv_steps.specs.Good.{values_at}
use Rattle.rv_steps.specs.Machine.{Access, Config, address_of, register_at}
use Rattle.rv_steps.specs.Pieces.{StandsAt}
use Rattle.rv_steps.specs.Registers.{AgreeBut}
use Rattle.rv_steps.specs.Wrapped.{wrapped}
use Rattle.rv_emit.specs.Moving.{fetch_lines, put_lines, register_of, repay_lines}
use Rattle.rv_emit.specs.Showing.{AreInOrder, HasBlock, HasRoom, held_in}

-- a run through a piece, each line once, which loads and stores spill words alone
pub record Runs (lines : List Line) (base spill at : ℕ) (piece : List Line) (c : Config) : Type 0 where
  pub last : Config
  pub accesses : List Access
  pub leads : Leads lines base (length piece) c last accesses
  pub behind : last.pc ≡ address_of (at + length piece)
  pub in_order : AreInOrder base spill accesses []

-- a home holds this number, each other home holds what it did, and so do the words of the areas; registers that are no homes may change
pub record Changes (base spill words : ℕ) (home : Home) (value : ℕ) (c d : Config) : Type 0 where
  pub block : HasBlock base spill words d
  pub here : held_in d home ≡ value
  pub others : (other : Home) → IsHome spill other → other ≢ home → held_in d other ≡ held_in c other
  pub areas : values_at d.block spill words ≡ values_at c.block spill words

-- a register holds what the home does, and besides it only x31 changes
pub record Fetches (lines : List Line) (base spill at scratch : ℕ) (home : Home) (c : Config) : Type 0 where
  pub run : Runs lines base spill at (fetch_lines scratch home) c
  pub value : register_at run.last.registers (register_of scratch home) ≡ held_in c home
  pub others : AgreeBut (scratch ∷ 31 ∷ []) c.registers run.last.registers
  pub block : run.last.block ≡ c.block

-- the home holds what the register of a result does, and besides it only x31 changes
pub record Puts (lines : List Line) (base spill words at : ℕ) (home : Home) (c : Config) : Type 0 where
  pub run : Runs lines base spill at (put_lines home) c
  pub changes : Changes base spill words home (register_at c.registers (register_of 30 home)) c run.last
  pub others : AgreeBut (31 ∷ []) c.registers run.last.registers

-- ---- the laws

-- a home is fetched into a register, x28 to x30 for a spill word
abbrev pub Fetching : Type 0
Fetching = (lines : List Line) (base spill words at scratch : ℕ) (home : Home) (c : Config)
    → HasRoom base spill words → HasBlock base spill words c → IsHome spill home → 28 ≤ scratch → scratch ≤ 30
    → StandsAt lines at (fetch_lines scratch home) → c.pc ≡ address_of at
    → Fetches lines base spill at scratch home c

-- a home is put from its own register, or from x30 for a spill word; that register holds a word
abbrev pub Putting : Type 0
Putting = (lines : List Line) (base spill words at : ℕ) (home : Home) (c : Config)
    → HasRoom base spill words → HasBlock base spill words c → IsHome spill home
    → StandsAt lines at (put_lines home) → c.pc ≡ address_of at → register_at c.registers (register_of 30 home) < 2 ^ 64
    → Puts lines base spill words at home c

-- a home adds the words that it owes
abbrev pub Repaying : Type 0
Repaying = (lines : List Line) (base spill words at : ℕ) (home : Home) (owed held : ℤ) (c : Config)
    → HasRoom base spill words → HasBlock base spill words c → IsHome spill home
    → StandsAt lines at (repay_lines home owed) → c.pc ≡ address_of at → held_in c home ≡ wrapped held
    → (run : Runs lines base spill at (repay_lines home owed) c)
    × Changes base spill words home (wrapped (held +ℤ pos 8 *ℤ owed)) c run.last

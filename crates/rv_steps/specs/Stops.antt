-- Chains of steps, and where they stop. The tests before a step are, in this order, the end, the budget, the text, traps and accesses:
-- this project's own rules.
use Rattle.std.specs.Prelude.{◌≡◌, ◌≢◌, ℕ, zero, suc, ◌<◌, ◌≤◌, List, length, Option, Some, None}
use Rattle.rv_line.specs.declared.line.Line.{Line}
use Rattle.rv_steps.specs.Machine.{Config, address_of, Next, Goes, AtEnd, Halts, Stop, next_step}

-- what more steps lead to, after this one
abbrev pub go_on : Next → (Config → Option Config) → Option Config
go_on (Goes d) more = more d
go_on AtEnd more = None
go_on (Halts stop) more = None

-- the configuration after n steps, if there are that many
unfoldable pub config_after : List Line → ℕ → ℕ → Config → Option Config
config_after lines base zero c = Some c
config_after lines base (suc n) c = go_on (next_step lines base c) (λ d. config_after lines base n d)

-- n steps lead from c to d
pub record Reaches (lines : List Line) (base n : ℕ) (c d : Config) : Type 0 where
  pub reached : config_after lines base n c ≡ Some d

-- n steps lead from c to the end, at d
pub record Ends (lines : List Line) (base n : ℕ) (c d : Config) : Type 0 where
  pub reaches : Reaches lines base n c d
  pub at_end : d.pc ≡ address_of (length lines)

-- fewer steps than the budget lead from c to d, where no further one is made
pub record Breaks (lines : List Line) (base budget : ℕ) (c : Config) (stop : Stop) (d : Config) : Type 0 where
  pub steps : ℕ
  pub within : steps < budget
  pub reaches : Reaches lines base steps c d
  pub stopped : next_step lines base d ≡ Halts stop

-- how a run ends: at the end after some steps, with the budget spent, or at a stop
pub data End : Type 0 where
  Done : (steps : ℕ) → End
  Budget : End
  Stopped : Stop → End

-- a run of at most `budget` steps from c ends so, at d: the first test that holds, where it first holds
abbrev pub Stops : List Line → ℕ → ℕ → Config → End → Config → Type 0
Stops lines base budget c (Done steps) d = (steps ≤ budget) × Ends lines base steps c d
Stops lines base budget c Budget d = Reaches lines base budget c d × (d.pc ≢ address_of (length lines))
Stops lines base budget c (Stopped stop) d = Breaks lines base budget c stop d

-- ---- the same, computed: the end and the last configuration of a run

pub record Outcome : Type 0 where
  pub end : End
  pub last : Config

-- the end of a run with one step more in front
abbrev pub one_more : End → End
one_more (Done steps) = Done (suc steps)
one_more Budget = Budget
one_more (Stopped stop) = Stopped stop

-- where the budget is spent
abbrev pub spent_outcome : Next → Config → Outcome
spent_outcome (Goes d) c = record { end = Budget; last = c }
spent_outcome AtEnd c = record { end = Done 0; last = c }
spent_outcome (Halts stop) c = record { end = Budget; last = c }

-- one step before the outcome of what follows
abbrev pub longer_outcome : Next → Config → (Config → Outcome) → Outcome
longer_outcome (Goes d) c more = record { end = one_more (more d).end; last = (more d).last }
longer_outcome AtEnd c more = record { end = Done 0; last = c }
longer_outcome (Halts stop) c more = record { end = Stopped stop; last = c }

-- how a run of at most `budget` steps ends, and where
unfoldable pub run : List Line → ℕ → ℕ → Config → Outcome
run lines base zero c = spent_outcome (next_step lines base c) c
run lines base (suc budget) c = longer_outcome (next_step lines base c) c (λ d. run lines base budget d)

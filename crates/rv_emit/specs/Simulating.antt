-- That lines do what nests do. This project's own.
use Rattle.std.specs.Prelude.{◌≡◌, ℕ, ◌+◌, ◌≤◌, Bool, true, false, ◌&&◌, List, [], ◌∷◌, ◌++◌, length, IsSome, IsTrue, ⊤}
use Rattle.std.specs.List.{AllByRecursion, list_all}
use Rattle.loop_ir.specs.Costs.{named}
use Rattle.loop_ir.specs.Fitting.{Fits64, HoldsFit, SetFits, SetsFit}
use Rattle.loop_ir.specs.Kept.{EachNamed, KeepsCounters}
use Rattle.moa_tree.specs.declared.operator.Op.{Op}
use Rattle.moa_tree.specs.declared.operator.Op.TheVariants.{Min, Max}
use Rattle.loop_ir.specs.Needed.{Keys, needed, none, sets}
use Rattle.loop_ir.specs.Running.{Access as Touch, Key, State, acted, run}
use Rattle.loop_ir.specs.Steps.{Action, Two, Steps, End, Then, For, If}
use Rattle.register_map.specs.Fits.{AreApart, Fits, IsFit, SetsApart}
use Rattle.register_map.specs.Homes.{Given, IsGiven, home_of}
use Rattle.rv_line.specs.declared.line.Line.{Line}
use Rattle.rv_steps.specs.Accesses.{Leads, accesses_of}
use Rattle.rv_steps.specs.Good.{is_kept, values_at}
use Rattle.rv_steps.specs.Machine.{Access, Config, address_of, register_at}
use Rattle.rv_steps.specs.Pieces.{StandsAt}
use Rattle.rv_steps.specs.Registers.{AgreeBut}
use Rattle.rv_steps.specs.Stops.{Ends}
use Rattle.rv_emit.specs.Counting.{run_counting}
use Rattle.rv_emit.specs.Emitting.{Piece, Plan, action_lines, emitted, owed_after, owed_by, straight}
use Rattle.rv_emit.specs.Moving.{settle_lines}
use Rattle.rv_emit.specs.Showing.{AreHomes, AreInOrder, AreTouches, IsSetting, Shows}
use Rattle.rv_emit.specs.Walks.{Owed}

-- what choices compare with fits 64 signed bits
abbrev pub TestsFit : Steps → Type 0
TestsFit End = ⊤
TestsFit (Then action rest) = TestsFit rest
TestsFit (For counter turns body rest) = TestsFit body × TestsFit rest
TestsFit (If left below one other rest) = Fits64 below × (TestsFit one × (TestsFit other × TestsFit rest))

-- an operator takes as many steps whatever the numbers are, and an action does
abbrev pub is_steady_op : Op → Bool
is_steady_op Min = false
is_steady_op Max = false
is_steady_op _ = true

abbrev pub is_steady_action : Action → Bool
is_steady_action (Two op to left right) = is_steady_op op
is_steady_action _ = true

-- so do steps: there is no minimum, no maximum and no choice
abbrev pub is_steady : Steps → Bool
is_steady End = true
is_steady (Then action rest) = is_steady_action action && is_steady rest
is_steady (For counter turns body rest) = is_steady body && is_steady rest
is_steady (If left below one other rest) = false

-- lines give a number in a register, and load and store nothing; besides it only x30 and x31 change
pub record Computes (lines : List Line) (base at : ℕ) (piece : List Line) (steady : Bool) (to value : ℕ) (c : Config) : Type 0 where
  pub steps : ℕ
  pub last : Config
  pub leads : Leads lines base steps c last []
  pub few : steps ≤ length piece
  pub exact : steady ≡ true → steps ≡ length piece
  pub behind : last.pc ≡ address_of (at + length piece)
  pub here : register_at last.registers to ≡ value
  pub others : AgreeBut (to ∷ 30 ∷ 31 ∷ []) c.registers last.registers
  pub block : last.block ≡ c.block

-- From a configuration at line `at` the piece leads behind its lines, in at most its steps, and in exactly these where it is steady.
-- The last configuration shows these keys of the state after; the loads and stores are those of the accesses that come to the trace.
pub record Simulates (lines : List Line) (plan : Plan) (base at : ℕ) (piece : Piece) (steady : Bool) (owed : Owed) (keys : Keys)
    (before after : State) (c : Config) : Type 0 where
  pub steps : ℕ
  pub last : Config
  pub accesses : List Access
  pub touches : List Touch
  pub leads : Leads lines base steps c last accesses
  pub few : steps ≤ piece.steps
  pub exact : steady ≡ true → steps ≡ piece.steps
  pub behind : last.pc ≡ address_of (at + length piece.lines)
  pub shows : Shows plan base owed keys after last
  pub trace : after.trace ≡ touches ++ before.trace
  pub in_order : AreInOrder base plan.spill accesses touches

-- ---- nests one after another

-- a nest with homes that fit it and lie within so many spill words
pub record IsHomed (spill : ℕ) (nest : Steps × Given) : Type 0 where
  pub given : IsGiven nest.1
  pub within : nest.1.spill ≤ spill
  pub fit : IsFit nest.0 nest.1

abbrev pub AreHomed : ℕ → List (Steps × Given) → Type 0
AreHomed spill nests = AllByRecursion (IsHomed spill) nests

-- one that besides needs nothing at its start and sets and compares what fits 64 bits
pub record IsReady (spill : ℕ) (nest : Steps × Given) : Type 0 where
  pub homed : IsHomed spill nest
  pub counters : KeepsCounters nest.0
  pub sets : SetsFit nest.0
  pub tests : TestsFit nest.0
  pub free : (key : Key) → needed nest.0 none key ≡ false

abbrev pub AreReady : ℕ → List (Steps × Given) → Type 0
AreReady spill nests = AllByRecursion (IsReady spill) nests

-- the state to which nests lead
abbrev pub run_each : List (Steps × Given) → State → State
run_each [] state = state
run_each (nest ∷ nests) state = run_each nests (run nest.0 state)

abbrev pub are_steady : List (Steps × Given) → Bool
are_steady nests = list_all (λ nest. is_steady nest.0) nests

-- ---- one action, and steps

-- the lines of an action do what it does: homes are there, those that are needed lie apart, and what is set takes nothing away
abbrev pub ActionSimulates : Action → Type 0
ActionSimulates action = (lines : List Line) (plan : Plan) (base at : ℕ) (owed : Owed) (keys : Keys) (state : State) (c : Config)
    → IsSetting plan base (length state.words) → HoldsFit state → SetFits action → AreHomes plan.spill owed
    → AllByRecursion (λ key. IsSome (home_of plan.homes key)) (named action)
    → AreApart (home_of plan.homes) (needed (Then action End) keys) → SetsApart (home_of plan.homes) (sets action) keys
    → Shows plan base owed (needed (Then action End) keys) state c
    → StandsAt lines at (action_lines plan at owed action) → c.pc ≡ address_of at → AreTouches (length state.words) (acted action state)
    → Simulates lines plan base at (straight (action_lines plan at owed action)) (is_steady_action action) (owed_by plan owed action) keys
    state (acted action state) c

-- all that is owed is brought to its homes: the same state is shown, and nothing is owed
abbrev pub Settling : Type 0
Settling = (lines : List Line) (plan : Plan) (base at : ℕ) (owed : Owed) (keys : Keys) (state : State) (c : Config)
    → IsSetting plan base (length state.words) → AreHomes plan.spill owed → Shows plan base owed keys state c
    → StandsAt lines at (settle_lines owed) → c.pc ≡ address_of at
    → Simulates lines plan base at (straight (settle_lines owed)) true [] keys state state c

-- from a configuration that shows what steps need, their lines lead to one that shows what is needed behind them
abbrev pub StepsSimulate : Type 0
StepsSimulate = (lines : List Line) (plan : Plan) (base at : ℕ) (owed : Owed) (steps : Steps) (keys : Keys) (state : State) (c : Config)
    → IsSetting plan base (length state.words) → AreHomes plan.spill owed
    → EachNamed (λ key. IsSome (home_of plan.homes key)) steps → Fits (home_of plan.homes) steps keys
    → KeepsCounters steps → SetsFit steps → TestsFit steps → HoldsFit state → Shows plan base owed (needed steps keys) state c
    → StandsAt lines at (emitted plan owed steps at).lines → c.pc ≡ address_of at
    → AreTouches (length state.words) (run_counting plan.down steps state)
    → Simulates lines plan base at (emitted plan owed steps at) (is_steady steps) (owed_after plan owed steps) keys
    state (run_counting plan.down steps state) c

-- ---- a program

-- from c the program ends, in at most so many steps, and in exactly these where it is steady; the block holds the words after, and
-- each register that is given back is as it was
pub record Performs (lines : List Line) (base spill most : ℕ) (steady : Bool) (before after : State) (c : Config) : Type 0 where
  pub steps : ℕ
  pub last : Config
  pub touches : List Touch
  pub ends : Ends lines base steps c last
  pub few : steps ≤ most
  pub exact : steady ≡ true → steps ≡ most
  pub words : values_at last.block spill (length after.words) ≡ after.words
  pub kept : (r : ℕ) → IsTrue (is_kept r) → register_at last.registers r ≡ register_at c.registers r
  pub trace : after.trace ≡ touches ++ before.trace
  pub in_order : AreInOrder base spill (accesses_of lines base steps c) touches

-- What lets the numbers of registers and words fit 64 signed bits. Places are free. This project's own.
use Rattle.std.specs.Prelude.{ℕ, ℤ, FitsSigned, ⊤}
use Rattle.std.specs.Int.{w64}
use Rattle.std.specs.List.{AllByRecursion}
use Rattle.loop_ir.specs.Running.{Register, State}
use Rattle.loop_ir.specs.Steps.{Action, Set, Steps, End, Then, For, If}

abbrev pub Fits64 : ℤ → Type 0
Fits64 value = FitsSigned w64 value

-- each register holds a number that fits, and each word does
pub record HoldsFit (state : State) : Type 0 where
  pub registers : (number : ℕ) → Fits64 (state.held (Register number))
  pub words : AllByRecursion Fits64 state.words

-- the number to which an action sets a register
abbrev pub SetFits : Action → Type 0
SetFits (Set to value) = Fits64 value
SetFits _ = ⊤

-- each number to which steps set a register
abbrev pub SetsFit : Steps → Type 0
SetsFit End = ⊤
SetsFit (Then action rest) = SetFits action × SetsFit rest
SetsFit (For counter turns body rest) = SetsFit body × SetsFit rest
SetsFit (If left below one other rest) = SetsFit one × (SetsFit other × SetsFit rest)

-- Counts of faults, and what a call that fails or succeeds has to do with them. This project's own.
use Rattle.std.specs.Prelude.{◌≡◌, ℕ, ◌+◌, ◌-◌, ◌^◌, ◌≤◌, min, OnErr, OnOk, Result}

-- a count that rises by an amount, and stands still at the greatest number of 64 bits
abbrev pub raised : ℕ → ℕ → ℕ
raised before amount = min (before + amount) (2 ^ 64 - 1)

-- a count rose, or stands at its last value
abbrev pub Rose : ℕ → ℕ → Type 0
Rose before now = raised before 1 ≤ now

-- a count of faults never falls; a call fails only where it rose, and succeeds only where it is as before
pub record HasCause {T E : Type 0} (before now : ℕ) (result : Result T E) : Type 0 where
  pub later : before ≤ now
  pub failed : OnErr result (Rose before now)
  pub same : OnOk result (now ≡ before)

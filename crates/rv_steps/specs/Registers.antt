-- Registers before and after lines that write a few of them. This project's own.
use Rattle.std.specs.Prelude.{◌≡◌, ℕ, Bool, false, List, length, ◌==◌}
use Rattle.std.specs.List.{list_any}
use Rattle.rv_steps.specs.Machine.{register_at}

-- a register is one of these
abbrev pub is_among : ℕ → List ℕ → Bool
is_among r registers = list_any (λ s. s == r) registers

-- as many registers, with the same values but at these
pub record AgreeBut (changed before after : List ℕ) : Type 0 where
  pub sized : length after ≡ length before
  pub same : (r : ℕ) → is_among r changed ≡ false → register_at after r ≡ register_at before r

-- The greatest length of an assembly text: this project's own.
use Rattle.std.specs.Prelude.{ℕ}

-- in bytes
abbrev pub longest_assembly : ℕ
longest_assembly = 33554432

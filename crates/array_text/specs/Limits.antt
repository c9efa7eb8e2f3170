-- The greatest length of an array file: this project's own.
use Rattle.std.specs.Prelude.{ℕ}

-- in bytes
abbrev pub longest_arrays : ℕ
longest_arrays = 268435456

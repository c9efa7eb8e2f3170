-- The greatest length of a source: this project's own.
use Rattle.std.specs.Prelude.{ℕ}

-- in bytes
abbrev pub longest_source : ℕ
longest_source = 1048576

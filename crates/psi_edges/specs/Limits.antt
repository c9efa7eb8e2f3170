-- The greatest length of a file's name: this project's own.
use Rattle.std.specs.Prelude.{ℕ}

-- in bytes
abbrev pub longest_name : ℕ
longest_name = 4096

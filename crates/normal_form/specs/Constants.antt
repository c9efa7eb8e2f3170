-- How great the constants beside variables are. This project's own.
use Rattle.std.specs.Prelude.{ℕ, ◌*◌}
use Rattle.shapes_core.specs.Limits.{greatest_extent, greatest_size}

-- the greatest constant beside a variable: a program has at most 1024 nodes, and each adds at most an extent
abbrev pub greatest_constant : ℕ
greatest_constant = greatest_size * greatest_extent

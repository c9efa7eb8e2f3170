-- The number that the next scan has. This project's own.
use Rattle.std.specs.Prelude.{ℕ, ◌+◌, ◌==◌, if◌then◌else◌}
use Rattle.std.specs.declared.option.Option.{Option}
use Rattle.std.specs.declared.option.Option.TheVariants.{None, Some}
use Rattle.shapes_core.specs.declared.area.AreaKind.{AreaKind}
use Rattle.shapes_core.specs.declared.area.AreaKind.TheVariants.{Scan}

-- behind the last area, if there is one
abbrev pub next_number : Option AreaKind → ℕ
next_number (Some (Scan last)) = last + 1
next_number _ = 0

-- a scan of another number is none
abbrev pub allowed : ℕ → Option AreaKind → Option AreaKind
allowed next (Some (Scan number)) = if number == next then Some (Scan number) else None
allowed next other = other

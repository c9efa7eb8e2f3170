-- What is known of an end of the interpreter. This project's own.
use Rattle.std.specs.Prelude.{ℕ, ◌<◌}
use Rattle.rv_machine.specs.declared.machine.End.{End}
use Rattle.rv_machine.specs.declared.machine.End.TheVariants.{Access, Trap}

-- a line that stopped a run is one of so many
abbrev pub IsAtLine : ℕ → End → Type 0
IsAtLine count (Access line address) = line < count
IsAtLine count (Trap line) = line < count
IsAtLine count end = Unit {0}

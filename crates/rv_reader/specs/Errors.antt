-- What an error says of a text. This project's own.
use Rattle.std.specs.Prelude.{◌≡◌}
use Rattle.std.specs.declared.option.Option.TheVariants.{Some}
use Rattle.rv_reader.specs.Refusals.{Refusal}
use Rattle.rv_reader.specs.declared.error.AsmError.{AsmError}
use Rattle.rv_reader.specs.declared.error.AsmError.TheVariants as asm

-- an error has the line and the cause of the refusal, or it is want of memory, which may come at any time
abbrev pub IsRefusal : AsmError → Refusal → Type 0
IsRefusal (asm.Text line cause) refusal = refusal ≡ Some (line, cause)
IsRefusal asm.Memory refusal = Unit {0}

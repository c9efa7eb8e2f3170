-- What a refusal of a file says of the run on it.
use Rattle.std.proofs.Common.{◌≡◌, ℕ, List, refl, ap, subst}
use Rattle.shapes_core.specs.declared.area.Declared.{Declared}
use Rattle.rv_line.specs.Parts.{Parts}
use Rattle.array_text.specs.Outcome.{IsRefused}
use Rattle.array_text.specs.declared.error.DataError.{DataError}
use Rattle.array_text.specs.declared.error.DataError.TheVariants.{Memory, Text}
use Rattle.array_run.specs.Errors.{of_data}
use Rattle.array_run.specs.Ran.{Says, ran, ran_after}
use Rattle.array_run.specs.Starts.{inputs}

pub refusal_said : (program : Parts) (declared : List Declared) (file : List ℕ) (reading : DataError) → declared ≡ inputs program.areas
    → ((line cause : ℕ) → reading ≡ Text line cause → IsRefused declared file line cause) → Says (of_data reading) (ran program file)
refusal_said program declared file (Text line cause) same refused =
    ap (ran_after program) (subst (λ (found : List Declared). IsRefused found file line cause) same (refused line cause refl))
refusal_said program declared file Memory same refused = tt

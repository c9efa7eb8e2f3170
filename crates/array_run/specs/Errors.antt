-- The errors of a run that come of reading its file. This project's own.
use Rattle.array_text.specs.declared.error.DataError.{DataError}
use Rattle.array_text.specs.declared.error.DataError.TheVariants.{Text, Memory}
use Rattle.array_run.specs.declared.error.RunError.{RunError}
use Rattle.array_run.specs.declared.error.RunError.TheVariants as error

-- an error of the file as one of the run
abbrev pub of_data : DataError → RunError
of_data (Text line cause) = error.Data line cause
of_data Memory = error.Memory

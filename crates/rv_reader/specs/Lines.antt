-- What is read of a line stands for. This project's own.
use Rattle.std.specs.Prelude.{ℕ}
use Rattle.std.specs.declared.result.Result.{Result}
use Rattle.std.specs.declared.result.Result.TheVariants.{Ok, Err}
use Rattle.rv_reader.specs.BodyLines.{Reading}
use Rattle.rv_reader.specs.BodyLines.Reading.{Nothing, Defines, Codes}
use Rattle.rv_reader.specs.Views.{drafted}
use Rattle.rv_reader.specs.declared.reading.Reading.{Reading as LineRead}
use Rattle.rv_reader.specs.declared.reading.Reading.TheVariants as reading

abbrev pub said : LineRead → Reading
said reading.Nothing = Nothing
said (reading.Defines label) = Defines label.now
said (reading.Codes draft) = Codes (drafted draft)

abbrev pub reading_result : Result LineRead ℕ → Result Reading ℕ
reading_result (Ok found) = Ok (said found)
reading_result (Err cause) = Err cause

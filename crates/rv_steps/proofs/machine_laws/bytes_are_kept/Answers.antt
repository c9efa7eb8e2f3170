use Rattle.std.specs.Int.{w64}
use Rattle.rv_steps.proofs.MemoryLemmas.{bytes_stay, value-below}
use Rattle.rv_steps.proofs.machine_laws.bytes_are_kept.Goals as goal

pub returns : goal.returns
returns c = record { bytes = bytes_stay; word = λ block place small. value-below w64 block place small }

use Rattle.std.specs.Prelude.{◌≡◌, true}
use Rattle.loop_ir.proofs.NamedLemmas.{needed-named}
use Rattle.loop_ir.proofs.laws.needed_is_named.Goals as goal

pub returns : goal.returns
returns c = λ keys. needed-named (λ key. keys key ≡ true)

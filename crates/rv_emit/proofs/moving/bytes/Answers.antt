use Rattle.std.proofs.Common.{rules}
use Rattle.std.proofs.lemmas.Int.{wraps}
use Rattle.rv_emit.proofs.moving.bytes.Goals as goal

pub returns : goal.returns
returns c = search (rules, wraps)

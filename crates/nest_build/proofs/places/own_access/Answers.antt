use Rattle.std.proofs.Common.{arith}
use Rattle.nest_build.proofs.PlaceLemmas.{own-made}
use Rattle.nest_build.proofs.places.own_access.Goals as goal

pub returns : goal.returns
returns c = own-made c.args.area c.args.shape.now c.in-Some.strides (grind (arith, c.in_ok-push_weights.ensures))

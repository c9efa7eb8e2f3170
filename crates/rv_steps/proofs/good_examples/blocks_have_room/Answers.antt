use Rattle.std.proofs.Common.{refl, arith}
use Rattle.rv_steps.proofs.GoodExampleLemmas.{starts, too-far}
use Rattle.rv_steps.proofs.good_examples.blocks_have_room.Goals as goal

pub returns : goal.returns
returns c = record { last = starts _ 5 refl (omega arith); beyond = too-far }

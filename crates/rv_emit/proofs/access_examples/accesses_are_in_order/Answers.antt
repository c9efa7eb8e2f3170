use Rattle.rv_emit.proofs.AccessLemmas.{in-between, no-more, not-lost, not-turned}
use Rattle.rv_emit.proofs.access_examples.accesses_are_in_order.Goals as goal

pub returns : goal.returns
returns c = record { between = in-between; turned = not-turned; lost = not-lost; one_more = no-more }

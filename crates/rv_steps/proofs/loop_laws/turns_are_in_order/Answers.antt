use Rattle.std.specs.Prelude.{IsTrue}
use Rattle.rv_steps.specs.Frames.{Spares}
use Rattle.rv_steps.proofs.LoopLemmas.{All-turns, flat_map-more, tour-leads}
use Rattle.rv_steps.proofs.loop_laws.turns_are_in_order.Goals as goal

pub returns : goal.returns
returns c = record {
  tour = tour-leads;
  more = flat_map-more;
  all = λ test. All-turns (λ a. IsTrue (test a));
  spared = λ base place. All-turns (Spares base place);
}

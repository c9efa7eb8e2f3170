use Rattle.rv_machine.proofs.WalkLemmas.{reaches_none, reaches_one, stops_off}
use Rattle.rv_machine.proofs.chains.chains_go_on.Goals as goal
use Rattle.std.proofs.Common.{◌∙◌}

pub returns : goal.returns
returns c = record {
  start = reaches_none;
  goes = λ lines base n k line b d e reached at goes. c.chains_compose.ensures.steps lines base n 1 b d e reached (reaches_one lines base d e (c.lines_take_steps.ensures.line lines base k d line at ∙ goes));
  halts = λ lines base budget n k line b d stop within reached at halts. record { steps = n; within = within; reaches = reached; stopped = c.lines_take_steps.ensures.line lines base k d line at ∙ halts };
  off = stops_off;
}

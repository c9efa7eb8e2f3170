use Rattle.rv_emit.proofs.RegisterLemmas.{copy_simulates, one_simulates, set_simulates, two_simulates}
use Rattle.rv_emit.proofs.action_laws.registers_are_set.Goals as goal

pub returns : goal.returns
returns c = record {
  set = set_simulates c.machine_is_known.ensures c.homes_are_fetched.ensures c.homes_are_put.ensures;
  copy = copy_simulates c.machine_is_known.ensures c.homes_are_fetched.ensures c.homes_are_put.ensures;
  one = one_simulates c.machine_is_known.ensures c.homes_are_fetched.ensures c.homes_are_put.ensures;
  two = two_simulates c.machine_is_known.ensures c.homes_are_fetched.ensures c.homes_are_put.ensures;
}

use Rattle.rv_emit.proofs.PlaceLemmas.{place-simulates, spot-simulates, walk-simulates}
use Rattle.rv_emit.proofs.action_laws.places_are_set.Goals as goal

pub returns-clause-place : goal.returns-clause-place
returns-clause-place c = place-simulates c.machine_is_known.ensures c.homes_are_put.ensures

pub returns-clause-spot : goal.returns-clause-spot
returns-clause-spot c = spot-simulates c.machine_is_known.ensures c.homes_are_fetched.ensures c.homes_are_put.ensures

pub returns-clause-walk : goal.returns-clause-walk
returns-clause-walk c = walk-simulates c.machine_is_known.ensures

use Rattle.rv_emit.proofs.WordLemmas.{read-simulates, write-simulates}
use Rattle.rv_emit.proofs.action_laws.words_are_moved.Goals as goal

pub returns-clause-read : goal.returns-clause-read
returns-clause-read c =
    read-simulates c.machine_is_known.ensures c.homes_are_fetched.ensures c.homes_are_put.ensures c.homes_repay.ensures

pub returns-clause-write : goal.returns-clause-write
returns-clause-write c = write-simulates c.machine_is_known.ensures c.homes_are_fetched.ensures c.homes_repay.ensures

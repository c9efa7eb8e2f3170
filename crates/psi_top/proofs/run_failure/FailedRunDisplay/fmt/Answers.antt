use Rattle.std.proofs.Common.{codes}
use Rattle.std.proofs.Output.{has_written_of_eq}
use Rattle.std.specs.Fmt.{decimal}
use Rattle.psi_top.proofs.MessageLemmas.{in-four}
use Rattle.psi_top.specs.Line.{line_place}
use Rattle.psi_top.proofs.run_failure.FailedRunDisplay.fmt.Goals as goal

pub returns-in-Access-clause-writes : goal.returns-in-Access-clause-writes
returns-in-Access-clause-writes g c =
    let place = line_place c.args.self.now.name.now c.in-Access.line in
    let parts = in-four place (codes "stopped: access ") (decimal c.in-Access.address) (codes "\n") in
    rw c.in-Access.is (λ plain ok. has_written_of_eq _ _ _ _ _ parts (c.writeln-in-Access.ensures.writes plain ok))

pub returns-in-Trap-clause-writes : goal.returns-in-Trap-clause-writes
returns-in-Trap-clause-writes g c = rw c.in-Trap.is c.writeln-in-Trap.ensures.writes

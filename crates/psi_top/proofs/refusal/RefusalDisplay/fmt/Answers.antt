use Rattle.std.proofs.Common.{codes, ◌++◌}
use Rattle.std.proofs.Output.{has_written_of_eq}
use Rattle.std.specs.Fmt.{decimal}
use Rattle.psi_top.proofs.MessageLemmas.{in-five}
use Rattle.psi_top.proofs.refusal.RefusalDisplay.fmt.Goals as goal

pub returns-in-TooLong-clause-writes : goal.returns-in-TooLong-clause-writes
returns-in-TooLong-clause-writes g c =
    let most = codes "longer than " ++ (decimal c.in-TooLong.most ++ codes " bytes\n") in
    let parts = in-five c.in-TooLong.name.now (codes ": limit ") (decimal c.in-TooLong.which) (codes ": ") most in
    rw c.in-TooLong.is (λ plain ok. has_written_of_eq _ _ _ _ _ parts (c.writeln-in-TooLong.ensures.writes plain ok))

pub returns-in-NotBuilt-clause-writes : goal.returns-in-NotBuilt-clause-writes
returns-in-NotBuilt-clause-writes g c = rw c.in-NotBuilt.is c.writeln-in-NotBuilt.ensures.writes

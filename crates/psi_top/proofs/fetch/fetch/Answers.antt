use Rattle.psi_top.specs.Answer.IsUnread.{failed, longer, starved}
use Rattle.psi_top.proofs.fetch.fetch.Goals as goal

pub returns-in-Err-Fault-clause-unread : goal.returns-in-Err-Fault-clause-unread
returns-in-Err-Fault-clause-unread g c = let fault = c.in-Err-Fault.ensures.fault (cc) in failed fault.0 fault.1

pub returns-in-Err-TooLong-clause-unread : goal.returns-in-Err-TooLong-clause-unread
returns-in-Err-TooLong-clause-unread g c =
    longer (c.in-Err-TooLong.ensures.too_long (cc)) (c.in-Err-TooLong.ensures.counted (cc)) (c.in-Err-TooLong.ensures.faults (λ wrong. cc))

pub returns-in-Err-Memory-clause-unread : goal.returns-in-Err-Memory-clause-unread
returns-in-Err-Memory-clause-unread g c = starved

use Rattle.psi_compile.proofs.ReadLemmas.{cause-unchecked, cause-unread}
use Rattle.psi_compile.proofs.laws.causes_are_kept.Goals as goal

pub returns-clause-unread : goal.returns-clause-unread
returns-clause-unread c = cause-unread

pub returns-clause-unchecked : goal.returns-clause-unchecked
returns-clause-unchecked c = cause-unchecked

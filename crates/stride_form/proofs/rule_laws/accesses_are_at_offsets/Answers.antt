use Rattle.stride_form.proofs.FoundLemmas.{access-offset}
use Rattle.stride_form.proofs.rule_laws.accesses_are_at_offsets.Goals as goal

pub returns : goal.returns
returns c = access-offset

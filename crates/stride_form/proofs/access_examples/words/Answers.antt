use Rattle.std.proofs.Common.{refl}
use Rattle.std.specs.Int.{int_wrap}
use Rattle.stride_form.proofs.access_examples.words.Goals as goal

pub returns-clause-beyond : goal.returns-clause-beyond
unfolding int_wrap
returns-clause-beyond c = refl

use Rattle.rv_steps.proofs.ConstantFormLemmas.{more-lines, one-line, two-lines}
use Rattle.rv_steps.proofs.constant_laws.constants_have_lines.Goals as goal

pub returns : goal.returns
returns c = record { one = one-line; two = two-lines; more = more-lines }

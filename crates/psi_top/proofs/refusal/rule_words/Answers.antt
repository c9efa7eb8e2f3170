use Rattle.std.proofs.Common.{arith}
use Rattle.psi_top.proofs.WordLemmas.{no_rule_above, no_rule_below}
use Rattle.psi_top.proofs.refusal.rule_words.Goals.{in_default-via-then-rule-lt1, in_default-via-else-rule-lt1+else-rule-lt14+else-rule-lt25}
use Rattle.psi_top.proofs.refusal.rule_words.Goals as goal

pub returns-in_default : goal.returns-in_default
returns-in_default c = elim c.in_default.branch [
  | in_default-via-then-rule-lt1 w ↦ no_rule_below c.args.rule (omega (arith, w))
  | in_default-via-else-rule-lt1+else-rule-lt14+else-rule-lt25 w ↦ no_rule_above c.args.rule (omega (arith, w))
]

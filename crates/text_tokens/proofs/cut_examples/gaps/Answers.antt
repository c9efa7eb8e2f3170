use Rattle.std.proofs.Common.{refl, [], codes, arith}
use Rattle.text_tokens.specs.Separators.{blank, comment, line_end, nothing}
use Rattle.text_tokens.proofs.SeparatorLemmas.{separator_closed}
use Rattle.text_tokens.proofs.cut_examples.gaps.Goals as goal

pub returns-clause-blanks : goal.returns-clause-blanks
returns-clause-blanks c = record { separator = blank 32 _ refl (blank 9 _ refl (blank 13 _ refl (line_end [] nothing))); nonempty = omega arith }

pub returns-clause-one_blank : goal.returns-clause-one_blank
returns-clause-one_blank c = record { separator = blank 13 [] refl nothing; nonempty = omega arith }

pub returns-clause-comment : goal.returns-clause-comment
returns-clause-comment c = record { separator = comment (codes " 1 <") [] refl nothing; nonempty = omega arith }

pub returns-clause-nothing : goal.returns-clause-nothing
returns-clause-nothing c = nothing

pub returns-clause-open_comment : goal.returns-clause-open_comment
returns-clause-open_comment c = λ separator. cc (separator_closed separator)

use Rattle.text_tokens.proofs.SeparatorLemmas.{comment_silent, exchanged, leading, separator_silent, trailing}
use Rattle.text_tokens.proofs.laws.separators.Goals as goal

pub returns : goal.returns
returns c = record {
  exchanged = exchanged;
  leading = leading;
  trailing = trailing;
  silent = λ position gap separator. separator_silent separator position;
  last_comment = comment_silent;
}

use Rattle.text_tokens.proofs.PrintLemmas.{tokens_name, tokens_name_alone}
use Rattle.text_tokens.proofs.laws.printed_names.Goals as goal

pub returns : goal.returns
returns c = record { first = tokens_name; alone = tokens_name_alone }

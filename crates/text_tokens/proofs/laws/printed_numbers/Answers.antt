use Rattle.text_tokens.proofs.PrintLemmas.{tokens_number, tokens_number_alone}
use Rattle.text_tokens.proofs.laws.printed_numbers.Goals as goal

pub returns : goal.returns
returns c = record { first = tokens_number; alone = tokens_number_alone }

use Rattle.array_text.proofs.ReadBackLemmas.{read_back}
use Rattle.array_text.proofs.laws.printed_arrays_read_back.Goals as goal

pub returns : goal.returns
returns c = λ array values named shaped fits counted.
    read_back c.printed_numbers.ensures.first c.printed_names.ensures.first array values named shaped fits counted

use Rattle.array_text.proofs.EndLemmas.{refused_front}
use Rattle.array_text.proofs.laws.refusals_stay.Goals as goal

pub returns : goal.returns
returns c = λ declared front behind line cause h. refused_front declared front behind line cause h

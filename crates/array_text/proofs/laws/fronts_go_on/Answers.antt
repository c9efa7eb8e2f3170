use Rattle.array_text.proofs.FrontLemmas.{front_goes}
use Rattle.array_text.proofs.laws.fronts_go_on.Goals as goal

pub returns : goal.returns
returns c = λ declared front came want line differ h between. front_goes declared front came want line differ h between

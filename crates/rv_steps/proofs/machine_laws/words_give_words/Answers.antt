use Rattle.rv_steps.specs.Effects.{load_width}
use Rattle.rv_steps.specs.Machine.{value_at}
use Rattle.rv_steps.proofs.MemoryLemmas.{value-below}
use Rattle.rv_steps.proofs.WordLemmas.{three_value-below, immediate_value-below, upper_value-below, load_value-below}
use Rattle.rv_steps.proofs.machine_laws.words_give_words.Goals as goal

pub returns : goal.returns
returns c = record {
  three = three_value-below;
  immediate = immediate_value-below;
  upper = upper_value-below;
  load = λ code block place small. load_value-below code (value_at (load_width code) block place) (value-below (load_width code) block place small);
}

use Rattle.rv_steps.proofs.AreaWordLemmas.{word-loaded, word-stored}
use Rattle.rv_steps.proofs.word_laws.words_are_moved.Goals as goal

pub returns : goal.returns
returns c = record {
  load = λ lines base k d to imm pointer place at eights points inside. word-loaded lines base k d imm pointer place eights points inside to at;
  store = λ lines base k d from imm pointer place at eights points inside. word-stored lines base k d imm pointer place eights points inside from at;
}

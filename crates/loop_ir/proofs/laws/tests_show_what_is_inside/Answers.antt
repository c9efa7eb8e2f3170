use Rattle.loop_ir.proofs.AreaLemmas.{allowed_is_inside, has_word_is_word}
use Rattle.loop_ir.proofs.laws.tests_show_what_is_inside.Goals as goal

pub returns : goal.returns
returns c = record { word = has_word_is_word; trace = allowed_is_inside }

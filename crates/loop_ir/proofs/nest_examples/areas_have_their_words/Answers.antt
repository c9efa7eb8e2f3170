use Rattle.std.specs.Prelude.{pos}
use Rattle.std.proofs.Common.{refl}
use Rattle.loop_ir.specs.NestExamples.{vector_areas}
use Rattle.loop_ir.proofs.AreaLemmas.{has_word_is_word}
use Rattle.loop_ir.proofs.nest_examples.areas_have_their_words.Goals as goal

pub returns-clause-first : goal.returns-clause-first
returns-clause-first c = has_word_is_word vector_areas 1 (pos 3) refl

pub returns-clause-last : goal.returns-clause-last
returns-clause-last c = has_word_is_word vector_areas 1 (pos 5) refl

use Rattle.std.proofs.Common.{◌≡◌, drop, map}
use Rattle.moa_tree.specs.Vocabulary.{word_among}
use Rattle.moa_reader.specs.Lexemes.{lexeme_of_word}
use Rattle.moa_reader.proofs.words.Word.among.Given as goal

abbrev pub invariant-loop-word : goal.invariant-loop-word
invariant-loop-word l =
    word_among (map lexeme_of_word l.words) l.bytes ≡ word_among (map lexeme_of_word (drop l.word-index l.words)) l.bytes

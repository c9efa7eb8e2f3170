-- The lexeme that a word is, and the lexeme that was read. This project's own.
use Rattle.std.specs.Prelude.{ℕ, ℤ, List, if◌then◌else◌}
use Rattle.std.specs.declared.option.Option.{Option}
use Rattle.std.specs.declared.option.Option.TheVariants.{None, Some}
use Rattle.moa_tree.specs.declared.operator.Op.{Op}
use Rattle.moa_tree.specs.declared.tree.Version.{Version}
use Rattle.moa_tree.specs.Vocabulary.{Lexeme, is_fold, version_numbered}
use Rattle.moa_reader.specs.declared.words.Lexeme.{Lexeme as Found}
use Rattle.moa_reader.specs.declared.words.Lexeme.TheVariants as found
use Rattle.moa_reader.specs.declared.words.Word.{Word}
use Rattle.moa_reader.specs.declared.words.Word.TheVariants as word

abbrev pub lexeme_of_word : Word → Lexeme
lexeme_of_word word.In = Lexeme.In
lexeme_of_word word.Let = Lexeme.Let
lexeme_of_word word.Out = Lexeme.Out
lexeme_of_word word.Psi = Lexeme.Psi
lexeme_of_word word.Take = Lexeme.Take
lexeme_of_word word.Drop = Lexeme.Drop
lexeme_of_word word.Permute = Lexeme.Permute
lexeme_of_word word.Reshape = Lexeme.Reshape
lexeme_of_word word.Reverse = Lexeme.Reverse
lexeme_of_word word.Transpose = Lexeme.Transpose
lexeme_of_word word.Ravel = Lexeme.Ravel
lexeme_of_word word.Iota = Lexeme.Iota
lexeme_of_word word.Rotate = Lexeme.Rotate
lexeme_of_word word.Cat = Lexeme.Cat
lexeme_of_word word.Outer = Lexeme.Outer
lexeme_of_word word.Inner = Lexeme.Inner
lexeme_of_word word.Reduce = Lexeme.Reduce
lexeme_of_word word.Scan = Lexeme.Scan
lexeme_of_word (word.Unary op) = Lexeme.Unary op
lexeme_of_word (word.Binary op) = Lexeme.Binary op

-- the word, or else a name
abbrev pub lexeme_or_name : Option Word → List ℕ → Lexeme
lexeme_or_name None name = Lexeme.Name name
lexeme_or_name (Some word) name = lexeme_of_word word

abbrev pub lexeme_read : Found → Lexeme
lexeme_read (found.Word word) = lexeme_of_word word
lexeme_read (found.Name name) = Lexeme.Name name
lexeme_read (found.Number value) = Lexeme.Number value
lexeme_read (found.Sign sign) = Lexeme.Sign sign
lexeme_read found.End = Lexeme.End
lexeme_read found.Malformed = Lexeme.Malformed
lexeme_read found.OutOfRange = Lexeme.OutOfRange
lexeme_read found.LongWord = Lexeme.LongWord

-- the number, the version, the name or the binary operator that a lexeme is, if it is one
abbrev pub number_in : Lexeme → Option ℤ
number_in (Lexeme.Number value) = Some value
number_in _ = None

abbrev pub version_in : Lexeme → Option Version
version_in (Lexeme.Number value) = version_numbered value
version_in _ = None

abbrev pub name_in : Lexeme → Option (List ℕ)
name_in (Lexeme.Name name) = Some name
name_in _ = None

abbrev pub operator_in : Lexeme → Option Op
operator_in (Lexeme.Binary op) = Some op
operator_in _ = None

-- the operator that it is, if it is one that folds
abbrev pub fold_in : Lexeme → Option Op
fold_in (Lexeme.Binary op) = if is_fold op then Some op else None
fold_in _ = None

-- What the printer appends for lexemes that stand behind others in a line. This project's own.
use Rattle.std.specs.Prelude.{ℕ, ℤ, List, [], ◌∷◌, ◌++◌}
use Rattle.text_tokens.specs.declared.token.Sign.TheVariants as sign
use Rattle.moa_tree.specs.declared.tree.Node.{Node}
use Rattle.moa_tree.specs.declared.tree.Node.TheVariants as node
use Rattle.moa_tree.specs.Canonical.{between}
use Rattle.moa_tree.specs.Pool.{list_at}
use Rattle.moa_tree.specs.Readings.{list_lexemes}
use Rattle.moa_tree.specs.Vocabulary.{Lexeme, spelling}

-- what a line has of lexemes behind this one
abbrev pub behind : Lexeme → List Lexeme → List ℕ
behind before [] = []
behind before (next ∷ others) = between before next ++ (spelling next ++ behind next others)

-- and of lexemes behind one that is not `<`, no matter which
abbrev pub spaced : List Lexeme → List ℕ
spaced lexemes = behind (Lexeme.Sign sign.Equal) lexemes

-- the lexemes of a node before those of its operands
abbrev pub head_lexemes : List ℤ → Node → List Lexeme
head_lexemes pool (node.Number value) = Lexeme.Number value ∷ []
head_lexemes pool (node.Use name) = Lexeme.Name name ∷ []
head_lexemes pool (node.Iota extent) = Lexeme.Iota ∷ Lexeme.Number extent ∷ []
head_lexemes pool (node.One op of) = Lexeme.Unary op ∷ []
head_lexemes pool (node.Two op left right) = Lexeme.Binary op ∷ []
head_lexemes pool (node.Psi list of) = Lexeme.Psi ∷ list_lexemes (list_at pool list)
head_lexemes pool (node.Take list of) = Lexeme.Take ∷ list_lexemes (list_at pool list)
head_lexemes pool (node.Drop list of) = Lexeme.Drop ∷ list_lexemes (list_at pool list)
head_lexemes pool (node.Reverse of) = Lexeme.Reverse ∷ []
head_lexemes pool (node.Rotate by of) = Lexeme.Rotate ∷ Lexeme.Number by ∷ []
head_lexemes pool (node.Transpose of) = Lexeme.Transpose ∷ []
head_lexemes pool (node.Permute list of) = Lexeme.Permute ∷ list_lexemes (list_at pool list)
head_lexemes pool (node.Cat left right) = Lexeme.Cat ∷ []
head_lexemes pool (node.Reshape list of) = Lexeme.Reshape ∷ list_lexemes (list_at pool list)
head_lexemes pool (node.Ravel of) = Lexeme.Ravel ∷ []
head_lexemes pool (node.Outer op left right) = Lexeme.Outer ∷ Lexeme.Binary op ∷ []
head_lexemes pool (node.Inner fold op left right) = Lexeme.Inner ∷ Lexeme.Binary fold ∷ Lexeme.Binary op ∷ []
head_lexemes pool (node.Reduce fold of) = Lexeme.Reduce ∷ Lexeme.Binary fold ∷ []
head_lexemes pool (node.Scan fold of) = Lexeme.Scan ∷ Lexeme.Binary fold ∷ []

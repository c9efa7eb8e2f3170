-- The versions of the language, the words of each, and what each token is to it. This project's own.
use Rattle.std.specs.Prelude.{ℕ, zero, suc, Bool, true, false, List, [], ◌∷◌, ◌++◌, map, codes, ℤ, pos, if◌then◌else◌}
use Rattle.std.specs.Fmt.{signed_decimal}
use Rattle.std.specs.List.{list_any}
use Rattle.std.specs.Option.{unwrap_or}
use Rattle.std.specs.Str.{bytes_eq}
use Rattle.std.specs.declared.option.Option.{Option}
use Rattle.std.specs.declared.option.Option.TheVariants.{None, Some}
use Rattle.text_tokens.specs.declared.token.Position.{Position}
use Rattle.text_tokens.specs.declared.token.Sign.{Sign as SignByte}
use Rattle.text_tokens.specs.declared.token.Sign.TheVariants as sign
use Rattle.text_tokens.specs.declared.token.Token.{Token}
use Rattle.text_tokens.specs.declared.token.Token.TheVariants as token
use Rattle.text_tokens.specs.Tokens.{start, tokens}
use Rattle.moa_tree.specs.declared.operator.Op.{Op}
use Rattle.moa_tree.specs.declared.operator.Op.TheVariants as op
use Rattle.moa_tree.specs.declared.operator.Unary.{Unary as UnaryOp}
use Rattle.moa_tree.specs.declared.operator.Unary.TheVariants as unary
use Rattle.moa_tree.specs.declared.tree.Version.{Version}
use Rattle.moa_tree.specs.declared.tree.Version.TheVariants.{First}

-- What a token is to the language: a reserved word, a name, a number, a sign, the end, or what is none of these: bytes that form no token, a
-- number outside 64 bits, a word of more than 64 bytes.
pub data Lexeme : Type 0 where
  In Let Out : Lexeme
  Psi Take Drop Permute Reshape : Lexeme
  Reverse Transpose Ravel : Lexeme
  Iota Rotate Cat : Lexeme
  Outer Inner Reduce Scan : Lexeme
  Unary : (op : UnaryOp) → Lexeme
  Binary : (op : Op) → Lexeme
  Name : (name : List ℕ) → Lexeme
  Number : (value : ℤ) → Lexeme
  Sign : (sign : SignByte) → Lexeme
  Malformed OutOfRange LongWord : Lexeme
  End : Lexeme

abbrev pub unary_word : UnaryOp → List ℕ
unary_word unary.Neg = codes "neg"
unary_word unary.Not = codes "not"
unary_word unary.Abs = codes "abs"

abbrev pub op_word : Op → List ℕ
op_word op.Add = codes "add"
op_word op.Sub = codes "sub"
op_word op.Mul = codes "mul"
op_word op.Quot = codes "quot"
op_word op.Rem = codes "rem"
op_word op.Min = codes "min"
op_word op.Max = codes "max"
op_word op.Eq = codes "eq"
op_word op.Ne = codes "ne"
op_word op.Lt = codes "lt"
op_word op.Le = codes "le"
op_word op.And = codes "and"
op_word op.Or = codes "or"
op_word op.Xor = codes "xor"

-- the associative operators, which a fold takes
abbrev pub is_fold : Op → Bool
is_fold op.Add = true
is_fold op.Mul = true
is_fold op.Min = true
is_fold op.Max = true
is_fold op.And = true
is_fold op.Or = true
is_fold op.Xor = true
is_fold _ = false

-- how a word, a number or a sign is spelled, numbers in shortest decimal form
abbrev pub spelling : Lexeme → List ℕ
spelling Lexeme.In = codes "in"
spelling Lexeme.Let = codes "let"
spelling Lexeme.Out = codes "out"
spelling Lexeme.Psi = codes "psi"
spelling Lexeme.Take = codes "take"
spelling Lexeme.Drop = codes "drop"
spelling Lexeme.Permute = codes "permute"
spelling Lexeme.Reshape = codes "reshape"
spelling Lexeme.Reverse = codes "reverse"
spelling Lexeme.Transpose = codes "transpose"
spelling Lexeme.Ravel = codes "ravel"
spelling Lexeme.Iota = codes "iota"
spelling Lexeme.Rotate = codes "rotate"
spelling Lexeme.Cat = codes "cat"
spelling Lexeme.Outer = codes "outer"
spelling Lexeme.Inner = codes "inner"
spelling Lexeme.Reduce = codes "reduce"
spelling Lexeme.Scan = codes "scan"
spelling (Lexeme.Unary op) = unary_word op
spelling (Lexeme.Binary op) = op_word op
spelling (Lexeme.Name name) = name
spelling (Lexeme.Number value) = signed_decimal value
spelling (Lexeme.Sign sign.Less) = codes "<"
spelling (Lexeme.Sign sign.Greater) = codes ">"
spelling (Lexeme.Sign sign.Open) = codes "("
spelling (Lexeme.Sign sign.Close) = codes ")"
spelling (Lexeme.Sign sign.Equal) = codes "="
spelling _ = []

-- the words that a version reserves beyond those of the first
abbrev pub added : Version → List Lexeme
added First = []

-- every word that a version reserves
abbrev pub reserved : Version → List Lexeme
reserved version =
    Lexeme.In ∷ Lexeme.Let ∷ Lexeme.Out ∷ Lexeme.Psi ∷ Lexeme.Iota
    ∷ Lexeme.Take ∷ Lexeme.Drop ∷ Lexeme.Reverse ∷ Lexeme.Rotate ∷ Lexeme.Transpose ∷ Lexeme.Permute ∷ Lexeme.Cat
    ∷ Lexeme.Reshape ∷ Lexeme.Ravel ∷ Lexeme.Outer ∷ Lexeme.Inner ∷ Lexeme.Reduce ∷ Lexeme.Scan
    ∷ (map Lexeme.Unary (unary.Neg ∷ unary.Not ∷ unary.Abs ∷ [])
    ++ (map Lexeme.Binary
    (op.Add ∷ op.Sub ∷ op.Mul ∷ op.Quot ∷ op.Rem ∷ op.Min ∷ op.Max
    ∷ op.Eq ∷ op.Ne ∷ op.Lt ∷ op.Le ∷ op.And ∷ op.Or ∷ op.Xor ∷ [])
    ++ added version))

abbrev pub is_reserved : Version → List ℕ → Bool
is_reserved version word = list_any (λ lexeme. bytes_eq word (spelling lexeme)) (reserved version)

-- the first of these that is spelled so, and a name where there is none
abbrev pub word_among : List Lexeme → List ℕ → Lexeme
word_among [] word = Lexeme.Name word
word_among (first ∷ others) word = if bytes_eq word (spelling first) then first else word_among others word

abbrev pub lexeme_of : Version → Token → Lexeme
lexeme_of version (token.Word word) = word_among (reserved version) word
lexeme_of version token.LongWord = Lexeme.LongWord
lexeme_of version (token.Number value) = Lexeme.Number value
lexeme_of version token.OutOfRange = Lexeme.OutOfRange
lexeme_of version (token.Sign sign) = Lexeme.Sign sign
lexeme_of version token.Malformed = Lexeme.Malformed
lexeme_of version token.End = Lexeme.End

abbrev pub lexemes_of : Version → List (Token × Position) → List Lexeme
lexemes_of version placed = map (λ t. lexeme_of version t.0) placed

-- what a text is to a version of the language, the end included
abbrev pub lexemes : Version → List ℕ → List Lexeme
lexemes version bytes = lexemes_of version (tokens start bytes)

-- the number that stands in the first line of a program
abbrev pub version_number : Version → ℤ
version_number First = pos 1

-- the version of this number
abbrev pub version_numbered : ℤ → Option Version
version_numbered (pos (suc zero)) = Some First
version_numbered _ = None

-- the version of which a token is the number, and the first where it is that of none
abbrev pub version_named : Token → Version
version_named (token.Number value) = unwrap_or (version_numbered value) First
version_named _ = First

-- The version of a text, also of one that has no reading, so that its words are known: its second token names it.
abbrev pub version_among : List (Token × Position) → Version
version_among (first ∷ second ∷ others) = version_named second.0
version_among _ = First

abbrev pub version_of : List ℕ → Version
version_of text = version_among (tokens start text)

-- Where a text is refused, and why. It is refused at its first token that no reading could have there. This project's own.
use Rattle.std.specs.Prelude.{◌≡◌, ℕ, suc, Bool, true, false, IsTrue, List, [], ◌∷◌, ◌++◌}
use Rattle.text_tokens.specs.declared.token.Position.{Position}
use Rattle.text_tokens.specs.declared.token.Sign.TheVariants as sign
use Rattle.text_tokens.specs.declared.token.Token.{Token}
use Rattle.text_tokens.specs.Tokens.{start, tokens}
use Rattle.moa_tree.specs.declared.operator.Op.{Op}
use Rattle.moa_tree.specs.declared.tree.Version.{Version}
use Rattle.moa_tree.specs.Expr.{Expr, Item, Tree}
use Rattle.moa_tree.specs.Readings.{Prefix, PrefixOfTwo, ReadsExpr, ReadsItems, ReadsProgram, deepest}
use Rattle.moa_tree.specs.Vocabulary.{Lexeme, lexeme_of, lexemes_of, version_number as number_of, version_of}

-- these begin the lexemes of some text of the grammar, however deep it is
pub data IsFront : List Lexeme → Type 0 where
  begins : (levels : ℕ) (before after : List Lexeme) (tree : Tree) → ReadsProgram levels (before ++ after) tree → IsFront before

-- after this front some text of the grammar goes on with this lexeme
abbrev pub MayFollow : List Lexeme → Lexeme → Type 0
MayFollow front next = IsFront (front ++ next ∷ [])

-- Where an expression begins in some text of the grammar: how much deeper than the one that encloses it, and what stands before it there.
pub data BeginsWithin : ℕ → List Lexeme → Type 0 where
  here : BeginsWithin 0 []
  parentheses : (deeper : ℕ) (inner : List Lexeme) → BeginsWithin deeper inner → BeginsWithin (suc deeper) (Lexeme.Sign sign.Open ∷ inner)
  one : (deeper : ℕ) (before inner : List Lexeme) (form : Expr → Expr) → Prefix before form → BeginsWithin deeper inner
      → BeginsWithin (suc deeper) (before ++ inner)
  first : (deeper : ℕ) (before inner : List Lexeme) (form : Expr → Expr → Expr) → PrefixOfTwo before form → BeginsWithin deeper inner
      → BeginsWithin (suc deeper) (before ++ inner)
  second : (deeper levels : ℕ) (before left inner : List Lexeme) (form : Expr → Expr → Expr) (expr : Expr) → PrefixOfTwo before form
      → ReadsExpr levels left expr → BeginsWithin deeper inner → BeginsWithin (suc deeper) (before ++ (left ++ inner))

-- the words that a statement with an expression begins with
abbrev pub is_definition : Lexeme → Bool
is_definition Lexeme.Let = true
is_definition Lexeme.Out = true
is_definition _ = false

-- after these lexemes of a text an expression begins at this depth; that of a statement stands at depth 1
pub data BeginsAt : ℕ → List Lexeme → Type 0 where
  statement : (version : Version) (levels deeper : ℕ) (statements : List Lexeme) (items : List Item) (word : Lexeme) (name : List ℕ) (inner : List Lexeme)
      → ReadsItems levels statements items → IsTrue (is_definition word) → BeginsWithin deeper inner
      → BeginsAt (suc deeper) (Lexeme.Psi ∷ Lexeme.Number (number_of version) ∷ (statements ++ word ∷ Lexeme.Name name ∷ Lexeme.Sign sign.Equal ∷ inner))

-- an expression that begins after these stands too deep
abbrev pub IsTooDeep : List Lexeme → Type 0
IsTooDeep before = BeginsAt (suc deepest) before

-- the words after which a name stands
abbrev pub takes_name : Lexeme → Bool
takes_name Lexeme.In = true
takes_name Lexeme.Let = true
takes_name Lexeme.Out = true
takes_name _ = false

-- the words after which a number stands
abbrev pub counts : Lexeme → Bool
counts Lexeme.Iota = true
counts Lexeme.Rotate = true
counts _ = false

-- the words after which an operator stands
abbrev pub applies : Lexeme → Bool
applies Lexeme.Outer = true
applies Lexeme.Inner = true
applies Lexeme.Reduce = true
applies Lexeme.Scan = true
applies _ = false

abbrev pub is_end : Lexeme → Bool
is_end Lexeme.End = true
is_end _ = false

-- What is wanted after a front, where another lexeme stands: what its last word asks for, or what may follow it. A cause is named by its
-- number: 4 the version, 5 a statement, 6 an output, 7 a name, 8 `=`, 9 an expression, 10 `)`, 11 `<`, 12 a number, 13 an operator.
pub data Wants : List Lexeme → Lexeme → ℕ → Type 0 where
  version : (next : Lexeme) → Wants [] next 4
  version_number : (next : Lexeme) → Wants (Lexeme.Psi ∷ []) next 4
  statement : (front : List Lexeme) (next : Lexeme) → MayFollow front Lexeme.In → is_end next ≡ false → Wants front next 5
  output : (front : List Lexeme) → MayFollow front Lexeme.In → Wants front Lexeme.End 6
  name : (front : List Lexeme) (word next : Lexeme) → IsTrue (takes_name word) → Wants (front ++ word ∷ []) next 7
  equal : (front : List Lexeme) (next : Lexeme) → MayFollow front (Lexeme.Sign sign.Equal) → Wants front next 8
  expression : (front : List Lexeme) (next : Lexeme) → MayFollow front (Lexeme.Sign sign.Open) → Wants front next 9
  close : (front : List Lexeme) (next : Lexeme) → MayFollow front (Lexeme.Sign sign.Close) → Wants front next 10
  list : (front : List Lexeme) (next : Lexeme) → MayFollow front (Lexeme.Sign sign.Less) → Wants front next 11
  number : (front : List Lexeme) (word next : Lexeme) → IsTrue (counts word) → Wants (front ++ word ∷ []) next 12
  entry : (front : List Lexeme) (next : Lexeme) → MayFollow front (Lexeme.Sign sign.Greater) → Wants front next 12
  operator : (front : List Lexeme) (word next : Lexeme) → IsTrue (applies word) → Wants (front ++ word ∷ []) next 13
  second_operator : (front : List Lexeme) (fold : Op) (next : Lexeme) → Wants (front ++ Lexeme.Inner ∷ Lexeme.Binary fold ∷ []) next 13

-- bytes that form no token, a number out of range, or a name that is too long
abbrev pub is_no_lexeme : Lexeme → Bool
is_no_lexeme Lexeme.Malformed = true
is_no_lexeme Lexeme.OutOfRange = true
is_no_lexeme Lexeme.LongWord = true
is_no_lexeme _ = false

-- Why a lexeme is refused after a front: it is none, or something else is wanted, or an expression begins with it that stands too deep.
pub data Cause (front : List Lexeme) : Lexeme → ℕ → Type 0 where
  malformed : Cause front Lexeme.Malformed 1
  out_of_range : Cause front Lexeme.OutOfRange 2
  long_word : Cause front Lexeme.LongWord 3
  wanted : (next : Lexeme) (cause : ℕ) → is_no_lexeme next ≡ false → (MayFollow front next → ⊥) → Wants front next cause → Cause front next cause
  too_deep : (next : Lexeme) → MayFollow front next → IsTooDeep front → Cause front next 14

-- The text is refused at this position with this cause: the tokens before it, by the words of its version, are a front, and none of them is
-- refused.
pub record IsRefused (text : List ℕ) (position : Position) (cause : ℕ) : Type 0 where
  pub before : List (Token × Position)
  pub token : Token
  pub after : List (Token × Position)
  pub whole : tokens start text ≡ before ++ (token, position) ∷ after
  pub front : IsFront (lexemes_of (version_of text) before)
  pub shallow : (earlier : List Lexeme) (next : Lexeme) (later : List Lexeme) → lexemes_of (version_of text) before ≡ earlier ++ next ∷ later
      → IsTooDeep earlier → ⊥
  pub cause_is : Cause (lexemes_of (version_of text) before) (lexeme_of (version_of text) token) cause

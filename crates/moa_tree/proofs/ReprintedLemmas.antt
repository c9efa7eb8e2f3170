-- What is read can be written: its canonical text reads as the same program.
use Rattle.std.proofs.Common.{◌≡◌, ℕ, zero, suc, Bool, true, false, List, [], ◌∷◌, ◌++◌, refl, ap, ◌∙◌, subst}
use Rattle.std.specs.Prelude.{◌&&◌, ◌||◌, not, ℤ, FitsSigned, IsTrue, if◌then◌else◌}
use Rattle.std.specs.Int.{w64}
use Rattle.std.specs.Cmp.Derive.{both_true}
use Rattle.std.specs.List.{All, AllByRecursion, list_all, list_any}
use Rattle.std.specs.Str.{bytes_eq}
use Rattle.std.proofs.lemmas.List.Elements.{All-head, All-tail}
use Rattle.shapes_core.specs.Name.{is_name}
use Rattle.text_tokens.specs.declared.token.Position.{Position}
use Rattle.text_tokens.specs.declared.token.Sign.TheVariants as sign
use Rattle.text_tokens.specs.declared.token.Token.{Token}
use Rattle.text_tokens.specs.declared.token.Token.TheVariants as token
use Rattle.text_tokens.specs.Runs.{IsFit}
use Rattle.text_tokens.specs.Tokens.{start, tokens}
use Rattle.moa_tree.specs.declared.tree.Version.{Version}
use Rattle.moa_tree.specs.declared.tree.Version.TheVariants.{First}
use Rattle.moa_tree.specs.Canonical.{IsBuilt, IsSpelled, IsWritable, expr_lexemes}
use Rattle.moa_tree.specs.Expr.{Expr, Item, Tree}
use Rattle.moa_tree.specs.Readings.{Prefix, PrefixOfTwo, Reads, ReadsExpr, ReadsItem, ReadsItems, ReadsProgram, has_output, list_lexemes, number_lexemes}
use Rattle.moa_tree.specs.Vocabulary.{Lexeme, is_reserved, lexeme_of, lexemes, lexemes_of, reserved, spelling, word_among}
use Rattle.moa_tree.proofs.WantedLemmas.{both}

abbrev is_plain : Lexeme → Bool
is_plain (Lexeme.Name name) = false
is_plain (Lexeme.Number value) = false
is_plain _ = true

all_plain : (version : Version) → list_all is_plain (reserved version) ≡ true
all_plain First = refl

parts : {X : Type 0} (P : X → Type 0) (a b : List X) → AllByRecursion P (a ++ b) → AllByRecursion P a × AllByRecursion P b
parts P [] b h = (tt, h)
parts P (first ∷ others) b h = let more = parts P others b h.1 in ((h.0, more.0), more.1)

whole : {X : Type 0} (P : X → Type 0) (a b : List X) → AllByRecursion P a → AllByRecursion P b → AllByRecursion P (a ++ b)
whole P [] b h k = k
whole P (first ∷ others) b h k = (h.0, whole P others b h.1 k)

-- one level more is enough too
deeper : (levels : ℕ) (expr : Expr) → IsBuilt levels expr → IsBuilt (suc levels) expr
deeper zero expr h = absurd h
deeper (suc l) (Expr.Number value) h = tt
deeper (suc l) (Expr.Use name) h = tt
deeper (suc l) (Expr.Iota extent) h = tt
deeper (suc l) (Expr.One op of) h = deeper l of h
deeper (suc l) (Expr.Two op left right) h = (deeper l left h.0, deeper l right h.1)
deeper (suc l) (Expr.Psi list of) h = deeper l of h
deeper (suc l) (Expr.Take list of) h = deeper l of h
deeper (suc l) (Expr.Drop list of) h = deeper l of h
deeper (suc l) (Expr.Reverse of) h = deeper l of h
deeper (suc l) (Expr.Rotate by of) h = deeper l of h
deeper (suc l) (Expr.Transpose of) h = deeper l of h
deeper (suc l) (Expr.Permute list of) h = deeper l of h
deeper (suc l) (Expr.Cat left right) h = (deeper l left h.0, deeper l right h.1)
deeper (suc l) (Expr.Reshape list of) h = deeper l of h
deeper (suc l) (Expr.Ravel of) h = deeper l of h
deeper (suc l) (Expr.Outer op left right) h = (deeper l left h.0, deeper l right h.1)
deeper (suc l) (Expr.Inner f op left right) h = (h.0, deeper l left h.1, deeper l right h.2)
deeper (suc l) (Expr.Reduce f of) h = (h.0, deeper l of h.1)
deeper (suc l) (Expr.Scan f of) h = (h.0, deeper l of h.1)

module _ (version : Version) where
  -- a name is no reserved word, and a number has 64 bits
  abbrev pub IsSound : Lexeme → Type 0
  IsSound (Lexeme.Name name) = IsTrue (is_name name && not (is_reserved version name))
  IsSound (Lexeme.Number value) = FitsSigned w64 value
  IsSound _ = Unit {0}

  plain_sound : (lexeme : Lexeme) → is_plain lexeme ≡ true → IsSound lexeme
  plain_sound (Lexeme.Name name) h = absurd (cc h)
  plain_sound (Lexeme.Number value) h = absurd (cc h)
  plain_sound Lexeme.In h = tt
  plain_sound _ h = tt

  choice_sound : (test : Bool) (first other : Lexeme) → is_plain first ≡ true → (test ≡ false → IsSound other) → IsSound (if test then first else other)
  choice_sound true first other h more = plain_sound first h
  choice_sound false first other h more = more refl

  among_sound : (words : List Lexeme) → list_all is_plain words ≡ true → (word : List ℕ)
      → (list_any (λ lexeme. bytes_eq word (spelling lexeme)) words ≡ false → IsSound (Lexeme.Name word)) → IsSound (word_among words word)
  among_sound [] plain word h = h refl
  among_sound (first ∷ others) plain word h =
      let parts = both (is_plain first) (list_all is_plain others) plain in
      let rest = list_any (λ lexeme. bytes_eq word (spelling lexeme)) others in
      choice_sound (bytes_eq word (spelling first)) first (word_among others word) parts.0
      (λ e. among_sound others parts.1 word (λ none. h (ap (λ test. test || rest) e ∙ none)))

  token_sound : (t : Token) → IsFit t → IsSound (lexeme_of version t)
  token_sound (token.Word word) h = among_sound (reserved version) (all_plain version) word (λ none. both_true h (ap not none))
  token_sound (token.Number value) h = h
  token_sound token.LongWord h = tt
  token_sound token.OutOfRange h = tt
  token_sound (token.Sign s) h = tt
  token_sound token.Malformed h = tt
  token_sound token.End h = tt

  tokens_sound : (list : List (Token × Position)) → All (λ t. IsFit t.0) list → AllByRecursion IsSound (lexemes_of version list)
  tokens_sound [] h = tt
  tokens_sound (first ∷ others) h =
      (token_sound first.0 (All-head (λ t. IsFit t.0) first others h), tokens_sound others (All-tail (λ t. IsFit t.0) first others h))

  numbers_spelled : (values : List ℤ) → AllByRecursion IsSound (number_lexemes values) → AllByRecursion (IsSpelled version) (number_lexemes values)
  numbers_spelled [] h = tt
  numbers_spelled (value ∷ others) h = (h.0, numbers_spelled others h.1)

  list_spelled : (list : List ℤ) → AllByRecursion IsSound (list_lexemes list) → AllByRecursion (IsSpelled version) (list_lexemes list)
  list_spelled list h = (
    tt,
    whole (IsSpelled version) (number_lexemes list) (Lexeme.Sign sign.Greater ∷ [])
        (numbers_spelled list (parts IsSound (number_lexemes list) (Lexeme.Sign sign.Greater ∷ []) h.1).0) (tt, tt),
  )

  -- within so many levels, and each lexeme can be spelled
  abbrev pub Writes : ℕ → Expr → Type 0
  Writes levels expr = IsBuilt levels expr × AllByRecursion (IsSpelled version) (expr_lexemes expr)

  listed : (list : List ℤ) (of : Expr) → AllByRecursion IsSound (list_lexemes list) → AllByRecursion (IsSpelled version) (expr_lexemes of)
      → AllByRecursion (IsSpelled version) (list_lexemes list ++ expr_lexemes of)
  listed list of h k = whole (IsSpelled version) (list_lexemes list) (expr_lexemes of) (list_spelled list h) k

  prefix_writes : (levels : ℕ) (before : List Lexeme) (form : Expr → Expr) → Prefix before form → (of : Expr) → AllByRecursion IsSound before
      → Writes levels of → Writes (suc levels) (form of)
  prefix_writes levels before form (Prefix.unary op) of h w = (w.0, (tt, w.1))
  prefix_writes levels before form (Prefix.psi list) of h w = (w.0, (tt, listed list of h.1 w.1))
  prefix_writes levels before form (Prefix.take list) of h w = (w.0, (tt, listed list of h.1 w.1))
  prefix_writes levels before form (Prefix.drop list) of h w = (w.0, (tt, listed list of h.1 w.1))
  prefix_writes levels before form (Prefix.permute list) of h w = (w.0, (tt, listed list of h.1 w.1))
  prefix_writes levels before form (Prefix.reshape list) of h w = (w.0, (tt, listed list of h.1 w.1))
  prefix_writes levels before form Prefix.reverse of h w = (w.0, (tt, w.1))
  prefix_writes levels before form Prefix.transpose of h w = (w.0, (tt, w.1))
  prefix_writes levels before form Prefix.ravel of h w = (w.0, (tt, w.1))
  prefix_writes levels before form (Prefix.rotate by) of h w = (w.0, (tt, ((h.1).0, w.1)))
  prefix_writes levels before form (Prefix.reduce op f) of h w = ((f, w.0), (tt, (tt, w.1)))
  prefix_writes levels before form (Prefix.scan op f) of h w = ((f, w.0), (tt, (tt, w.1)))

  prefix_of_two_writes : (levels : ℕ) (before : List Lexeme) (form : Expr → Expr → Expr) → PrefixOfTwo before form → (left right : Expr)
      → Writes levels left → Writes levels right → Writes (suc levels) (form left right)
  prefix_of_two_writes levels before form (PrefixOfTwo.binary op) left right v w =
      ((v.0, w.0), (tt, whole (IsSpelled version) (expr_lexemes left) (expr_lexemes right) v.1 w.1))
  prefix_of_two_writes levels before form PrefixOfTwo.cat left right v w =
      ((v.0, w.0), (tt, whole (IsSpelled version) (expr_lexemes left) (expr_lexemes right) v.1 w.1))
  prefix_of_two_writes levels before form (PrefixOfTwo.outer op) left right v w =
      ((v.0, w.0), (tt, (tt, whole (IsSpelled version) (expr_lexemes left) (expr_lexemes right) v.1 w.1)))
  prefix_of_two_writes levels before form (PrefixOfTwo.inner f op h) left right v w =
      ((h, v.0, w.0), (tt, (tt, (tt, whole (IsSpelled version) (expr_lexemes left) (expr_lexemes right) v.1 w.1))))

  expr_writes : (levels : ℕ) (list : List Lexeme) (expr : Expr) → ReadsExpr levels list expr → AllByRecursion IsSound list → Writes levels expr
  expr_writes levels list expr (ReadsExpr.number l value) h = (tt, (h.0, tt))
  expr_writes levels list expr (ReadsExpr.name l name) h = (tt, (h.0, tt))
  expr_writes levels list expr (ReadsExpr.iota l extent) h = (tt, (tt, ((h.1).0, tt)))
  expr_writes levels list expr (ReadsExpr.parentheses l inner e reads) h =
      let inside = expr_writes l inner e reads (parts IsSound inner (Lexeme.Sign sign.Close ∷ []) h.1).0 in
      (deeper l e inside.0, inside.1)
  expr_writes levels list expr (ReadsExpr.one l before of form e head reads) h =
      let both = parts IsSound before of h in
      prefix_writes l before form head e both.0 (expr_writes l of e reads both.1)
  expr_writes levels list expr (ReadsExpr.two l before first second form left right head reads reads2) h =
      let both = parts IsSound before (first ++ second) h in
      let operands = parts IsSound first second both.1 in
      prefix_of_two_writes l before form head left right (expr_writes l first left reads operands.0) (expr_writes l second right reads2 operands.1)

  item_writes : (levels : ℕ) (list : List Lexeme) (item : Item) → ReadsItem levels list item → levels ≡ 128 → AllByRecursion IsSound list → IsWritable version item
  item_writes levels list item (ReadsItem.input l name extents) e h =
      record { built = tt; spelled = (tt, ((h.1).0, numbers_spelled extents (h.1).1)) }
  item_writes levels list item (ReadsItem.«let» l name of expr reads) e h =
      let inside = expr_writes l of expr reads ((h.1).1).1 in
      record { built = subst (λ n. IsBuilt n expr) e inside.0; spelled = (tt, ((h.1).0, (tt, inside.1))) }
  item_writes levels list item (ReadsItem.output l name of expr reads) e h =
      let inside = expr_writes l of expr reads ((h.1).1).1 in
      record { built = subst (λ n. IsBuilt n expr) e inside.0; spelled = (tt, ((h.1).0, (tt, inside.1))) }

  items_write : (levels : ℕ) (list : List Lexeme) (tree : List Item) → ReadsItems levels list tree → levels ≡ 128 → AllByRecursion IsSound list → AllByRecursion (IsWritable version) tree
  items_write levels list tree (ReadsItems.none l) e h = tt
  items_write levels list tree (ReadsItems.more l first others item items reads reads_others) e h =
      let both = parts IsSound first others h in
      (item_writes l first item reads e both.0, items_write l others items reads_others e both.1)

program_writes : (levels : ℕ) (list : List Lexeme) (tree : Tree) → ReadsProgram levels list tree → levels ≡ 128 → AllByRecursion (IsSound tree.version) list
    → AllByRecursion (IsWritable tree.version) tree.statements × IsTrue (has_output tree.statements)
program_writes levels list tree (ReadsProgram.program l statements items reads output) e h = (
  items_write items.version l statements items.statements reads e (parts (IsSound items.version) statements (Lexeme.End ∷ []) (h.1).1).0,
  output,
)

-- a program that was read can be written
pub read_writes : ((position : Position) (bytes : List ℕ) → All (λ t. IsFit t.0) (tokens position bytes))
    → (text : List ℕ) (tree : Tree) → Reads text tree → AllByRecursion (IsWritable tree.version) tree.statements × IsTrue (has_output tree.statements)
read_writes fits text tree reads =
    program_writes 128 (lexemes tree.version text) tree reads refl (tokens_sound tree.version (tokens start text) (fits start text))

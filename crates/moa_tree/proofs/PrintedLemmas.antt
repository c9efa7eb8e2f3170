-- The lexemes of a canonical text, and how they read.
use Rattle.std.proofs.Common.{◌≡◌, ℕ, zero, suc, Bool, true, false, List, [], ◌∷◌, ◌++◌, refl, sym, ap, ◌∙◌, subst, rules, append_assoc, length, codes, w64}
use Rattle.std.specs.Prelude.{◌||◌, not, ℤ, FitsSigned, IsTrue, if◌then◌else◌}
use Rattle.std.specs.Fmt.{signed_decimal}
use Rattle.std.specs.List.{AllByRecursion, flat_map, list_any}
use Rattle.std.specs.Str.{bytes_eq}
use Rattle.shapes_core.specs.Name.{IsName, is_name}
use Rattle.text_tokens.specs.declared.token.Position.{Position}
use Rattle.text_tokens.specs.declared.token.Sign.TheVariants as sign
use Rattle.text_tokens.specs.declared.token.Token.{Token}
use Rattle.text_tokens.specs.declared.token.Token.TheVariants as token
use Rattle.text_tokens.specs.Bytes.{is_run_byte, is_separator}
use Rattle.text_tokens.specs.Separators.{begins_in_run}
use Rattle.text_tokens.specs.Tokens.{along, first_token, joined_len, position_after, position_past, start, tokens, tokens_after}
use Rattle.moa_tree.specs.declared.operator.Op.{Op}
use Rattle.moa_tree.specs.declared.operator.Op.TheVariants as op
use Rattle.moa_tree.specs.declared.operator.Unary.TheVariants as unary
use Rattle.moa_tree.specs.declared.tree.Version.{Version}
use Rattle.moa_tree.specs.declared.tree.Version.TheVariants.{First}
use Rattle.moa_tree.specs.Canonical.{IsBuilt, IsBuiltItem, IsSpelled, IsWritable, canonical, expr_lexemes, item_lexemes, line}
use Rattle.moa_tree.specs.Expr.{Expr, Item, Tree}
use Rattle.moa_tree.specs.Readings.{Prefix, PrefixOfTwo, Reads, ReadsExpr, ReadsItem, ReadsItems, ReadsProgram, has_output}
use Rattle.moa_tree.specs.Vocabulary.{Lexeme, is_reserved, lexeme_of, lexemes, lexemes_of, op_word, reserved, spelling, version_number, word_among}
use Rattle.moa_tree.proofs.WantedLemmas.{both}

-- Where a text begins does not matter to its lexemes.
lexemes_append : (version : Version) (a b : List (Token × Position)) → lexemes_of version (a ++ b) ≡ lexemes_of version a ++ lexemes_of version b
lexemes_append version [] b = refl
lexemes_append version (first ∷ others) b = ap (λ list. lexeme_of version first.0 ∷ list) (lexemes_append version others b)

same_choice : (version : Version) (a b : Bool) (t u : Token) (p q : Position)
    → lexemes_of version (if a then [] else (if b then (t, p) ∷ [] else (u, p) ∷ [])) ≡ lexemes_of version (if a then [] else (if b then (t, q) ∷ [] else (u, q) ∷ []))
same_choice version true b t u p q = refl
same_choice version false true t u p q = refl
same_choice version false false t u p q = refl

first_anywhere : (version : Version) (p q : Position) (first : ℕ) (others : List ℕ) → lexemes_of version (first_token p first others) ≡ lexemes_of version (first_token q first others)
first_anywhere version p q first others = same_choice version (is_separator first) (is_run_byte first) _ _ p q

after_anywhere : (version : Version) (joined : ℕ) (bytes : List ℕ) (p q : Position) → lexemes_of version (tokens_after joined p bytes) ≡ lexemes_of version (tokens_after joined q bytes)
after_anywhere version joined [] p q = refl
after_anywhere version zero (first ∷ others) p q =
    lexemes_append version (first_token p first others) _
    ∙ ap (λ list. list ++ lexemes_of version (tokens_after (joined_len first others) (position_after p first) others)) (first_anywhere version p q first others)
    ∙ ap (λ list. lexemes_of version (first_token q first others) ++ list) (after_anywhere version (joined_len first others) others (position_after p first) (position_after q first))
    ∙ sym (lexemes_append version (first_token q first others) _)
after_anywhere version (suc joined) (first ∷ others) p q = after_anywhere version joined others (position_after p first) (position_after q first)

pub anywhere : (version : Version) (p : Position) (bytes : List ℕ) → lexemes_of version (tokens p bytes) ≡ lexemes version bytes
anywhere version p bytes =
    lexemes_append version (tokens_after 0 p bytes) ((token.End, position_past p bytes) ∷ [])
    ∙ ap (λ list. list ++ Lexeme.End ∷ []) (after_anywhere version 0 bytes p start)
    ∙ sym (lexemes_append version (tokens_after 0 start bytes) ((token.End, position_past start bytes) ∷ []))

none_chosen : (test rest : Bool) (first other named : Lexeme) → (test || rest) ≡ false → (rest ≡ false → other ≡ named) → (if test then first else other) ≡ named
none_chosen true rest first other named e more = absurd (cc e)
none_chosen false rest first other named e more = more e

not_among : (words : List Lexeme) (word : List ℕ) → list_any (λ lexeme. bytes_eq word (spelling lexeme)) words ≡ false → word_among words word ≡ Lexeme.Name word
not_among [] word h = refl
not_among (first ∷ others) word h =
    none_chosen (bytes_eq word (spelling first)) (list_any (λ lexeme. bytes_eq word (spelling lexeme)) others) first (word_among others word) (Lexeme.Name word) h
    (not_among others word)

is_false : (test : Bool) → not test ≡ true → test ≡ false
is_false false h = refl
is_false true h = absurd (cc h)

-- what stands between the version and the end
abbrev pub statement_lexemes : List Item → List Lexeme
statement_lexemes [] = []
statement_lexemes (item ∷ others) = item_lexemes item ++ statement_lexemes others

built_reads : (levels : ℕ) (expr : Expr) → IsBuilt levels expr → ReadsExpr levels (expr_lexemes expr) expr
built_reads zero expr h = absurd h
built_reads (suc l) (Expr.Number value) h = ReadsExpr.number l value
built_reads (suc l) (Expr.Use name) h = ReadsExpr.name l name
built_reads (suc l) (Expr.Iota extent) h = ReadsExpr.iota l extent
built_reads (suc l) (Expr.One op of) h = ReadsExpr.one l _ _ _ of (Prefix.unary op) (built_reads l of h)
built_reads (suc l) (Expr.Two op left right) h =
    ReadsExpr.two l _ _ _ _ left right (PrefixOfTwo.binary op) (built_reads l left h.0) (built_reads l right h.1)
built_reads (suc l) (Expr.Psi list of) h = ReadsExpr.one l _ _ _ of (Prefix.psi list) (built_reads l of h)
built_reads (suc l) (Expr.Take list of) h = ReadsExpr.one l _ _ _ of (Prefix.take list) (built_reads l of h)
built_reads (suc l) (Expr.Drop list of) h = ReadsExpr.one l _ _ _ of (Prefix.drop list) (built_reads l of h)
built_reads (suc l) (Expr.Reverse of) h = ReadsExpr.one l _ _ _ of Prefix.reverse (built_reads l of h)
built_reads (suc l) (Expr.Rotate by of) h = ReadsExpr.one l _ _ _ of (Prefix.rotate by) (built_reads l of h)
built_reads (suc l) (Expr.Transpose of) h = ReadsExpr.one l _ _ _ of Prefix.transpose (built_reads l of h)
built_reads (suc l) (Expr.Permute list of) h = ReadsExpr.one l _ _ _ of (Prefix.permute list) (built_reads l of h)
built_reads (suc l) (Expr.Cat left right) h =
    ReadsExpr.two l _ _ _ _ left right PrefixOfTwo.cat (built_reads l left h.0) (built_reads l right h.1)
built_reads (suc l) (Expr.Reshape list of) h = ReadsExpr.one l _ _ _ of (Prefix.reshape list) (built_reads l of h)
built_reads (suc l) (Expr.Ravel of) h = ReadsExpr.one l _ _ _ of Prefix.ravel (built_reads l of h)
built_reads (suc l) (Expr.Outer op left right) h =
    ReadsExpr.two l _ _ _ _ left right (PrefixOfTwo.outer op) (built_reads l left h.0) (built_reads l right h.1)
built_reads (suc l) (Expr.Inner f op left right) h =
    ReadsExpr.two l _ _ _ _ left right (PrefixOfTwo.inner f op h.0) (built_reads l left h.1) (built_reads l right h.2)
built_reads (suc l) (Expr.Reduce f of) h = ReadsExpr.one l _ _ _ of (Prefix.reduce f h.0) (built_reads l of h.1)
built_reads (suc l) (Expr.Scan f of) h = ReadsExpr.one l _ _ _ of (Prefix.scan f h.0) (built_reads l of h.1)

item_reads : (item : Item) → IsBuiltItem item → ReadsItem 128 (item_lexemes item) item
item_reads (Item.Input name extents) h = ReadsItem.input 128 name extents
item_reads (Item.Let name of) h = ReadsItem.«let» 128 name (expr_lexemes of) of (built_reads 128 of h)
item_reads (Item.Output name of) h = ReadsItem.output 128 name (expr_lexemes of) of (built_reads 128 of h)

writable_reads : (version : Version) (items : List Item) → AllByRecursion (IsWritable version) items → ReadsItems 128 (statement_lexemes items) items
writable_reads version [] h = ReadsItems.none 128
writable_reads version (item ∷ others) h =
    ReadsItems.more 128 (item_lexemes item) (statement_lexemes others) item others (item_reads item (h.0).built) (writable_reads version others h.1)

abbrev pub NumberLaw : Type 0
NumberLaw = (position : Position) (z : ℤ) (rest : List ℕ) → FitsSigned w64 z → begins_in_run rest ≡ false
    → tokens position (signed_decimal z ++ rest) ≡ (token.Number z, position) ∷ tokens (along position (length (signed_decimal z))) rest

abbrev pub NameLaw : Type 0
NameLaw = (position : Position) (name rest : List ℕ) → IsName name → begins_in_run rest ≡ false
    → tokens position (name ++ rest) ≡ (token.Word name, position) ∷ tokens (along position (length name)) rest

module _ (version : Version) (number_law : NumberLaw) (name_law : NameLaw) where
  word_first : (word rest : List ℕ) → IsName word → begins_in_run rest ≡ false → lexemes version (word ++ rest) ≡ word_among (reserved version) word ∷ lexemes version rest
  word_first word rest h ends =
      ap (lexemes_of version) (name_law start word rest h ends) ∙ ap (λ list. word_among (reserved version) word ∷ list) (anywhere version (along start (length word)) rest)

  number_first : (z : ℤ) (rest : List ℕ) → FitsSigned w64 z → begins_in_run rest ≡ false → lexemes version (signed_decimal z ++ rest) ≡ Lexeme.Number z ∷ lexemes version rest
  number_first z rest h ends =
      ap (lexemes_of version) (number_law start z rest h ends) ∙ ap (λ list. Lexeme.Number z ∷ list) (anywhere version (along start (length (signed_decimal z))) rest)

  op_first : (op : Op) (rest : List ℕ) → begins_in_run rest ≡ false → lexemes version (op_word op ++ rest) ≡ Lexeme.Binary op ∷ lexemes version rest
  op_first op.Add rest ends = word_first (codes "add") rest refl ends
  op_first op.Sub rest ends = word_first (codes "sub") rest refl ends
  op_first op.Mul rest ends = word_first (codes "mul") rest refl ends
  op_first op.Quot rest ends = word_first (codes "quot") rest refl ends
  op_first op.Rem rest ends = word_first (codes "rem") rest refl ends
  op_first op.Min rest ends = word_first (codes "min") rest refl ends
  op_first op.Max rest ends = word_first (codes "max") rest refl ends
  op_first op.Eq rest ends = word_first (codes "eq") rest refl ends
  op_first op.Ne rest ends = word_first (codes "ne") rest refl ends
  op_first op.Lt rest ends = word_first (codes "lt") rest refl ends
  op_first op.Le rest ends = word_first (codes "le") rest refl ends
  op_first op.And rest ends = word_first (codes "and") rest refl ends
  op_first op.Or rest ends = word_first (codes "or") rest refl ends
  op_first op.Xor rest ends = word_first (codes "xor") rest refl ends

  -- no run goes on from a spelling into what follows it
  spelled_first : (lexeme : Lexeme) (rest : List ℕ) → IsSpelled version lexeme → begins_in_run rest ≡ false → lexemes version (spelling lexeme ++ rest) ≡ lexeme ∷ lexemes version rest
  spelled_first Lexeme.In rest h ends = word_first (codes "in") rest refl ends
  spelled_first Lexeme.Let rest h ends = word_first (codes "let") rest refl ends
  spelled_first Lexeme.Out rest h ends = word_first (codes "out") rest refl ends
  spelled_first Lexeme.Psi rest h ends = word_first (codes "psi") rest refl ends
  spelled_first Lexeme.Take rest h ends = word_first (codes "take") rest refl ends
  spelled_first Lexeme.Drop rest h ends = word_first (codes "drop") rest refl ends
  spelled_first Lexeme.Permute rest h ends = word_first (codes "permute") rest refl ends
  spelled_first Lexeme.Reshape rest h ends = word_first (codes "reshape") rest refl ends
  spelled_first Lexeme.Reverse rest h ends = word_first (codes "reverse") rest refl ends
  spelled_first Lexeme.Transpose rest h ends = word_first (codes "transpose") rest refl ends
  spelled_first Lexeme.Ravel rest h ends = word_first (codes "ravel") rest refl ends
  spelled_first Lexeme.Iota rest h ends = word_first (codes "iota") rest refl ends
  spelled_first Lexeme.Rotate rest h ends = word_first (codes "rotate") rest refl ends
  spelled_first Lexeme.Cat rest h ends = word_first (codes "cat") rest refl ends
  spelled_first Lexeme.Outer rest h ends = word_first (codes "outer") rest refl ends
  spelled_first Lexeme.Inner rest h ends = word_first (codes "inner") rest refl ends
  spelled_first Lexeme.Reduce rest h ends = word_first (codes "reduce") rest refl ends
  spelled_first Lexeme.Scan rest h ends = word_first (codes "scan") rest refl ends
  spelled_first (Lexeme.Unary unary.Neg) rest h ends = word_first (codes "neg") rest refl ends
  spelled_first (Lexeme.Unary unary.Not) rest h ends = word_first (codes "not") rest refl ends
  spelled_first (Lexeme.Unary unary.Abs) rest h ends = word_first (codes "abs") rest refl ends
  spelled_first (Lexeme.Binary op) rest h ends = op_first op rest ends
  spelled_first (Lexeme.Name name) rest h ends =
      let parts = both (is_name name) (not (is_reserved version name)) h in
      word_first name rest parts.0 ends ∙ ap (λ lexeme. lexeme ∷ lexemes version rest) (not_among (reserved version) name (is_false (is_reserved version name) parts.1))
  spelled_first (Lexeme.Number value) rest h ends = number_first value rest h ends
  spelled_first (Lexeme.Sign sign.Less) rest h ends = ap (λ list. Lexeme.Sign sign.Less ∷ list) (anywhere version (position_after start 60) rest)
  spelled_first (Lexeme.Sign sign.Greater) rest h ends = ap (λ list. Lexeme.Sign sign.Greater ∷ list) (anywhere version (position_after start 62) rest)
  spelled_first (Lexeme.Sign sign.Open) rest h ends = ap (λ list. Lexeme.Sign sign.Open ∷ list) (anywhere version (position_after start 40) rest)
  spelled_first (Lexeme.Sign sign.Close) rest h ends = ap (λ list. Lexeme.Sign sign.Close ∷ list) (anywhere version (position_after start 41) rest)
  spelled_first (Lexeme.Sign sign.Equal) rest h ends = ap (λ list. Lexeme.Sign sign.Equal ∷ list) (anywhere version (position_after start 61) rest)
  spelled_first Lexeme.Malformed rest h ends = absurd h
  spelled_first Lexeme.OutOfRange rest h ends = absurd h
  spelled_first Lexeme.LongWord rest h ends = absurd h
  spelled_first Lexeme.End rest h ends = absurd h

  greater_line : (others : List Lexeme) (rest : List ℕ) → begins_in_run (line (Lexeme.Sign sign.Greater ∷ others) ++ rest) ≡ false
  greater_line [] rest = refl
  greater_line (second ∷ others) rest = refl

  gap_first : (first second : Lexeme) (others : List Lexeme) (rest : List ℕ) → IsSpelled version first
      → lexemes version (line (first ∷ second ∷ others) ++ rest) ≡ first ∷ lexemes version (line (second ∷ others) ++ rest)
  gap_first (Lexeme.Sign sign.Less) second others rest h =
      ap (λ list. Lexeme.Sign sign.Less ∷ list) (anywhere version (position_after start 60) (line (second ∷ others) ++ rest))
  gap_first first (Lexeme.Sign sign.Greater) others rest h =
      ap (lexemes version) (append_assoc (spelling first) (line (Lexeme.Sign sign.Greater ∷ others)) rest)
      ∙ spelled_first first (line (Lexeme.Sign sign.Greater ∷ others) ++ rest) h (greater_line others rest)
  gap_first first second others rest h =
      ap (lexemes version) (append_assoc (spelling first) (32 ∷ line (second ∷ others)) rest)
      ∙ spelled_first first (32 ∷ (line (second ∷ others) ++ rest)) h refl
      ∙ ap (λ list. first ∷ list) (anywhere version (position_after start 32) (line (second ∷ others) ++ rest))

  line_lexemes : (list : List Lexeme) → AllByRecursion (IsSpelled version) list → (rest : List ℕ) → lexemes version (line list ++ rest) ≡ list ++ lexemes version rest
  line_lexemes [] h rest = anywhere version (position_after start 10) rest
  line_lexemes (last ∷ []) h rest =
      ap (lexemes version) (append_assoc (spelling last) (10 ∷ []) rest) ∙ spelled_first last (10 ∷ rest) h.0 refl
      ∙ ap (λ list. last ∷ list) (anywhere version (position_after start 10) rest)
  line_lexemes (first ∷ second ∷ others) h rest =
      gap_first first second others rest h.0 ∙ ap (λ list. first ∷ list) (line_lexemes (second ∷ others) h.1 rest)

  lines_lexemes : (items : List Item) → AllByRecursion (IsWritable version) items
      → lexemes version (flat_map (λ item. line (item_lexemes item)) items) ≡ statement_lexemes items ++ Lexeme.End ∷ []
  lines_lexemes [] h = refl
  lines_lexemes (item ∷ others) h =
      line_lexemes (item_lexemes item) (h.0).spelled (flat_map (λ item. line (item_lexemes item)) others)
      ∙ ap (λ list. item_lexemes item ++ list) (lines_lexemes others h.1)
      ∙ sym (append_assoc (item_lexemes item) (statement_lexemes others) (Lexeme.End ∷ []))

number_fits : (version : Version) → FitsSigned w64 (version_number version)
number_fits First = search rules

canonical_lexemes : NumberLaw → NameLaw → (tree : Tree) → AllByRecursion (IsWritable tree.version) tree.statements
    → lexemes tree.version (canonical tree) ≡ Lexeme.Psi ∷ Lexeme.Number (version_number tree.version) ∷ (statement_lexemes tree.statements ++ Lexeme.End ∷ [])
canonical_lexemes number_law name_law tree h =
    let head = Lexeme.Psi ∷ Lexeme.Number (version_number tree.version) ∷ [] in
    line_lexemes tree.version number_law name_law head (tt, (number_fits tree.version, tt)) (flat_map (λ item. line (item_lexemes item)) tree.statements)
    ∙ ap (λ list. head ++ list) (lines_lexemes tree.version number_law name_law tree.statements h)

-- the canonical text reads as its program
pub canonical_reads : NumberLaw → NameLaw → (tree : Tree) → AllByRecursion (IsWritable tree.version) tree.statements → IsTrue (has_output tree.statements)
    → Reads (canonical tree) tree
canonical_reads number_law name_law tree h output =
    subst (λ list. ReadsProgram 128 list tree) (sym (canonical_lexemes number_law name_law tree h))
    (ReadsProgram.program 128 (statement_lexemes tree.statements) tree (writable_reads tree.version tree.statements h) output)

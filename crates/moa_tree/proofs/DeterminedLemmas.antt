-- Lexemes that have a reading are read as the tree that is found in them.
use Rattle.std.proofs.Common.{◌≡◌, ℕ, suc, Bool, true, false, List, [], ◌∷◌, ◌++◌, refl, ap, ◌∙◌, append_assoc}
use Rattle.std.specs.Prelude.{ℤ}
use Rattle.std.specs.declared.option.Option.TheVariants.{Some}
use Rattle.text_tokens.specs.declared.token.Sign.TheVariants as sign
use Rattle.moa_tree.specs.Expr.{Expr, Item, Tree}
use Rattle.moa_tree.specs.Readings.{Prefix, PrefixOfTwo, ReadsExpr, ReadsItem, ReadsItems, ReadsProgram, number_lexemes}
use Rattle.moa_tree.specs.Trees.{and_then, close_at, entries_at, expr_at, extents_at, item_at, one_at, statement, statements_in, two_at}
use Rattle.moa_tree.specs.Vocabulary.{Lexeme}
use Rattle.moa_tree.proofs.WantedLemmas.{ends_items}

entries_found : (list : List ℤ) (rest : List Lexeme) → entries_at ((number_lexemes list ++ Lexeme.Sign sign.Greater ∷ []) ++ rest) ≡ Some (list, rest)
entries_found [] rest = refl
entries_found (value ∷ others) rest = ap (λ found. and_then found (λ list behind. Some (value ∷ list, behind))) (entries_found others rest)

prefix_found : (levels : ℕ) (before : List Lexeme) (form : Expr → Expr) → Prefix before form → (rest : List Lexeme)
    → expr_at (suc levels) (before ++ rest) ≡ one_at (expr_at levels) form rest
prefix_found levels before form (Prefix.unary op) rest = refl
prefix_found levels before form (Prefix.psi list) rest = ap (λ found. and_then found (λ l behind. one_at (expr_at levels) (Expr.Psi l) behind)) (entries_found list rest)
prefix_found levels before form (Prefix.take list) rest = ap (λ found. and_then found (λ l behind. one_at (expr_at levels) (Expr.Take l) behind)) (entries_found list rest)
prefix_found levels before form (Prefix.drop list) rest = ap (λ found. and_then found (λ l behind. one_at (expr_at levels) (Expr.Drop l) behind)) (entries_found list rest)
prefix_found levels before form (Prefix.permute list) rest = ap (λ found. and_then found (λ l behind. one_at (expr_at levels) (Expr.Permute l) behind)) (entries_found list rest)
prefix_found levels before form (Prefix.reshape list) rest = ap (λ found. and_then found (λ l behind. one_at (expr_at levels) (Expr.Reshape l) behind)) (entries_found list rest)
prefix_found levels before form Prefix.reverse rest = refl
prefix_found levels before form Prefix.transpose rest = refl
prefix_found levels before form Prefix.ravel rest = refl
prefix_found levels before form (Prefix.rotate by) rest = refl
prefix_found levels before form (Prefix.reduce op h) rest = refl
prefix_found levels before form (Prefix.scan op h) rest = refl

prefix_of_two_found : (levels : ℕ) (before : List Lexeme) (form : Expr → Expr → Expr) → PrefixOfTwo before form → (rest : List Lexeme)
    → expr_at (suc levels) (before ++ rest) ≡ two_at (expr_at levels) form rest
prefix_of_two_found levels before form (PrefixOfTwo.binary op) rest = refl
prefix_of_two_found levels before form PrefixOfTwo.cat rest = refl
prefix_of_two_found levels before form (PrefixOfTwo.outer op) rest = refl
prefix_of_two_found levels before form (PrefixOfTwo.inner f op h) rest = refl

pub expr_found : (levels : ℕ) (lexemes : List Lexeme) (expr : Expr) → ReadsExpr levels lexemes expr
    → (rest : List Lexeme) → expr_at levels (lexemes ++ rest) ≡ Some (expr, rest)
expr_found levels lexemes expr (ReadsExpr.number l value) rest = refl
expr_found levels lexemes expr (ReadsExpr.name l word) rest = refl
expr_found levels lexemes expr (ReadsExpr.iota l extent) rest = refl
expr_found levels lexemes expr (ReadsExpr.parentheses l inner e reads) rest =
    ap (λ found. and_then found close_at)
    (ap (expr_at l) (append_assoc inner (Lexeme.Sign sign.Close ∷ []) rest) ∙ expr_found l inner e reads (Lexeme.Sign sign.Close ∷ rest))
expr_found levels lexemes expr (ReadsExpr.one l before of form e head reads) rest =
    ap (expr_at (suc l)) (append_assoc before of rest) ∙ prefix_found l before form head (of ++ rest)
    ∙ ap (λ found. and_then found (λ operand behind. Some (form operand, behind))) (expr_found l of e reads rest)
expr_found levels lexemes expr (ReadsExpr.two l before first second form left right head reads reads2) rest =
    ap (expr_at (suc l)) (append_assoc before (first ++ second) rest ∙ ap (λ list. before ++ list) (append_assoc first second rest))
    ∙ prefix_of_two_found l before form head (first ++ (second ++ rest))
    ∙ ap (λ found. and_then found (λ operand behind. one_at (expr_at l) (form operand) behind)) (expr_found l first left reads (second ++ rest))
    ∙ ap (λ found. and_then found (λ operand behind. Some (form left operand, behind))) (expr_found l second right reads2 rest)

-- no number stands in front
abbrev pub begins_ended : List Lexeme → Bool
begins_ended [] = false
begins_ended (first ∷ others) = ends_items first

no_extent : (rest : List Lexeme) → begins_ended rest ≡ true → extents_at rest ≡ ([], rest)
no_extent [] h = absurd (cc h)
no_extent (Lexeme.Number value ∷ others) h = absurd (cc h)
no_extent (_ ∷ others) h = refl

extents_found : (extents : List ℤ) (rest : List Lexeme) → begins_ended rest ≡ true → extents_at (number_lexemes extents ++ rest) ≡ (extents, rest)
extents_found [] rest h = no_extent rest h
extents_found (value ∷ others) rest h = ap (λ found. (value ∷ found.0, found.1)) (extents_found others rest h)

item_found : (levels : ℕ) (lexemes : List Lexeme) (item : Item) → ReadsItem levels lexemes item
    → (rest : List Lexeme) → begins_ended rest ≡ true → item_at levels (lexemes ++ rest) ≡ Some (item, rest)
item_found levels lexemes item (ReadsItem.input l name extents) rest h =
    ap (λ found. Some (Item.Input name found.0, found.1)) (extents_found extents rest h)
item_found levels lexemes item (ReadsItem.«let» l name of e reads) rest h =
    ap (λ found. and_then found (λ expr left. Some (Item.Let name expr, left))) (expr_found l of e reads rest)
item_found levels lexemes item (ReadsItem.output l name of e reads) rest h =
    ap (λ found. and_then found (λ expr left. Some (Item.Output name expr, left))) (expr_found l of e reads rest)

items_end : (levels : ℕ) (lexemes : List Lexeme) (tree : List Item) → ReadsItems levels lexemes tree → begins_ended (lexemes ++ Lexeme.End ∷ []) ≡ true
items_end levels lexemes tree (ReadsItems.none l) = refl
items_end levels lexemes tree (ReadsItems.more l first others item items (ReadsItem.input k name extents) reads) = refl
items_end levels lexemes tree (ReadsItems.more l first others item items (ReadsItem.«let» k name of e reads_e) reads) = refl
items_end levels lexemes tree (ReadsItems.more l first others item items (ReadsItem.output k name of e reads_e) reads) = refl

-- no statement begins within a list, or in what stands before an operand, or in an expression
numbers_skipped : (levels : ℕ) (values : List ℤ) (rest : List Lexeme) → statements_in levels (number_lexemes values ++ rest) ≡ statements_in levels rest
numbers_skipped levels [] rest = refl
numbers_skipped levels (value ∷ others) rest = numbers_skipped levels others rest

entries_skipped : (levels : ℕ) (values : List ℤ) (rest : List Lexeme)
    → statements_in levels ((number_lexemes values ++ Lexeme.Sign sign.Greater ∷ []) ++ rest) ≡ statements_in levels rest
entries_skipped levels values rest =
    ap (statements_in levels) (append_assoc (number_lexemes values) (Lexeme.Sign sign.Greater ∷ []) rest)
    ∙ numbers_skipped levels values (Lexeme.Sign sign.Greater ∷ rest)

prefix_skipped : (levels : ℕ) (before : List Lexeme) (form : Expr → Expr) → Prefix before form → (rest : List Lexeme)
    → statements_in levels (before ++ rest) ≡ statements_in levels rest
prefix_skipped levels before form (Prefix.psi list) rest = entries_skipped levels list rest
prefix_skipped levels before form (Prefix.take list) rest = entries_skipped levels list rest
prefix_skipped levels before form (Prefix.drop list) rest = entries_skipped levels list rest
prefix_skipped levels before form (Prefix.permute list) rest = entries_skipped levels list rest
prefix_skipped levels before form (Prefix.reshape list) rest = entries_skipped levels list rest
prefix_skipped levels before form _ rest = refl

prefix_of_two_skipped : (levels : ℕ) (before : List Lexeme) (form : Expr → Expr → Expr) → PrefixOfTwo before form → (rest : List Lexeme)
    → statements_in levels (before ++ rest) ≡ statements_in levels rest
prefix_of_two_skipped levels before form (PrefixOfTwo.binary op) rest = refl
prefix_of_two_skipped levels before form _ rest = refl

expr_skipped : (levels k : ℕ) (lexemes : List Lexeme) (expr : Expr) → ReadsExpr k lexemes expr → (rest : List Lexeme)
    → statements_in levels (lexemes ++ rest) ≡ statements_in levels rest
expr_skipped levels k lexemes expr (ReadsExpr.number l value) rest = refl
expr_skipped levels k lexemes expr (ReadsExpr.name l word) rest = refl
expr_skipped levels k lexemes expr (ReadsExpr.iota l extent) rest = refl
expr_skipped levels k lexemes expr (ReadsExpr.parentheses l inner e reads) rest =
    ap (statements_in levels) (append_assoc inner (Lexeme.Sign sign.Close ∷ []) rest) ∙ expr_skipped levels l inner e reads (Lexeme.Sign sign.Close ∷ rest)
expr_skipped levels k lexemes expr (ReadsExpr.one l before of form e head reads) rest =
    ap (statements_in levels) (append_assoc before of rest) ∙ prefix_skipped levels before form head (of ++ rest) ∙ expr_skipped levels l of e reads rest
expr_skipped levels k lexemes expr (ReadsExpr.two l before first second form left right head reads reads2) rest =
    ap (statements_in levels) (append_assoc before (first ++ second) rest ∙ ap (λ list. before ++ list) (append_assoc first second rest))
    ∙ prefix_of_two_skipped levels before form head (first ++ (second ++ rest))
    ∙ expr_skipped levels l first left reads (second ++ rest) ∙ expr_skipped levels l second right reads2 rest

tree_item : (levels : ℕ) (lexemes : List Lexeme) (item : Item) → ReadsItem levels lexemes item → (rest : List Lexeme) → begins_ended rest ≡ true
    → statements_in levels (lexemes ++ rest) ≡ item ∷ statements_in levels rest
tree_item levels lexemes item (ReadsItem.input l name extents) rest h =
    ap (λ found. statement found ++ statements_in l (number_lexemes extents ++ rest)) (item_found l _ _ (ReadsItem.input l name extents) rest h)
    ∙ ap (λ tree. Item.Input name extents ∷ tree) (numbers_skipped l extents rest)
tree_item levels lexemes item (ReadsItem.«let» l name of e reads) rest h =
    ap (λ found. statement found ++ statements_in l (of ++ rest)) (item_found l _ _ (ReadsItem.«let» l name of e reads) rest h)
    ∙ ap (λ tree. Item.Let name e ∷ tree) (expr_skipped l l of e reads rest)
tree_item levels lexemes item (ReadsItem.output l name of e reads) rest h =
    ap (λ found. statement found ++ statements_in l (of ++ rest)) (item_found l _ _ (ReadsItem.output l name of e reads) rest h)
    ∙ ap (λ tree. Item.Output name e ∷ tree) (expr_skipped l l of e reads rest)

tree_items : (levels : ℕ) (lexemes : List Lexeme) (tree : List Item) → ReadsItems levels lexemes tree → statements_in levels (lexemes ++ Lexeme.End ∷ []) ≡ tree
tree_items levels lexemes tree (ReadsItems.none l) = refl
tree_items levels lexemes tree (ReadsItems.more l first others item items reads reads_others) =
    ap (statements_in l) (append_assoc first others (Lexeme.End ∷ []))
    ∙ tree_item l first item reads (others ++ Lexeme.End ∷ []) (items_end l others items reads_others)
    ∙ ap (λ tree. item ∷ tree) (tree_items l others items reads_others)

pub tree_found : (levels : ℕ) (lexemes : List Lexeme) (tree : Tree) → ReadsProgram levels lexemes tree → statements_in levels lexemes ≡ tree.statements
tree_found levels lexemes tree (ReadsProgram.program l statements items reads h) = tree_items l statements items.statements reads

-- In a reading of so many levels no expression begins deeper than these.
use Rattle.std.proofs.Common.{◌≡◌, ℕ, suc, ◌+◌, ◌≤◌, ◌<◌, Bool, true, false, List, [], ◌∷◌, ◌++◌, refl, ap, ◌∙◌, append_assoc, arith}
use Rattle.std.specs.Prelude.{◌&&◌, not, ◌==◌, ℤ}
use Rattle.std.proofs.lemmas.Bool.Decides.{nat_tests}
use Rattle.text_tokens.specs.declared.token.Sign.TheVariants as sign
use Rattle.moa_tree.specs.Expr.{Expr, Item, Tree}
use Rattle.moa_tree.specs.Readings.{Prefix, PrefixOfTwo, ReadsExpr, ReadsItem, ReadsItems, ReadsProgram, number_lexemes}
use Rattle.moa_tree.specs.Vocabulary.{Lexeme, is_fold, lexemes}
use Rattle.moa_tree.proofs.WantedLemmas.{Want, at_start, chosen, ends_items, is_shallow, seen_after, shallow_version, stuck}

passes : (depth : ℕ) → depth < 129 → not (depth == 129) ≡ true
passes depth h = grind (arith, nat_tests)

pass : (depth : ℕ) (more : Bool) → depth < 129 → (not (depth == 129) && more) ≡ more
pass depth more h = ap (λ test. test && more) (passes depth h)

level_entries : (list : List ℤ) (wants : List Want) (rest : List Lexeme)
    → is_shallow (Want.Entries ∷ wants) ((number_lexemes list ++ Lexeme.Sign sign.Greater ∷ []) ++ rest) ≡ is_shallow wants rest
level_entries [] wants rest = refl
level_entries (value ∷ others) wants rest = level_entries others wants rest

pub level_extents : (list : List ℤ) (seen : Bool) (wants : List Want) (rest : List Lexeme)
    → is_shallow (Want.Extents seen ∷ wants) (number_lexemes list ++ rest) ≡ is_shallow (Want.Extents seen ∷ wants) rest
level_extents [] seen wants rest = refl
level_extents (value ∷ others) seen wants rest = level_extents others seen wants rest

pub level_prefix : (before : List Lexeme) (form : Expr → Expr) → Prefix before form → (depth : ℕ) → depth < 129 → (wants : List Want) (rest : List Lexeme)
    → is_shallow (Want.AnExpr depth ∷ wants) (before ++ rest) ≡ is_shallow (Want.AnExpr (suc depth) ∷ wants) rest
level_prefix before form (Prefix.unary op) depth h wants rest = pass depth _ h
level_prefix before form (Prefix.psi list) depth h wants rest = pass depth _ h ∙ level_entries list (Want.AnExpr (suc depth) ∷ wants) rest
level_prefix before form (Prefix.take list) depth h wants rest = pass depth _ h ∙ level_entries list (Want.AnExpr (suc depth) ∷ wants) rest
level_prefix before form (Prefix.drop list) depth h wants rest = pass depth _ h ∙ level_entries list (Want.AnExpr (suc depth) ∷ wants) rest
level_prefix before form (Prefix.permute list) depth h wants rest = pass depth _ h ∙ level_entries list (Want.AnExpr (suc depth) ∷ wants) rest
level_prefix before form (Prefix.reshape list) depth h wants rest = pass depth _ h ∙ level_entries list (Want.AnExpr (suc depth) ∷ wants) rest
level_prefix before form Prefix.reverse depth h wants rest = pass depth _ h
level_prefix before form Prefix.transpose depth h wants rest = pass depth _ h
level_prefix before form Prefix.ravel depth h wants rest = pass depth _ h
level_prefix before form (Prefix.rotate by) depth h wants rest = pass depth _ h
level_prefix before form (Prefix.reduce op f) depth h wants rest =
    pass depth _ h ∙ ap (λ list. is_shallow list rest) (chosen (is_fold op) (Want.AnExpr (suc depth) ∷ wants) stuck f)
level_prefix before form (Prefix.scan op f) depth h wants rest =
    pass depth _ h ∙ ap (λ list. is_shallow list rest) (chosen (is_fold op) (Want.AnExpr (suc depth) ∷ wants) stuck f)

pub level_prefix_of_two : (before : List Lexeme) (form : Expr → Expr → Expr) → PrefixOfTwo before form
    → (depth : ℕ) → depth < 129 → (wants : List Want) (rest : List Lexeme)
    → is_shallow (Want.AnExpr depth ∷ wants) (before ++ rest) ≡ is_shallow (Want.AnExpr (suc depth) ∷ Want.AnExpr (suc depth) ∷ wants) rest
level_prefix_of_two before form (PrefixOfTwo.binary op) depth h wants rest = pass depth _ h
level_prefix_of_two before form PrefixOfTwo.cat depth h wants rest = pass depth _ h
level_prefix_of_two before form (PrefixOfTwo.outer op) depth h wants rest = pass depth _ h
level_prefix_of_two before form (PrefixOfTwo.inner f op fold) depth h wants rest =
    pass depth _ h
    ∙ ap (λ list. is_shallow list (Lexeme.Binary op ∷ rest)) (chosen (is_fold f) (Want.AnOp ∷ Want.AnExpr (suc depth) ∷ Want.AnExpr (suc depth) ∷ wants) stuck fold)

pub level_expr : (levels : ℕ) (lexemes : List Lexeme) (expr : Expr) → ReadsExpr levels lexemes expr
    → (depth : ℕ) → depth + levels ≤ 129 → (wants : List Want) (rest : List Lexeme)
    → is_shallow (Want.AnExpr depth ∷ wants) (lexemes ++ rest) ≡ is_shallow wants rest
level_expr levels lexemes expr (ReadsExpr.number l value) depth h wants rest = pass depth _ (omega arith)
level_expr levels lexemes expr (ReadsExpr.name l word) depth h wants rest = pass depth _ (omega arith)
level_expr levels lexemes expr (ReadsExpr.iota l extent) depth h wants rest = pass depth _ (omega arith)
level_expr levels lexemes expr (ReadsExpr.parentheses l inner e reads) depth h wants rest =
    pass depth _ (omega arith)
    ∙ ap (is_shallow (Want.AnExpr (suc depth) ∷ Want.AClose ∷ wants)) (append_assoc inner (Lexeme.Sign sign.Close ∷ []) rest)
    ∙ level_expr l inner e reads (suc depth) (omega arith) (Want.AClose ∷ wants) (Lexeme.Sign sign.Close ∷ rest)
level_expr levels lexemes expr (ReadsExpr.one l before of form e head reads) depth h wants rest =
    ap (is_shallow (Want.AnExpr depth ∷ wants)) (append_assoc before of rest)
    ∙ level_prefix before form head depth (omega arith) wants (of ++ rest)
    ∙ level_expr l of e reads (suc depth) (omega arith) wants rest
level_expr levels lexemes expr (ReadsExpr.two l before first second form left right head reads reads2) depth h wants rest =
    ap (is_shallow (Want.AnExpr depth ∷ wants)) (append_assoc before (first ++ second) rest ∙ ap (λ list. before ++ list) (append_assoc first second rest))
    ∙ level_prefix_of_two before form head depth (omega arith) wants (first ++ (second ++ rest))
    ∙ level_expr l first left reads (suc depth) (omega arith) (Want.AnExpr (suc depth) ∷ wants) (second ++ rest)
    ∙ level_expr l second right reads2 (suc depth) (omega arith) wants rest

level_end : (last : Lexeme) → ends_items last ≡ true → (seen : Bool) (wants : List Want) (rest : List Lexeme)
    → is_shallow (Want.Extents seen ∷ wants) (last ∷ rest) ≡ is_shallow (Want.Items seen ∷ wants) (last ∷ rest)
level_end (Lexeme.Number value) h seen wants rest = absurd (cc h)
level_end _ h seen wants rest = refl

pub level_extents_items : (levels : ℕ) (lexemes : List Lexeme) (tree : List Item) → ReadsItems levels lexemes tree
    → (last : Lexeme) → ends_items last ≡ true → (seen : Bool) (wants : List Want) (rest : List Lexeme)
    → is_shallow (Want.Extents seen ∷ wants) (lexemes ++ last ∷ rest) ≡ is_shallow (Want.Items seen ∷ wants) (lexemes ++ last ∷ rest)
level_extents_items levels lexemes tree (ReadsItems.none l) last h seen wants rest = level_end last h seen wants rest
level_extents_items levels lexemes tree (ReadsItems.more l first others item items (ReadsItem.input k name extents) reads) last h seen wants rest = refl
level_extents_items levels lexemes tree (ReadsItems.more l first others item items (ReadsItem.«let» k name of e reads_e) reads) last h seen wants rest = refl
level_extents_items levels lexemes tree (ReadsItems.more l first others item items (ReadsItem.output k name of e reads_e) reads) last h seen wants rest = refl

level_items : (levels : ℕ) (lexemes : List Lexeme) (tree : List Item) → ReadsItems levels lexemes tree → levels ≤ 128
    → (last : Lexeme) → ends_items last ≡ true → (seen : Bool) (wants : List Want) (rest : List Lexeme)
    → is_shallow (Want.Items seen ∷ wants) (lexemes ++ last ∷ rest) ≡ is_shallow (Want.Items (seen_after seen tree) ∷ wants) (last ∷ rest)
level_items levels lexemes tree (ReadsItems.none l) within last h seen wants rest = refl
level_items levels lexemes tree (ReadsItems.more l first others item items (ReadsItem.input k name extents) reads) within last h seen wants rest =
    ap (is_shallow (Want.Extents seen ∷ wants)) (append_assoc (number_lexemes extents) others (last ∷ rest))
    ∙ level_extents extents seen wants (others ++ last ∷ rest)
    ∙ level_extents_items l others items reads last h seen wants rest
    ∙ level_items l others items reads within last h seen wants rest
level_items levels lexemes tree (ReadsItems.more l first others item items (ReadsItem.«let» k name of e reads_e) reads) within last h seen wants rest =
    ap (is_shallow (Want.AnExpr 1 ∷ Want.Items seen ∷ wants)) (append_assoc of others (last ∷ rest))
    ∙ level_expr l of e reads_e 1 (omega arith) (Want.Items seen ∷ wants) (others ++ last ∷ rest)
    ∙ level_items l others items reads within last h seen wants rest
level_items levels lexemes tree (ReadsItems.more l first others item items (ReadsItem.output k name of e reads_e) reads) within last h seen wants rest =
    ap (is_shallow (Want.AnExpr 1 ∷ Want.Items true ∷ wants)) (append_assoc of others (last ∷ rest))
    ∙ level_expr l of e reads_e 1 (omega arith) (Want.Items true ∷ wants) (others ++ last ∷ rest)
    ∙ level_items l others items reads within last h true wants rest

pub level_program : (levels : ℕ) (lexemes : List Lexeme) (tree : Tree) → ReadsProgram levels lexemes tree → levels ≤ 128 → is_shallow at_start lexemes ≡ true
level_program levels lexemes tree (ReadsProgram.program l statements items reads h) within =
    shallow_version items.version (statements ++ Lexeme.End ∷ [])
    ∙ level_items l statements items.statements reads within Lexeme.End refl false [] []

-- Each text of the grammar leaves nothing wanted, so what gets stuck begins no text; and no expression is deeper than its want says.
use Rattle.std.proofs.Common.{◌≡◌, ℕ, suc, ◌+◌, Bool, true, false, List, [], ◌∷◌, ◌++◌, refl, sym, ap, ◌∙◌, subst, append_assoc, arith}
use Rattle.std.specs.Prelude.{◌&&◌, not, ◌==◌, ℤ, if◌then◌else◌}
use Rattle.std.specs.Option.{is_some}
use Rattle.std.proofs.lemmas.List.Sums.{fold-append}
use Rattle.text_tokens.specs.declared.token.Sign.TheVariants as sign
use Rattle.moa_tree.specs.declared.tree.Version.{Version}
pub use Rattle.moa_tree.specs.Expected.{Want, wants_after, at_start, next, stuck, wanted_depth}
use Rattle.moa_tree.specs.Expr.{Expr, Item, Tree}
use Rattle.moa_tree.specs.Readings.{Prefix, PrefixOfTwo, ReadsExpr, ReadsItem, ReadsItems, ReadsProgram, has_output, number_lexemes}
use Rattle.moa_tree.specs.Refusals.{BeginsAt, BeginsWithin, IsFront, IsTooDeep, is_definition}
use Rattle.moa_tree.specs.Vocabulary.{Lexeme, is_fold, version_number}
use Rattle.moa_tree.proofs.VersionLemmas.{numbered}

pub chosen : (test : Bool) (wants others : List Want) → test ≡ true → (if test then wants else others) ≡ wants
chosen true wants others h = refl
chosen false wants others h = absurd (cc h)

after_entries : (list : List ℤ) (wants : List Want) (rest : List Lexeme)
    → wants_after (Want.Entries ∷ wants) ((number_lexemes list ++ Lexeme.Sign sign.Greater ∷ []) ++ rest) ≡ wants_after wants rest
after_entries [] wants rest = refl
after_entries (value ∷ others) wants rest = after_entries others wants rest

after_extents : (list : List ℤ) (seen : Bool) (wants : List Want) (rest : List Lexeme)
    → wants_after (Want.Extents seen ∷ wants) (number_lexemes list ++ rest) ≡ wants_after (Want.Extents seen ∷ wants) rest
after_extents [] seen wants rest = refl
after_extents (value ∷ others) seen wants rest = after_extents others seen wants rest

after_prefix : (before : List Lexeme) (form : Expr → Expr) → Prefix before form → (depth : ℕ) (wants : List Want) (rest : List Lexeme)
    → wants_after (Want.AnExpr depth ∷ wants) (before ++ rest) ≡ wants_after (Want.AnExpr (suc depth) ∷ wants) rest
after_prefix before form (Prefix.unary op) depth wants rest = refl
after_prefix before form (Prefix.psi list) depth wants rest = after_entries list (Want.AnExpr (suc depth) ∷ wants) rest
after_prefix before form (Prefix.take list) depth wants rest = after_entries list (Want.AnExpr (suc depth) ∷ wants) rest
after_prefix before form (Prefix.drop list) depth wants rest = after_entries list (Want.AnExpr (suc depth) ∷ wants) rest
after_prefix before form (Prefix.permute list) depth wants rest = after_entries list (Want.AnExpr (suc depth) ∷ wants) rest
after_prefix before form (Prefix.reshape list) depth wants rest = after_entries list (Want.AnExpr (suc depth) ∷ wants) rest
after_prefix before form Prefix.reverse depth wants rest = refl
after_prefix before form Prefix.transpose depth wants rest = refl
after_prefix before form Prefix.ravel depth wants rest = refl
after_prefix before form (Prefix.rotate by) depth wants rest = refl
after_prefix before form (Prefix.reduce op h) depth wants rest = ap (λ list. wants_after list rest) (chosen (is_fold op) (Want.AnExpr (suc depth) ∷ wants) stuck h)
after_prefix before form (Prefix.scan op h) depth wants rest = ap (λ list. wants_after list rest) (chosen (is_fold op) (Want.AnExpr (suc depth) ∷ wants) stuck h)

after_prefix_of_two : (before : List Lexeme) (form : Expr → Expr → Expr) → PrefixOfTwo before form
    → (depth : ℕ) (wants : List Want) (rest : List Lexeme)
    → wants_after (Want.AnExpr depth ∷ wants) (before ++ rest) ≡ wants_after (Want.AnExpr (suc depth) ∷ Want.AnExpr (suc depth) ∷ wants) rest
after_prefix_of_two before form (PrefixOfTwo.binary op) depth wants rest = refl
after_prefix_of_two before form PrefixOfTwo.cat depth wants rest = refl
after_prefix_of_two before form (PrefixOfTwo.outer op) depth wants rest = refl
after_prefix_of_two before form (PrefixOfTwo.inner f op h) depth wants rest =
    ap (λ list. wants_after list (Lexeme.Binary op ∷ rest)) (chosen (is_fold f) (Want.AnOp ∷ Want.AnExpr (suc depth) ∷ Want.AnExpr (suc depth) ∷ wants) stuck h)

pub after_expr : (levels : ℕ) (lexemes : List Lexeme) (expr : Expr) → ReadsExpr levels lexemes expr
    → (depth : ℕ) (wants : List Want) (rest : List Lexeme) → wants_after (Want.AnExpr depth ∷ wants) (lexemes ++ rest) ≡ wants_after wants rest
after_expr levels lexemes expr (ReadsExpr.number l value) depth wants rest = refl
after_expr levels lexemes expr (ReadsExpr.name l word) depth wants rest = refl
after_expr levels lexemes expr (ReadsExpr.iota l extent) depth wants rest = refl
after_expr levels lexemes expr (ReadsExpr.parentheses l inner e reads) depth wants rest =
    ap (wants_after (Want.AnExpr (suc depth) ∷ Want.AClose ∷ wants)) (append_assoc inner (Lexeme.Sign sign.Close ∷ []) rest)
    ∙ after_expr l inner e reads (suc depth) (Want.AClose ∷ wants) (Lexeme.Sign sign.Close ∷ rest)
after_expr levels lexemes expr (ReadsExpr.one l before of form e head reads) depth wants rest =
    ap (wants_after (Want.AnExpr depth ∷ wants)) (append_assoc before of rest)
    ∙ after_prefix before form head depth wants (of ++ rest)
    ∙ after_expr l of e reads (suc depth) wants rest
after_expr levels lexemes expr (ReadsExpr.two l before first second form left right head reads reads2) depth wants rest =
    ap (wants_after (Want.AnExpr depth ∷ wants)) (append_assoc before (first ++ second) rest ∙ ap (λ list. before ++ list) (append_assoc first second rest))
    ∙ after_prefix_of_two before form head depth wants (first ++ (second ++ rest))
    ∙ after_expr l first left reads (suc depth) (Want.AnExpr (suc depth) ∷ wants) (second ++ rest)
    ∙ after_expr l second right reads2 (suc depth) wants rest

-- what stands after statements: another one, or the end
abbrev pub ends_items : Lexeme → Bool
ends_items Lexeme.In = true
ends_items Lexeme.Let = true
ends_items Lexeme.Out = true
ends_items Lexeme.End = true
ends_items _ = false

-- whether an output was seen, after these statements too
abbrev pub seen_after : Bool → List Item → Bool
seen_after seen [] = seen
seen_after seen (Item.Output name of ∷ others) = seen_after true others
seen_after seen (_ ∷ others) = seen_after seen others

seen_stays : (tree : List Item) → seen_after true tree ≡ true
seen_stays [] = refl
seen_stays (Item.Input name extents ∷ others) = seen_stays others
seen_stays (Item.Let name of ∷ others) = seen_stays others
seen_stays (Item.Output name of ∷ others) = seen_stays others

output_seen : (tree : List Item) → has_output tree ≡ true → seen_after false tree ≡ true
output_seen [] h = h
output_seen (Item.Input name extents ∷ others) h = output_seen others h
output_seen (Item.Let name of ∷ others) h = output_seen others h
output_seen (Item.Output name of ∷ others) h = seen_stays others

-- no number follows the statement
extents_end : (last : Lexeme) → ends_items last ≡ true → (seen : Bool) (wants : List Want) (rest : List Lexeme)
    → wants_after (Want.Extents seen ∷ wants) (last ∷ rest) ≡ wants_after (Want.Items seen ∷ wants) (last ∷ rest)
extents_end (Lexeme.Number value) h seen wants rest = absurd (cc h)
extents_end _ h seen wants rest = refl

extents_items : (levels : ℕ) (lexemes : List Lexeme) (tree : List Item) → ReadsItems levels lexemes tree
    → (last : Lexeme) → ends_items last ≡ true → (seen : Bool) (wants : List Want) (rest : List Lexeme)
    → wants_after (Want.Extents seen ∷ wants) (lexemes ++ last ∷ rest) ≡ wants_after (Want.Items seen ∷ wants) (lexemes ++ last ∷ rest)
extents_items levels lexemes tree (ReadsItems.none l) last h seen wants rest = extents_end last h seen wants rest
extents_items levels lexemes tree (ReadsItems.more l first others item items (ReadsItem.input k name extents) reads) last h seen wants rest = refl
extents_items levels lexemes tree (ReadsItems.more l first others item items (ReadsItem.«let» k name of e reads_e) reads) last h seen wants rest = refl
extents_items levels lexemes tree (ReadsItems.more l first others item items (ReadsItem.output k name of e reads_e) reads) last h seen wants rest = refl

pub after_items : (levels : ℕ) (lexemes : List Lexeme) (tree : List Item) → ReadsItems levels lexemes tree
    → (last : Lexeme) → ends_items last ≡ true → (seen : Bool) (wants : List Want) (rest : List Lexeme)
    → wants_after (Want.Items seen ∷ wants) (lexemes ++ last ∷ rest) ≡ wants_after (Want.Items (seen_after seen tree) ∷ wants) (last ∷ rest)
after_items levels lexemes tree (ReadsItems.none l) last h seen wants rest = refl
after_items levels lexemes tree (ReadsItems.more l first others item items (ReadsItem.input k name extents) reads) last h seen wants rest =
    ap (wants_after (Want.Extents seen ∷ wants)) (append_assoc (number_lexemes extents) others (last ∷ rest))
    ∙ after_extents extents seen wants (others ++ last ∷ rest)
    ∙ extents_items l others items reads last h seen wants rest
    ∙ after_items l others items reads last h seen wants rest
after_items levels lexemes tree (ReadsItems.more l first others item items (ReadsItem.«let» k name of e reads_e) reads) last h seen wants rest =
    ap (wants_after (Want.AnExpr 1 ∷ Want.Items seen ∷ wants)) (append_assoc of others (last ∷ rest))
    ∙ after_expr l of e reads_e 1 (Want.Items seen ∷ wants) (others ++ last ∷ rest)
    ∙ after_items l others items reads last h seen wants rest
after_items levels lexemes tree (ReadsItems.more l first others item items (ReadsItem.output k name of e reads_e) reads) last h seen wants rest =
    ap (wants_after (Want.AnExpr 1 ∷ Want.Items true ∷ wants)) (append_assoc of others (last ∷ rest))
    ∙ after_expr l of e reads_e 1 (Want.Items true ∷ wants) (others ++ last ∷ rest)
    ∙ after_items l others items reads last h true wants rest

-- statements are wanted behind the number of a version
pub after_version : (version : Version) (rest : List Lexeme)
    → wants_after at_start (Lexeme.Psi ∷ Lexeme.Number (version_number version) ∷ rest) ≡ wants_after (Want.Items false ∷ []) rest
after_version version rest =
    ap (λ found. wants_after (if is_some found then Want.Items false ∷ [] else stuck) rest) (numbered version)

-- each text of the grammar is accepted
pub after_program : (levels : ℕ) (lexemes : List Lexeme) (tree : Tree) → ReadsProgram levels lexemes tree → wants_after at_start lexemes ≡ []
after_program levels lexemes tree (ReadsProgram.program l statements items reads h) =
    after_version items.version (statements ++ Lexeme.End ∷ [])
    ∙ after_items l statements items.statements reads Lexeme.End refl false [] []
    ∙ chosen (seen_after false items.statements) [] stuck (output_seen items.statements h)

pub after_stuck : (lexemes : List Lexeme) → wants_after stuck lexemes ≡ stuck
after_stuck [] = refl
after_stuck (lexeme ∷ others) = after_stuck others

pub not_empty : stuck ≡ [] → ⊥
not_empty h = cc h

-- what a front begins with is one
pub shorter : (front rest : List Lexeme) → IsFront (front ++ rest) → IsFront front
shorter front rest (IsFront.begins levels before later tree reads) =
    IsFront.begins levels front (rest ++ later) tree (subst (λ list. ReadsProgram levels list tree) (append_assoc front rest later) reads)

-- no text begins with these
pub no_front : (lexemes : List Lexeme) → wants_after at_start lexemes ≡ stuck → IsFront lexemes → ⊥
no_front lexemes h (IsFront.begins levels before rest tree reads) =
    not_empty (sym (fold-append next at_start before rest ∙ ap (λ wants. wants_after wants rest) h ∙ after_stuck rest) ∙ after_program levels (before ++ rest) tree reads)

depth_within : (deeper : ℕ) (lexemes : List Lexeme) → BeginsWithin deeper lexemes → (depth : ℕ) (wants : List Want)
    → wanted_depth (wants_after (Want.AnExpr depth ∷ wants) lexemes) ≡ depth + deeper
depth_within deeper lexemes BeginsWithin.here depth wants = omega arith
depth_within deeper lexemes (BeginsWithin.parentheses d inner begins) depth wants =
    depth_within d inner begins (suc depth) (Want.AClose ∷ wants) ∙ omega arith
depth_within deeper lexemes (BeginsWithin.one d before inner form head begins) depth wants =
    ap wanted_depth (after_prefix before form head depth wants inner)
    ∙ depth_within d inner begins (suc depth) wants ∙ omega arith
depth_within deeper lexemes (BeginsWithin.first d before inner form head begins) depth wants =
    ap wanted_depth (after_prefix_of_two before form head depth wants inner)
    ∙ depth_within d inner begins (suc depth) (Want.AnExpr (suc depth) ∷ wants) ∙ omega arith
depth_within deeper lexemes (BeginsWithin.second d levels before left inner form expr head reads begins) depth wants =
    ap wanted_depth (after_prefix_of_two before form head depth wants (left ++ inner)
    ∙ after_expr levels left expr reads (suc depth) (Want.AnExpr (suc depth) ∷ wants) inner)
    ∙ depth_within d inner begins (suc depth) wants ∙ omega arith

depth_statement : (word : Lexeme) → is_definition word ≡ true → (name : List ℕ) (deeper : ℕ) (inner : List Lexeme) → BeginsWithin deeper inner
    → (seen : Bool) → wanted_depth (wants_after (Want.Items seen ∷ []) (word ∷ Lexeme.Name name ∷ Lexeme.Sign sign.Equal ∷ inner)) ≡ suc deeper
depth_statement Lexeme.Let h name deeper inner begins seen = depth_within deeper inner begins 1 (Want.Items seen ∷ []) ∙ omega arith
depth_statement Lexeme.Out h name deeper inner begins seen = depth_within deeper inner begins 1 (Want.Items true ∷ []) ∙ omega arith
depth_statement _ h name deeper inner begins seen = absurd (cc h)

ends_definition : (word : Lexeme) → is_definition word ≡ true → ends_items word ≡ true
ends_definition Lexeme.Let h = refl
ends_definition Lexeme.Out h = refl
ends_definition _ h = absurd (cc h)

pub depth_at : (depth : ℕ) (lexemes : List Lexeme) → BeginsAt depth lexemes → wanted_depth (wants_after at_start lexemes) ≡ depth
depth_at depth lexemes (BeginsAt.statement version levels deeper statements tree word name inner reads h begins) =
    ap wanted_depth (after_version version (statements ++ word ∷ Lexeme.Name name ∷ Lexeme.Sign sign.Equal ∷ inner)
    ∙ after_items levels statements tree reads word (ends_definition word h) false [] (Lexeme.Name name ∷ Lexeme.Sign sign.Equal ∷ inner))
    ∙ depth_statement word h name deeper inner begins (seen_after false tree)

-- none of these is an expression that stands too deep
abbrev pub is_shallow : List Want → List Lexeme → Bool
is_shallow wants [] = true
is_shallow wants (lexeme ∷ others) = not (wanted_depth wants == 129) && is_shallow (next wants lexeme) others

pub shallow_version : (version : Version) (rest : List Lexeme)
    → is_shallow at_start (Lexeme.Psi ∷ Lexeme.Number (version_number version) ∷ rest) ≡ is_shallow (Want.Items false ∷ []) rest
shallow_version version rest =
    ap (λ found. is_shallow (if is_some found then Want.Items false ∷ [] else stuck) rest) (numbered version)

pub both : (a b : Bool) → (a && b) ≡ true → (a ≡ true) × (b ≡ true)
both true b h = (refl, h)
both false b h = absurd (cc h)

pub not_at_129 : (depth : ℕ) → not (depth == 129) ≡ true → depth ≡ 129 → ⊥
not_at_129 depth h deep =
    let there : not (129 == 129) ≡ true = subst (λ d. not (d == 129) ≡ true) deep h in
    cc there

shallow_at : (earlier : List Lexeme) (lexeme : Lexeme) (later : List Lexeme) (wants : List Want)
    → is_shallow wants (earlier ++ lexeme ∷ later) ≡ true → wanted_depth (wants_after wants earlier) ≡ 129 → ⊥
shallow_at [] lexeme later wants h deep = not_at_129 (wanted_depth wants) (both (not (wanted_depth wants == 129)) _ h).0 deep
shallow_at (first ∷ others) lexeme later wants h deep =
    shallow_at others lexeme later (next wants first) (both (not (wanted_depth wants == 129)) _ h).1 deep

pub not_deep : (lexemes : List Lexeme) → is_shallow at_start lexemes ≡ true
    → (earlier : List Lexeme) (lexeme : Lexeme) (later : List Lexeme) → lexemes ≡ earlier ++ lexeme ∷ later → IsTooDeep earlier → ⊥
not_deep lexemes h earlier lexeme later e deep =
    shallow_at earlier lexeme later at_start (ap (is_shallow at_start) (sym e) ∙ h) (depth_at 129 earlier deep)

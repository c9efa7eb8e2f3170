-- A reading in which no expression begins too deep has as many levels as a text may use.
use Rattle.std.proofs.Common.{◌≡◌, ℕ, zero, suc, ◌+◌, Bool, true, false, List, [], ◌∷◌, ◌++◌, refl, sym, ap, ◌∙◌, append_assoc, arith}
use Rattle.std.specs.Prelude.{not, ◌==◌}
use Rattle.text_tokens.specs.declared.token.Sign.TheVariants as sign
use Rattle.moa_tree.specs.Expr.{Expr, Item, Tree}
use Rattle.moa_tree.specs.Readings.{ReadsExpr, ReadsItem, ReadsItems, ReadsProgram, number_lexemes}
use Rattle.moa_tree.specs.Vocabulary.{Lexeme}
use Rattle.moa_tree.proofs.LevelLemmas.{level_expr, level_extents, level_extents_items, level_prefix, level_prefix_of_two}
use Rattle.moa_tree.proofs.WantedLemmas.{Want, wants_after, after_expr, at_start, both, ends_items, is_shallow, not_at_129, shallow_version}

-- an expression begins at no depth of 129
not_below : (list : List Lexeme) (depth : ℕ) (wants : List Want) (rest : List Lexeme) → wants_after (Want.AnExpr depth ∷ []) (list ++ []) ≡ []
    → is_shallow (Want.AnExpr depth ∷ wants) (list ++ rest) ≡ true → depth ≡ 129 → ⊥
not_below [] depth wants rest e h deep = cc e
not_below (lexeme ∷ others) depth wants rest e h deep = not_at_129 depth (both (not (depth == 129)) _ h).0 deep

lower_expr : (levels : ℕ) (list : List Lexeme) (expr : Expr) → ReadsExpr levels list expr → (depth more : ℕ) → depth + more ≡ 129
    → (wants : List Want) (rest : List Lexeme) → is_shallow (Want.AnExpr depth ∷ wants) (list ++ rest) ≡ true → ReadsExpr more list expr
lower_expr levels list expr reads depth zero e wants rest h =
    absurd (not_below list depth wants rest (after_expr levels list expr reads depth [] []) h (omega arith))
lower_expr levels list expr (ReadsExpr.number l value) depth (suc more) e wants rest h = ReadsExpr.number more value
lower_expr levels list expr (ReadsExpr.name l name) depth (suc more) e wants rest h = ReadsExpr.name more name
lower_expr levels list expr (ReadsExpr.iota l extent) depth (suc more) e wants rest h = ReadsExpr.iota more extent
lower_expr levels list expr (ReadsExpr.parentheses l inner of reads) depth (suc more) e wants rest h =
    let inside = sym (ap (is_shallow (Want.AnExpr (suc depth) ∷ Want.AClose ∷ wants)) (append_assoc inner (Lexeme.Sign sign.Close ∷ []) rest))
    ∙ (both (not (depth == 129)) _ h).1 in
    ReadsExpr.parentheses more inner of
    (lower_expr l inner of reads (suc depth) more (omega arith) (Want.AClose ∷ wants) (Lexeme.Sign sign.Close ∷ rest) inside)
lower_expr levels list expr (ReadsExpr.one l before of form e1 head reads) depth (suc more) e wants rest h =
    let inside = sym (level_prefix before form head depth (omega arith) wants (of ++ rest))
    ∙ ap (is_shallow (Want.AnExpr depth ∷ wants)) (sym (append_assoc before of rest)) ∙ h in
    ReadsExpr.one more before of form e1 head (lower_expr l of e1 reads (suc depth) more (omega arith) wants rest inside)
lower_expr levels list expr (ReadsExpr.two l before first second form left right head reads reads2) depth (suc more) e wants rest h =
    let inside = sym (level_prefix_of_two before form head depth (omega arith) wants (first ++ (second ++ rest)))
    ∙ ap (is_shallow (Want.AnExpr depth ∷ wants)) (sym (append_assoc before (first ++ second) rest ∙ ap (λ list. before ++ list) (append_assoc first second rest))) ∙ h in
    let lower_left = lower_expr l first left reads (suc depth) more (omega arith) (Want.AnExpr (suc depth) ∷ wants) (second ++ rest) inside in
    let behind = sym (level_expr more first left lower_left (suc depth) (omega arith) (Want.AnExpr (suc depth) ∷ wants) (second ++ rest)) ∙ inside in
    ReadsExpr.two more before first second form left right head lower_left
    (lower_expr l second right reads2 (suc depth) more (omega arith) wants rest behind)

lower_items : (levels : ℕ) (list : List Lexeme) (tree : List Item) → ReadsItems levels list tree → (last : Lexeme) → ends_items last ≡ true
    → (seen : Bool) (wants : List Want) (rest : List Lexeme) → is_shallow (Want.Items seen ∷ wants) (list ++ last ∷ rest) ≡ true → ReadsItems 128 list tree
lower_items levels list tree (ReadsItems.none l) last ends seen wants rest h = ReadsItems.none 128
lower_items levels list tree (ReadsItems.more l first others item items (ReadsItem.input k name extents) reads) last ends seen wants rest h =
    let behind = sym (level_extents_items l others items reads last ends seen wants rest) ∙ sym (level_extents extents seen wants (others ++ last ∷ rest))
    ∙ ap (is_shallow (Want.Extents seen ∷ wants)) (sym (append_assoc (number_lexemes extents) others (last ∷ rest))) ∙ h in
    ReadsItems.more 128 first others item items (ReadsItem.input 128 name extents) (lower_items l others items reads last ends seen wants rest behind)
lower_items levels list tree (ReadsItems.more l first others item items (ReadsItem.«let» k name of e reads_e) reads) last ends seen wants rest h =
    let here = ap (is_shallow (Want.AnExpr 1 ∷ Want.Items seen ∷ wants)) (sym (append_assoc of others (last ∷ rest))) ∙ h in
    let lower = lower_expr l of e reads_e 1 128 refl (Want.Items seen ∷ wants) (others ++ last ∷ rest) here in
    let behind = sym (level_expr 128 of e lower 1 (omega arith) (Want.Items seen ∷ wants) (others ++ last ∷ rest)) ∙ here in
    ReadsItems.more 128 first others item items (ReadsItem.«let» 128 name of e lower) (lower_items l others items reads last ends seen wants rest behind)
lower_items levels list tree (ReadsItems.more l first others item items (ReadsItem.output k name of e reads_e) reads) last ends seen wants rest h =
    let here = ap (is_shallow (Want.AnExpr 1 ∷ Want.Items true ∷ wants)) (sym (append_assoc of others (last ∷ rest))) ∙ h in
    let lower = lower_expr l of e reads_e 1 128 refl (Want.Items true ∷ wants) (others ++ last ∷ rest) here in
    let behind = sym (level_expr 128 of e lower 1 (omega arith) (Want.Items true ∷ wants) (others ++ last ∷ rest)) ∙ here in
    ReadsItems.more 128 first others item items (ReadsItem.output 128 name of e lower) (lower_items l others items reads last ends true wants rest behind)

pub lower_program : (levels : ℕ) (list : List Lexeme) (tree : Tree) → ReadsProgram levels list tree → is_shallow at_start list ≡ true
    → ReadsProgram 128 list tree
lower_program levels list tree (ReadsProgram.program l statements items reads output) h =
    ReadsProgram.program 128 statements items
    (lower_items l statements items.statements reads Lexeme.End refl false [] [] (sym (shallow_version items.version (statements ++ Lexeme.End ∷ [])) ∙ h)) output

-- What stands behind each list that does not get stuck: what is wanted there was asked for, and what fills it leads to a text of the grammar.
use Rattle.std.proofs.Common.{◌≡◌, ℕ, suc, ◌+◌, Bool, true, false, List, [], ◌∷◌, ◌++◌, refl, sym, ap, ◌∙◌, subst, append_assoc, arith, pos}
use Rattle.std.specs.Prelude.{IsTrue, ℤ, if◌then◌else◌}
use Rattle.std.specs.Option.{is_some}
use Rattle.std.specs.declared.option.Option.{Option}
use Rattle.std.specs.declared.option.Option.TheVariants.{None, Some}
use Rattle.std.proofs.lemmas.List.{append-nil, map-append}
use Rattle.std.proofs.lemmas.List.Sums.{fold-append}
use Rattle.text_tokens.specs.declared.token.Sign.TheVariants as sign
use Rattle.moa_tree.specs.declared.operator.Op.{Op}
use Rattle.moa_tree.specs.declared.operator.Op.TheVariants as op
use Rattle.moa_tree.specs.declared.tree.Version.{Version}
use Rattle.moa_tree.specs.declared.tree.Version.TheVariants.{First}
use Rattle.moa_tree.specs.Expected.{cause_of}
use Rattle.moa_tree.specs.Expr.{Expr, Item, Tree}
use Rattle.moa_tree.specs.Readings.{Prefix, PrefixOfTwo, ReadsExpr, ReadsItem, ReadsItems, ReadsProgram, has_output, list_lexemes, number_lexemes}
use Rattle.moa_tree.specs.Refusals.{BeginsAt, BeginsWithin, IsFront, MayFollow, Wants, applies, is_definition, is_end, takes_name}
use Rattle.moa_tree.specs.Vocabulary.{Lexeme, is_fold, version_number, version_numbered}
use Rattle.moa_tree.proofs.VersionLemmas.{numbered_is}
use Rattle.moa_tree.proofs.WantedLemmas.{Want, wants_after, after_stuck, at_start, depth_at, next, not_empty, shorter, stuck, wanted_depth}

-- more levels than a reading needs
raise : (more levels : ℕ) (list : List Lexeme) (expr : Expr) → ReadsExpr levels list expr → ReadsExpr (levels + more) list expr
raise more levels list expr (ReadsExpr.number l value) = subst (λ n. ReadsExpr n (Lexeme.Number value ∷ []) (Expr.Number value)) (omega arith) (ReadsExpr.number (l + more) value)
raise more levels list expr (ReadsExpr.name l name) = subst (λ n. ReadsExpr n (Lexeme.Name name ∷ []) (Expr.Use name)) (omega arith) (ReadsExpr.name (l + more) name)
raise more levels list expr (ReadsExpr.iota l extent) =
    subst (λ n. ReadsExpr n (Lexeme.Iota ∷ Lexeme.Number extent ∷ []) (Expr.Iota extent)) (omega arith) (ReadsExpr.iota (l + more) extent)
raise more levels list expr (ReadsExpr.parentheses l inner e reads) =
    subst (λ n. ReadsExpr n (Lexeme.Sign sign.Open ∷ (inner ++ Lexeme.Sign sign.Close ∷ [])) e) (omega arith) (ReadsExpr.parentheses (l + more) inner e (raise more l inner e reads))
raise more levels list expr (ReadsExpr.one l before of form e head reads) =
    subst (λ n. ReadsExpr n (before ++ of) (form e)) (omega arith) (ReadsExpr.one (l + more) before of form e head (raise more l of e reads))
raise more levels list expr (ReadsExpr.two l before first second form left right head reads reads2) =
    subst (λ n. ReadsExpr n (before ++ (first ++ second)) (form left right)) (omega arith)
    (ReadsExpr.two (l + more) before first second form left right head (raise more l first left reads) (raise more l second right reads2))

raise_item : (more levels : ℕ) (list : List Lexeme) (item : Item) → ReadsItem levels list item → ReadsItem (levels + more) list item
raise_item more levels list item (ReadsItem.input l name extents) = ReadsItem.input (l + more) name extents
raise_item more levels list item (ReadsItem.«let» l name of e reads) = ReadsItem.«let» (l + more) name of e (raise more l of e reads)
raise_item more levels list item (ReadsItem.output l name of e reads) = ReadsItem.output (l + more) name of e (raise more l of e reads)

raise_items : (more levels : ℕ) (list : List Lexeme) (tree : List Item) → ReadsItems levels list tree → ReadsItems (levels + more) list tree
raise_items more levels list tree (ReadsItems.none l) = ReadsItems.none (l + more)
raise_items more levels list tree (ReadsItems.more l first others item items reads reads_others) =
    ReadsItems.more (l + more) first others item items (raise_item more l first item reads) (raise_items more l others items reads_others)

-- one statement more at the end
then_item : (levels : ℕ) (list : List Lexeme) (tree : List Item) → ReadsItems levels list tree → (last : List Lexeme) (item : Item) → ReadsItem levels last item
    → ReadsItems levels (list ++ last) (tree ++ item ∷ [])
then_item levels list tree (ReadsItems.none l) last item reads =
    subst (λ list. ReadsItems l list (item ∷ [])) (append-nil last) (ReadsItems.more l last [] item [] reads (ReadsItems.none l))
then_item levels list tree (ReadsItems.more l first others head items reads_head reads_others) last item reads =
    subst (λ list. ReadsItems l list (head ∷ (items ++ item ∷ []))) (sym (append_assoc first others last))
    (ReadsItems.more l first (others ++ last) head (items ++ item ∷ []) reads_head (then_item l others items reads_others last item reads))

output_kept : (item : Item) (tree : List Item) → has_output tree ≡ true → has_output (tree ++ item ∷ []) ≡ true
output_kept item [] h = absurd (cc h)
output_kept item (Item.Input name extents ∷ others) h = output_kept item others h
output_kept item (Item.Let name of ∷ others) h = output_kept item others h
output_kept item (Item.Output name of ∷ others) h = refl

output_last : (name : List ℕ) (of : Expr) (tree : List Item) → has_output (tree ++ Item.Output name of ∷ []) ≡ true
output_last name of [] = refl
output_last name of (Item.Input name2 extents ∷ others) = output_last name of others
output_last name of (Item.Let name2 of2 ∷ others) = output_last name of others
output_last name of (Item.Output name2 of2 ∷ others) = refl

-- the version and statements, with an output among them where one was seen
pub record AreItems (seen : Bool) (list : List Lexeme) : Type 0 where
  pub version : Version
  pub levels : ℕ
  pub statements : List Lexeme
  pub tree : List Item
  pub reads : ReadsItems levels statements tree
  pub output : seen ≡ true → has_output tree ≡ true
  pub is : list ≡ Lexeme.Psi ∷ Lexeme.Number (version_number version) ∷ statements

-- the same, and an input behind them
pub record AreExtents (seen : Bool) (list : List Lexeme) : Type 0 where
  pub front : List Lexeme
  pub items : AreItems seen front
  pub name : List ℕ
  pub values : List ℤ
  pub is : list ≡ front ++ Lexeme.In ∷ Lexeme.Name name ∷ number_lexemes values

abbrev pub IsProgram : List Lexeme → Type 0
IsProgram list = (levels : ℕ) × (tree : Tree) × ReadsProgram levels list tree

-- whatever stands there is refused with this cause
abbrev Asked : List Lexeme → ℕ → Type 0
Asked list cause = (lexeme : Lexeme) → Wants list lexeme cause

-- what stands before each want
abbrev Before : Want → List Lexeme → Type 0
Before Want.Version list = Asked list 4
Before Want.VersionNumber list = Asked list 4
Before Want.AName list = Asked list 7
Before (Want.AnExpr depth) list = BeginsAt depth list
Before Want.ANumber list = Asked list 12
Before Want.AFold list = Asked list 13
Before Want.AnOp list = Asked list 13
Before Want.Never list = ⊥
Before _ list = Unit {0}

-- whatever fills a want is so
abbrev Filled : Want → (List Lexeme → Type 0) → Type 0
Filled Want.Version P = P (Lexeme.Psi ∷ [])
Filled Want.VersionNumber P = (version : Version) → P (Lexeme.Number (version_number version) ∷ [])
Filled Want.AName P = (name : List ℕ) → P (Lexeme.Name name ∷ [])
Filled Want.AnEqual P = P (Lexeme.Sign sign.Equal ∷ [])
Filled (Want.AnExpr depth) P = (levels : ℕ) (of : List Lexeme) (expr : Expr) → ReadsExpr levels of expr → P of
Filled Want.AClose P = P (Lexeme.Sign sign.Close ∷ [])
Filled Want.AList P = (list : List ℤ) → P (list_lexemes list)
Filled Want.Entries P = (list : List ℤ) → P (number_lexemes list ++ Lexeme.Sign sign.Greater ∷ [])
Filled Want.ANumber P = (value : ℤ) → P (Lexeme.Number value ∷ [])
Filled Want.AFold P = (op : Op) → IsTrue (is_fold op) → P (Lexeme.Binary op ∷ [])
Filled Want.AnOp P = (op : Op) → P (Lexeme.Binary op ∷ [])
Filled _ P = Unit {0}

-- these lexemes leave this wanted
abbrev pub Behind : List Want → List Lexeme → Type 0
Behind [] list = IsProgram list
Behind (Want.Items seen ∷ wants) list = AreItems seen list × (wants ≡ [])
Behind (Want.Extents seen ∷ wants) list = AreExtents seen list × (wants ≡ [])
Behind (want ∷ wants) list = Before want list × Filled want (λ part. Behind wants (list ++ part))

moved : (wants : List Want) (list part rest : List Lexeme) → Behind wants (list ++ (part ++ rest)) → Behind wants ((list ++ part) ++ rest)
moved wants list part rest b = subst (Behind wants) (sym (append_assoc list part rest)) b

-- an operand begins behind what stands before it
within_then : (deeper : ℕ) (list : List Lexeme) → BeginsWithin deeper list → (more : List Lexeme) → BeginsWithin 1 more → BeginsWithin (suc deeper) (list ++ more)
within_then deeper list BeginsWithin.here more begins = begins
within_then deeper list (BeginsWithin.parentheses d inner inside) more begins =
    BeginsWithin.parentheses (suc d) (inner ++ more) (within_then d inner inside more begins)
within_then deeper list (BeginsWithin.one d before inner form head inside) more begins =
    subst (BeginsWithin (suc (suc d))) (sym (append_assoc before inner more))
    (BeginsWithin.one (suc d) before (inner ++ more) form head (within_then d inner inside more begins))
within_then deeper list (BeginsWithin.first d before inner form head inside) more begins =
    subst (BeginsWithin (suc (suc d))) (sym (append_assoc before inner more))
    (BeginsWithin.first (suc d) before (inner ++ more) form head (within_then d inner inside more begins))
within_then deeper list (BeginsWithin.second d levels before left inner form expr head reads inside) more begins =
    subst (BeginsWithin (suc (suc d))) (sym (append_assoc before (left ++ inner) more ∙ ap (λ l. before ++ l) (append_assoc left inner more)))
    (BeginsWithin.second (suc d) levels before left (inner ++ more) form expr head reads (within_then d inner inside more begins))

begins_then : (depth : ℕ) (list : List Lexeme) → BeginsAt depth list → (more : List Lexeme) → BeginsWithin 1 more → BeginsAt (suc depth) (list ++ more)
begins_then depth list (BeginsAt.statement version levels deeper statements tree word name inner reads h inside) more begins =
    subst (BeginsAt (suc (suc deeper)))
    (ap (λ l. Lexeme.Psi ∷ Lexeme.Number (version_number version) ∷ l) (sym (append_assoc statements (word ∷ Lexeme.Name name ∷ Lexeme.Sign sign.Equal ∷ inner) more)))
    (BeginsAt.statement version levels (suc deeper) statements tree word name (inner ++ more) reads h (within_then deeper inner inside more begins))

begins_one : (before : List Lexeme) (form : Expr → Expr) → Prefix before form → BeginsWithin 1 before
begins_one before form head = subst (BeginsWithin 1) (append-nil before) (BeginsWithin.one 0 before [] form head BeginsWithin.here)

begins_first : (before : List Lexeme) (form : Expr → Expr → Expr) → PrefixOfTwo before form → BeginsWithin 1 before
begins_first before form head = subst (BeginsWithin 1) (append-nil before) (BeginsWithin.first 0 before [] form head BeginsWithin.here)

begins_second : (before : List Lexeme) (form : Expr → Expr → Expr) → PrefixOfTwo before form
    → (levels : ℕ) (left : List Lexeme) (expr : Expr) → ReadsExpr levels left expr → BeginsWithin 1 (before ++ left)
begins_second before form head levels left expr reads =
    subst (λ l. BeginsWithin 1 (before ++ l)) (append-nil left) (BeginsWithin.second 0 levels before left [] form expr head reads BeginsWithin.here)

-- one operand is wanted, or two
one_behind : (before : List Lexeme) (form : Expr → Expr) → Prefix before form → (depth : ℕ) (wants : List Want) (list : List Lexeme)
    → Behind (Want.AnExpr depth ∷ wants) list → Behind (Want.AnExpr (suc depth) ∷ wants) (list ++ before)
one_behind before form head depth wants list b = (
  begins_then depth list b.0 before (begins_one before form head),
  λ levels of expr reads.
      moved wants list before of (b.1 (suc levels) (before ++ of) (form expr) (ReadsExpr.one levels before of form expr head reads)),
)

two_behind : (before : List Lexeme) (form : Expr → Expr → Expr) → PrefixOfTwo before form → (depth : ℕ) (wants : List Want) (list : List Lexeme)
    → Behind (Want.AnExpr depth ∷ wants) list → Behind (Want.AnExpr (suc depth) ∷ Want.AnExpr (suc depth) ∷ wants) (list ++ before)
two_behind before form head depth wants list b = (
  begins_then depth list b.0 before (begins_first before form head),
  λ levels left expr reads. (
    subst (BeginsAt (suc depth)) (sym (append_assoc list before left))
        (begins_then depth list b.0 (before ++ left) (begins_second before form head levels left expr reads)),
    λ levels2 right expr2 reads2.
        let first = raise levels2 levels left expr reads in
        let second = subst (λ n. ReadsExpr n right expr2) (omega arith) (raise levels levels2 right expr2 reads2) in
        moved wants (list ++ before) left right (moved wants list before (left ++ right)
        (b.1 (suc (levels + levels2)) (before ++ (left ++ right)) (form expr expr2)
        (ReadsExpr.two (levels + levels2) before left right form expr expr2 head first second))),
  ),
)

parentheses_behind : (depth : ℕ) (wants : List Want) (list : List Lexeme)
    → Behind (Want.AnExpr depth ∷ wants) list → Behind (Want.AnExpr (suc depth) ∷ Want.AClose ∷ wants) (list ++ Lexeme.Sign sign.Open ∷ [])
parentheses_behind depth wants list b =
    let open_sign = Lexeme.Sign sign.Open ∷ [] in
    let close = Lexeme.Sign sign.Close ∷ [] in (
      begins_then depth list b.0 open_sign (BeginsWithin.parentheses 0 [] BeginsWithin.here),
      λ levels of expr reads. (
        tt,
        moved wants (list ++ open_sign) of close (moved wants list open_sign (of ++ close)
            (b.1 (suc levels) (open_sign ++ (of ++ close)) expr (ReadsExpr.parentheses levels of expr reads))),
      ),
    )

list_behind : (word : Lexeme) (form : List ℤ → Expr → Expr) → ((list : List ℤ) → Prefix (word ∷ list_lexemes list) (form list))
    → (depth : ℕ) (wants : List Want) (list : List Lexeme)
    → Behind (Want.AnExpr depth ∷ wants) list → Behind (Want.AList ∷ Want.AnExpr (suc depth) ∷ wants) (list ++ word ∷ [])
list_behind word form head depth wants list b = (
  tt,
  λ values. moved (Want.AnExpr (suc depth) ∷ wants) list (word ∷ []) (list_lexemes values)
      (one_behind (word ∷ list_lexemes values) (form values) (head values) depth wants list b),
)

fold_behind : (word : Lexeme) (form : Op → Expr → Expr) → ((op : Op) → IsTrue (is_fold op) → Prefix (word ∷ Lexeme.Binary op ∷ []) (form op))
    → IsTrue (applies word) → (depth : ℕ) (wants : List Want) (list : List Lexeme)
    → Behind (Want.AnExpr depth ∷ wants) list → Behind (Want.AFold ∷ Want.AnExpr (suc depth) ∷ wants) (list ++ word ∷ [])
fold_behind word form head asks depth wants list b = (
  λ lexeme. Wants.operator list word lexeme asks,
  λ op folds. moved (Want.AnExpr (suc depth) ∷ wants) list (word ∷ []) (Lexeme.Binary op ∷ [])
      (one_behind (word ∷ Lexeme.Binary op ∷ []) (form op) (head op folds) depth wants list b),
)

rotate_behind : (depth : ℕ) (wants : List Want) (list : List Lexeme)
    → Behind (Want.AnExpr depth ∷ wants) list → Behind (Want.ANumber ∷ Want.AnExpr (suc depth) ∷ wants) (list ++ Lexeme.Rotate ∷ [])
rotate_behind depth wants list b = (
  λ lexeme. Wants.number list Lexeme.Rotate lexeme refl,
  λ by. moved (Want.AnExpr (suc depth) ∷ wants) list (Lexeme.Rotate ∷ []) (Lexeme.Number by ∷ [])
      (one_behind (Lexeme.Rotate ∷ Lexeme.Number by ∷ []) (Expr.Rotate by) (Prefix.rotate by) depth wants list b),
)

iota_behind : (depth : ℕ) (wants : List Want) (list : List Lexeme)
    → Behind (Want.AnExpr depth ∷ wants) list → Behind (Want.ANumber ∷ wants) (list ++ Lexeme.Iota ∷ [])
iota_behind depth wants list b = (
  λ lexeme. Wants.number list Lexeme.Iota lexeme refl,
  λ extent. moved wants list (Lexeme.Iota ∷ []) (Lexeme.Number extent ∷ [])
      (b.1 1 (Lexeme.Iota ∷ Lexeme.Number extent ∷ []) (Expr.Iota extent) (ReadsExpr.iota 0 extent)),
)

outer_behind : (depth : ℕ) (wants : List Want) (list : List Lexeme) → Behind (Want.AnExpr depth ∷ wants) list
    → Behind (Want.AnOp ∷ Want.AnExpr (suc depth) ∷ Want.AnExpr (suc depth) ∷ wants) (list ++ Lexeme.Outer ∷ [])
outer_behind depth wants list b = (
  λ lexeme. Wants.operator list Lexeme.Outer lexeme refl,
  λ op. moved (Want.AnExpr (suc depth) ∷ Want.AnExpr (suc depth) ∷ wants) list (Lexeme.Outer ∷ []) (Lexeme.Binary op ∷ [])
      (two_behind (Lexeme.Outer ∷ Lexeme.Binary op ∷ []) (Expr.Outer op) (PrefixOfTwo.outer op) depth wants list b),
)

inner_behind : (depth : ℕ) (wants : List Want) (list : List Lexeme) → Behind (Want.AnExpr depth ∷ wants) list
    → Behind (Want.AFold ∷ Want.AnOp ∷ Want.AnExpr (suc depth) ∷ Want.AnExpr (suc depth) ∷ wants) (list ++ Lexeme.Inner ∷ [])
inner_behind depth wants list b = (
  λ lexeme. Wants.operator list Lexeme.Inner lexeme refl,
  λ f folds.
      let both = Lexeme.Inner ∷ Lexeme.Binary f ∷ [] in
      let apart = sym (append_assoc list (Lexeme.Inner ∷ []) (Lexeme.Binary f ∷ [])) in (
        λ lexeme. subst (λ l. Wants l lexeme 13) apart (Wants.second_operator list f lexeme),
        λ op.
            let behind_two = two_behind (both ++ Lexeme.Binary op ∷ []) (Expr.Inner f op) (PrefixOfTwo.inner f op folds) depth wants list b in
            subst (λ l. Behind (Want.AnExpr (suc depth) ∷ Want.AnExpr (suc depth) ∷ wants) (l ++ Lexeme.Binary op ∷ [])) apart
            (moved (Want.AnExpr (suc depth) ∷ Want.AnExpr (suc depth) ∷ wants) list both (Lexeme.Binary op ∷ []) behind_two),
      ),
)

-- the lexeme is not stuck
abbrev Goes : List Want → Lexeme → Type 0
Goes wants lexeme = next wants lexeme ≡ stuck → ⊥

expr_step : (depth : ℕ) (wants : List Want) (lexeme : Lexeme) (list : List Lexeme) → Behind (Want.AnExpr depth ∷ wants) list
    → Goes (Want.AnExpr depth ∷ wants) lexeme → Behind (next (Want.AnExpr depth ∷ wants) lexeme) (list ++ lexeme ∷ [])
expr_step depth wants (Lexeme.Number value) list b on = b.1 1 (Lexeme.Number value ∷ []) (Expr.Number value) (ReadsExpr.number 0 value)
expr_step depth wants (Lexeme.Name name) list b on = b.1 1 (Lexeme.Name name ∷ []) (Expr.Use name) (ReadsExpr.name 0 name)
expr_step depth wants Lexeme.Iota list b on = iota_behind depth wants list b
expr_step depth wants (Lexeme.Sign sign.Open) list b on = parentheses_behind depth wants list b
expr_step depth wants (Lexeme.Unary op) list b on = one_behind (Lexeme.Unary op ∷ []) (Expr.One op) (Prefix.unary op) depth wants list b
expr_step depth wants (Lexeme.Binary op) list b on = two_behind (Lexeme.Binary op ∷ []) (Expr.Two op) (PrefixOfTwo.binary op) depth wants list b
expr_step depth wants Lexeme.Psi list b on = list_behind Lexeme.Psi Expr.Psi Prefix.psi depth wants list b
expr_step depth wants Lexeme.Take list b on = list_behind Lexeme.Take Expr.Take Prefix.take depth wants list b
expr_step depth wants Lexeme.Drop list b on = list_behind Lexeme.Drop Expr.Drop Prefix.drop depth wants list b
expr_step depth wants Lexeme.Permute list b on = list_behind Lexeme.Permute Expr.Permute Prefix.permute depth wants list b
expr_step depth wants Lexeme.Reshape list b on = list_behind Lexeme.Reshape Expr.Reshape Prefix.reshape depth wants list b
expr_step depth wants Lexeme.Reverse list b on = one_behind (Lexeme.Reverse ∷ []) Expr.Reverse Prefix.reverse depth wants list b
expr_step depth wants Lexeme.Transpose list b on = one_behind (Lexeme.Transpose ∷ []) Expr.Transpose Prefix.transpose depth wants list b
expr_step depth wants Lexeme.Ravel list b on = one_behind (Lexeme.Ravel ∷ []) Expr.Ravel Prefix.ravel depth wants list b
expr_step depth wants Lexeme.Rotate list b on = rotate_behind depth wants list b
expr_step depth wants Lexeme.Cat list b on = two_behind (Lexeme.Cat ∷ []) Expr.Cat PrefixOfTwo.cat depth wants list b
expr_step depth wants Lexeme.Outer list b on = outer_behind depth wants list b
expr_step depth wants Lexeme.Inner list b on = inner_behind depth wants list b
expr_step depth wants Lexeme.Reduce list b on = fold_behind Lexeme.Reduce Expr.Reduce Prefix.reduce refl depth wants list b
expr_step depth wants Lexeme.Scan list b on = fold_behind Lexeme.Scan Expr.Scan Prefix.scan refl depth wants list b
expr_step depth wants _ list b on = absurd (on refl)

-- the statements, and this one behind them
item_behind : (seen now : Bool) (item : Item) → ((tree : List Item) → (seen ≡ true → has_output tree ≡ true) → now ≡ true → has_output (tree ++ item ∷ []) ≡ true)
    → (levels : ℕ) (last : List Lexeme) → ReadsItem levels last item → (list : List Lexeme) → AreItems seen list → AreItems now (list ++ last)
item_behind seen now item output levels last reads list items = record {
  version = items.version;
  levels = items.levels + levels;
  statements = items.statements ++ last;
  tree = items.tree ++ item ∷ [];
  reads = then_item (items.levels + levels) items.statements items.tree (raise_items levels items.levels items.statements items.tree items.reads) last item
      (subst (λ n. ReadsItem n last item) (omega arith) (raise_item items.levels levels last item reads));
  output = output items.tree items.output;
  is = ap (λ l. l ++ last) items.is;
}

-- a statement with an expression
definition_behind : (word : Lexeme) (make : List ℕ → Expr → Item) (seen now : Bool) → IsTrue (takes_name word) → IsTrue (is_definition word)
    → ((levels : ℕ) (name : List ℕ) (of : List Lexeme) (e : Expr) → ReadsExpr levels of e
    → ReadsItem levels (word ∷ Lexeme.Name name ∷ Lexeme.Sign sign.Equal ∷ of) (make name e))
    → ((name : List ℕ) (e : Expr) (tree : List Item) → (seen ≡ true → has_output tree ≡ true) → now ≡ true → has_output (tree ++ make name e ∷ []) ≡ true)
    → (wants : List Want) → wants ≡ [] → (list : List Lexeme) → AreItems seen list
    → Behind (Want.AName ∷ Want.AnEqual ∷ Want.AnExpr 1 ∷ Want.Items now ∷ wants) (list ++ word ∷ [])
definition_behind word make seen now asks defines reads output wants empty list items = (
  λ lexeme. Wants.name list word lexeme asks,
  λ name.
      let named = (list ++ word ∷ []) ++ Lexeme.Name name ∷ [] in
      let equal = Lexeme.Sign sign.Equal ∷ [] in
      let apart = λ (rest : List Lexeme). append_assoc named equal rest ∙ append_assoc (list ++ word ∷ []) (Lexeme.Name name ∷ []) (equal ++ rest)
      ∙ append_assoc list (word ∷ []) (Lexeme.Name name ∷ (equal ++ rest)) in
      let begun : BeginsAt 1 (list ++ word ∷ Lexeme.Name name ∷ equal) =
      subst (λ l. BeginsAt 1 (l ++ word ∷ Lexeme.Name name ∷ equal)) (sym items.is)
      (BeginsAt.statement items.version items.levels 0 items.statements items.tree word name [] items.reads defines BeginsWithin.here) in (
        tt,
        (
          subst (BeginsAt 1) (sym (sym (append-nil (named ++ equal)) ∙ apart [])) begun,
          λ levels of e reads_e. (
            subst (AreItems now) (sym (apart of))
                (item_behind seen now (make name e) (output name e) levels (word ∷ Lexeme.Name name ∷ (equal ++ of)) (reads levels name of e reads_e) list items),
            empty,
          ),
        ),
      ),
)

-- the statements, and the end
program_behind : (list : List Lexeme) → AreItems true list → IsProgram (list ++ Lexeme.End ∷ [])
program_behind list items =
    let tree : Tree = record { version = items.version; statements = items.tree } in (
      items.levels,
      tree,
      subst (λ l. ReadsProgram items.levels (l ++ Lexeme.End ∷ []) tree) (sym items.is)
          (ReadsProgram.program items.levels items.statements tree items.reads (items.output refl)),
    )

end_step : (seen : Bool) (wants : List Want) → wants ≡ [] → (list : List Lexeme) → AreItems seen list
    → ((if seen then wants else stuck) ≡ stuck → ⊥) → Behind (if seen then wants else stuck) (list ++ Lexeme.End ∷ [])
end_step true wants empty list items on = subst (λ w. Behind w (list ++ Lexeme.End ∷ [])) (sym empty) (program_behind list items)
end_step false wants empty list items on = absurd (on refl)

items_step : (seen : Bool) (wants : List Want) (lexeme : Lexeme) → wants ≡ [] → (list : List Lexeme) → AreItems seen list
    → Goes (Want.Items seen ∷ wants) lexeme → Behind (next (Want.Items seen ∷ wants) lexeme) (list ++ lexeme ∷ [])
items_step seen wants Lexeme.In empty list items on = (
  λ lexeme. Wants.name list Lexeme.In lexeme refl,
  λ name. (
    record { front = list; items = items; name = name; values = []; is = append_assoc list (Lexeme.In ∷ []) (Lexeme.Name name ∷ []) },
    empty,
  ),
)
items_step seen wants Lexeme.Let empty list items on =
    definition_behind Lexeme.Let Item.Let seen seen refl refl ReadsItem.«let» (λ name e tree there h. output_kept (Item.Let name e) tree (there h)) wants empty list items
items_step seen wants Lexeme.Out empty list items on =
    definition_behind Lexeme.Out Item.Output seen true refl refl ReadsItem.output (λ name e tree there h. output_last name e tree) wants empty list items
items_step seen wants Lexeme.End empty list items on = end_step seen wants empty list items on
items_step seen wants _ empty list items on = absurd (on refl)

-- no more extents
input_behind : (seen : Bool) (list : List Lexeme) → AreExtents seen list → AreItems seen list
input_behind seen list e =
    subst (AreItems seen) (sym e.is)
    (item_behind seen seen (Item.Input e.name e.values) (λ tree there h. output_kept (Item.Input e.name e.values) tree (there h))
    0 (Lexeme.In ∷ Lexeme.Name e.name ∷ number_lexemes e.values) (ReadsItem.input 0 e.name e.values) e.front e.items)

extents_step : (seen : Bool) (wants : List Want) (lexeme : Lexeme) → wants ≡ [] → (list : List Lexeme) → AreExtents seen list
    → Goes (Want.Extents seen ∷ wants) lexeme → Behind (next (Want.Extents seen ∷ wants) lexeme) (list ++ lexeme ∷ [])
extents_step seen wants (Lexeme.Number value) empty list e on = (
  record {
    front = e.front;
    items = e.items;
    name = e.name;
    values = e.values ++ value ∷ [];
    is = ap (λ l. l ++ Lexeme.Number value ∷ []) e.is
        ∙ append_assoc e.front (Lexeme.In ∷ Lexeme.Name e.name ∷ number_lexemes e.values) (Lexeme.Number value ∷ [])
        ∙ ap (λ l. e.front ++ Lexeme.In ∷ Lexeme.Name e.name ∷ l) (sym (map-append Lexeme.Number e.values (value ∷ [])));
  },
  empty,
)
extents_step seen wants lexeme empty list e on = items_step seen wants lexeme empty list (input_behind seen list e) on

fold_step : (op : Op) (test : Bool) → is_fold op ≡ test → (wants : List Want) (list : List Lexeme) → Behind (Want.AFold ∷ wants) list
    → ((if test then wants else stuck) ≡ stuck → ⊥) → Behind (if test then wants else stuck) (list ++ Lexeme.Binary op ∷ [])
fold_step op true h wants list b on = b.1 op h
fold_step op false h wants list b on = absurd (on refl)

version_step : (value : ℤ) (found : Option Version) → version_numbered value ≡ found → (wants : List Want) (list : List Lexeme)
    → Behind (Want.VersionNumber ∷ wants) list
    → ((if is_some found then wants else stuck) ≡ stuck → ⊥) → Behind (if is_some found then wants else stuck) (list ++ Lexeme.Number value ∷ [])
version_step value (Some version) e wants list b on =
    subst (λ z. Behind wants (list ++ Lexeme.Number z ∷ [])) (sym (numbered_is value version e)) (b.1 version)
version_step value None e wants list b on = absurd (on refl)

step : (wants : List Want) (lexeme : Lexeme) (list : List Lexeme) → Behind wants list → Goes wants lexeme → Behind (next wants lexeme) (list ++ lexeme ∷ [])
step [] lexeme list b on = absurd (on refl)
step (Want.Version ∷ wants) Lexeme.Psi list b on = b.1
step (Want.VersionNumber ∷ wants) (Lexeme.Number value) list b on = version_step value (version_numbered value) refl wants list b on
step (Want.Items seen ∷ wants) lexeme list b on = items_step seen wants lexeme b.1 list b.0 on
step (Want.Extents seen ∷ wants) lexeme list b on = extents_step seen wants lexeme b.1 list b.0 on
step (Want.AName ∷ wants) (Lexeme.Name name) list b on = b.1 name
step (Want.AnEqual ∷ wants) (Lexeme.Sign sign.Equal) list b on = b.1
step (Want.AnExpr depth ∷ wants) lexeme list b on = expr_step depth wants lexeme list b on
step (Want.AClose ∷ wants) (Lexeme.Sign sign.Close) list b on = b.1
step (Want.AList ∷ wants) (Lexeme.Sign sign.Less) list b on =
    (tt, λ values. moved wants list (Lexeme.Sign sign.Less ∷ []) (number_lexemes values ++ Lexeme.Sign sign.Greater ∷ []) (b.1 values))
step (Want.Entries ∷ wants) (Lexeme.Number value) list b on =
    (tt, λ values. moved wants list (Lexeme.Number value ∷ []) (number_lexemes values ++ Lexeme.Sign sign.Greater ∷ []) (b.1 (value ∷ values)))
step (Want.Entries ∷ wants) (Lexeme.Sign sign.Greater) list b on = b.1 []
step (Want.ANumber ∷ wants) (Lexeme.Number value) list b on = b.1 value
step (Want.AFold ∷ wants) (Lexeme.Binary op) list b on = fold_step op (is_fold op) refl wants list b on
step (Want.AnOp ∷ wants) (Lexeme.Binary op) list b on = b.1 op
step (_ ∷ wants) lexeme list b on = absurd (on refl)

all_steps : (list : List Lexeme) (wants : List Want) (front : List Lexeme) → Behind wants front → (wants_after wants list ≡ stuck → ⊥)
    → Behind (wants_after wants list) (front ++ list)
all_steps [] wants front b on = subst (Behind wants) (sym (append-nil front)) b
all_steps (lexeme ∷ others) wants front b on =
    subst (Behind (wants_after (next wants lexeme) others)) (append_assoc front (lexeme ∷ []) others)
    (all_steps others (next wants lexeme) (front ++ lexeme ∷ [])
    (step wants lexeme front b (λ e. on (ap (λ w. wants_after w others) e ∙ after_stuck others))) on)

at_start_behind : Behind at_start []
at_start_behind = (
  Wants.version,
  (
    Wants.version_number,
    λ version. (record { version = version; levels = 0; statements = []; tree = []; reads = ReadsItems.none 0; output = λ h. absurd (cc h); is = refl }, refl),
  ),
)

pub behind : (list : List Lexeme) → (wants_after at_start list ≡ stuck → ⊥) → Behind (wants_after at_start list) list
behind list on = all_steps list at_start [] at_start_behind on

-- what is accepted is a text of the grammar
pub accepted : (list : List Lexeme) → wants_after at_start list ≡ [] → IsProgram list
accepted list e = subst (λ wants. Behind wants list) e (behind list (λ h. not_empty (sym h ∙ e)))

-- what is still wanted is filled by as little as can be
items_front : (seen : Bool) (list : List Lexeme) → AreItems seen list → IsFront list
items_front seen list items =
    let item = Item.Output [] (Expr.Number (pos 0)) in
    let last = Lexeme.Out ∷ Lexeme.Name [] ∷ Lexeme.Sign sign.Equal ∷ Lexeme.Number (pos 0) ∷ [] in
    let more = item_behind seen true item (λ tree there h. output_last [] (Expr.Number (pos 0)) tree) 1 last
    (ReadsItem.output 1 [] (Lexeme.Number (pos 0) ∷ []) (Expr.Number (pos 0)) (ReadsExpr.number 0 (pos 0))) list items in
    let text = program_behind (list ++ last) more in
    IsFront.begins text.0 list (last ++ Lexeme.End ∷ []) text.1
    (subst (λ l. ReadsProgram text.0 l text.1) (append_assoc list last (Lexeme.End ∷ [])) text.2)

front_behind : (wants : List Want) (list : List Lexeme) → Behind wants list → IsFront list
front_behind [] list b = IsFront.begins b.0 list [] b.1 (subst (λ l. ReadsProgram b.0 l b.1) (sym (append-nil list)) b.2)
front_behind (Want.Items seen ∷ wants) list b = items_front seen list b.0
front_behind (Want.Extents seen ∷ wants) list b = items_front seen list (input_behind seen list b.0)
front_behind (Want.Version ∷ wants) list b = shorter list _ (front_behind wants _ b.1)
front_behind (Want.VersionNumber ∷ wants) list b = shorter list _ (front_behind wants _ (b.1 First))
front_behind (Want.AName ∷ wants) list b = shorter list _ (front_behind wants _ (b.1 []))
front_behind (Want.AnEqual ∷ wants) list b = shorter list _ (front_behind wants _ b.1)
front_behind (Want.AnExpr depth ∷ wants) list b =
    shorter list _ (front_behind wants _ (b.1 1 (Lexeme.Number (pos 0) ∷ []) (Expr.Number (pos 0)) (ReadsExpr.number 0 (pos 0))))
front_behind (Want.AClose ∷ wants) list b = shorter list _ (front_behind wants _ b.1)
front_behind (Want.AList ∷ wants) list b = shorter list _ (front_behind wants _ (b.1 []))
front_behind (Want.Entries ∷ wants) list b = shorter list _ (front_behind wants _ (b.1 []))
front_behind (Want.ANumber ∷ wants) list b = shorter list _ (front_behind wants _ (b.1 (pos 0)))
front_behind (Want.AFold ∷ wants) list b = shorter list _ (front_behind wants _ (b.1 op.Add refl))
front_behind (Want.AnOp ∷ wants) list b = shorter list _ (front_behind wants _ (b.1 op.Add))
front_behind (Want.Never ∷ wants) list b = absurd b.0

-- what does not get stuck begins some text
pub is_front : (list : List Lexeme) → (wants_after at_start list ≡ stuck → ⊥) → IsFront list
is_front list on = front_behind (wants_after at_start list) list (behind list on)

an_expr : (depth : ℕ) (wants : List Want) → wanted_depth wants ≡ suc depth → (others : List Want) × (wants ≡ Want.AnExpr (suc depth) ∷ others)
an_expr depth (Want.AnExpr d ∷ wants) e = (wants, ap (λ k. Want.AnExpr k ∷ wants) e)
an_expr depth [] e = absurd (omega arith)
an_expr depth (_ ∷ wants) e = absurd (omega arith)

-- an expression is wanted where one begins, at its depth
pub expr_wanted : (depth : ℕ) (list : List Lexeme) → BeginsAt depth list → (others : List Want) × (wants_after at_start list ≡ Want.AnExpr depth ∷ others)
expr_wanted depth list (BeginsAt.statement version levels deeper statements tree word name inner reads h inside) =
    an_expr deeper (wants_after at_start list) (depth_at (suc deeper) list (BeginsAt.statement version levels deeper statements tree word name inner reads h inside))

pub expr_begins : (depth : ℕ) (list : List Lexeme) (others : List Want) → wants_after at_start list ≡ Want.AnExpr depth ∷ others → BeginsAt depth list
expr_begins depth list others e =
    (subst (λ wants. Behind wants list) e (behind list (λ h. an_expr_goes (sym e ∙ h)))).0
  where
    an_expr_goes : Want.AnExpr depth ∷ others ≡ stuck → ⊥
    an_expr_goes h = cc h

follows : (wants : List Want) (lexeme : Lexeme) (list : List Lexeme) → Behind wants list → Goes wants lexeme → MayFollow list lexeme
follows wants lexeme list b on = front_behind (next wants lexeme) (list ++ lexeme ∷ []) (step wants lexeme list b on)

pub deep_begins : (depth : ℕ) (list : List Lexeme) → wanted_depth (wants_after at_start list) ≡ suc depth → BeginsAt (suc depth) list
deep_begins depth list e =
    let wanted = an_expr depth (wants_after at_start list) e in
    expr_begins (suc depth) list wanted.0 wanted.1

end_items : (seen : Bool) (wants : List Want) → wants ≡ [] → ((if seen then wants else stuck) ≡ stuck → ⊥) → (if seen then wants else stuck) ≡ []
end_items true wants empty on = empty
end_items false wants empty on = absurd (on refl)

end_leaves : (wants : List Want) (list : List Lexeme) → Behind wants list → Goes wants Lexeme.End → next wants Lexeme.End ≡ []
end_leaves [] list b on = absurd (on refl)
end_leaves (Want.Items seen ∷ wants) list b on = end_items seen wants b.1 on
end_leaves (Want.Extents seen ∷ wants) list b on = end_items seen wants b.1 on
end_leaves (_ ∷ wants) list b on = absurd (on refl)

-- nothing is wanted behind the end
pub ended : (list : List Lexeme) → (wants_after at_start (list ++ Lexeme.End ∷ []) ≡ stuck → ⊥) → wants_after at_start (list ++ Lexeme.End ∷ []) ≡ []
ended list on =
    let last = fold-append next at_start list (Lexeme.End ∷ []) in
    let free = λ (e : wants_after at_start list ≡ stuck). on (last ∙ ap (λ wants. next wants Lexeme.End) e) in
    last ∙ end_leaves (wants_after at_start list) list (behind list free) (λ e. on (last ∙ e))

items_asked : (list : List Lexeme) → MayFollow list Lexeme.In → (lexeme : Lexeme) → Wants list lexeme (if is_end lexeme then 6 else 5)
items_asked list may Lexeme.End = Wants.output list may
items_asked list may lexeme = Wants.statement list lexeme may refl

-- what is wanted is what the stack says
asked : (wants : List Want) (list : List Lexeme) → Behind wants list → (wants ≡ [] → ⊥) → (lexeme : Lexeme) → Wants list lexeme (cause_of wants lexeme)
asked [] list b some lexeme = absurd (some refl)
asked (Want.Version ∷ wants) list b some lexeme = b.0 lexeme
asked (Want.VersionNumber ∷ wants) list b some lexeme = b.0 lexeme
asked (Want.Items seen ∷ wants) list b some lexeme = items_asked list (follows (Want.Items seen ∷ wants) Lexeme.In list b (λ e. cc e)) lexeme
asked (Want.Extents seen ∷ wants) list b some lexeme = items_asked list (follows (Want.Extents seen ∷ wants) Lexeme.In list b (λ e. cc e)) lexeme
asked (Want.AName ∷ wants) list b some lexeme = b.0 lexeme
asked (Want.AnEqual ∷ wants) list b some lexeme = Wants.equal list lexeme (front_behind wants _ b.1)
asked (Want.AnExpr depth ∷ wants) list b some lexeme =
    Wants.expression list lexeme (follows (Want.AnExpr depth ∷ wants) (Lexeme.Sign sign.Open) list b (λ e. cc e))
asked (Want.AClose ∷ wants) list b some lexeme = Wants.close list lexeme (front_behind wants _ b.1)
asked (Want.AList ∷ wants) list b some lexeme =
    Wants.list list lexeme (follows (Want.AList ∷ wants) (Lexeme.Sign sign.Less) list b (λ e. cc e))
asked (Want.Entries ∷ wants) list b some lexeme = Wants.entry list lexeme (front_behind wants _ (b.1 []))
asked (Want.ANumber ∷ wants) list b some lexeme = b.0 lexeme
asked (Want.AFold ∷ wants) list b some lexeme = b.0 lexeme
asked (Want.AnOp ∷ wants) list b some lexeme = b.0 lexeme
asked (Want.Never ∷ wants) list b some lexeme = absurd b.0

pub wants_cause : (list : List Lexeme) → (wants_after at_start list ≡ stuck → ⊥) → (wants_after at_start list ≡ [] → ⊥) → (lexeme : Lexeme)
    → Wants list lexeme (cause_of (wants_after at_start list) lexeme)
wants_cause list on some lexeme = asked (wants_after at_start list) list (behind list on) some lexeme

-- What the parts of a form lead to, form by form.
use Rattle.std.proofs.Common.{◌≡◌, ◌≢◌, ℕ, suc, true, false, List, [], ◌∷◌, refl, sym, ap, ◌∙◌, subst, arith, length}
use Rattle.std.specs.Prelude.{ℤ, ◌==◌, if◌then◌else◌}
use Rattle.std.specs.declared.option.Option.TheVariants.{None, Some}
use Rattle.text_tokens.specs.declared.token.Position.{Position}
use Rattle.text_tokens.specs.declared.token.Sign.TheVariants as sign
use Rattle.moa_tree.specs.declared.operator.Op.{Op}
use Rattle.moa_tree.specs.declared.operator.Unary.{Unary}
use Rattle.moa_tree.specs.declared.tree.Node.TheVariants as node
use Rattle.moa_tree.specs.declared.tree.Numbers.{Numbers}
use Rattle.moa_tree.specs.Expected.{Want, next, on_expr, stuck}
use Rattle.moa_tree.specs.Expr.{Expr}
use Rattle.moa_tree.specs.Outcome.{depth_refusal, is_stuck, refusal, refused_or}
use Rattle.moa_tree.specs.Pool.{list_at}
use Rattle.moa_tree.specs.Pools.{Pools}
use Rattle.moa_tree.specs.Positions.{begins_expression}
use Rattle.moa_tree.specs.Trees.{and_then, expr_at, form_at, listed_at as find_list, one_at, statements_in}
use Rattle.moa_tree.specs.Vocabulary.{Lexeme, is_fold}
use Rattle.moa_reader.specs.declared.error.ReadError.{ReadError}
use Rattle.moa_reader.specs.declared.error.ReadError.TheVariants as error
use Rattle.moa_reader.specs.declared.frames.Frame.TheVariants as frame
use Rattle.moa_reader.specs.declared.forms.OneForm.{OneForm}
use Rattle.moa_reader.specs.declared.forms.OneForm.TheVariants as one
use Rattle.moa_reader.specs.declared.forms.FoldForm.{FoldForm}
use Rattle.moa_reader.specs.declared.forms.FoldForm.TheVariants as folded
use Rattle.moa_reader.specs.declared.forms.ListForm.{ListForm}
use Rattle.moa_reader.specs.declared.forms.ListForm.TheVariants as listed
use Rattle.moa_reader.specs.declared.forms.TwoForm.TheVariants as two
use Rattle.moa_reader.specs.Build.{with_node}
use Rattle.moa_reader.specs.Forms.{form_lists, lexeme_of_fold, lexeme_of_list, one_of, with_fold, with_list}
use Rattle.moa_reader.specs.Frames.{tree_in}
use Rattle.moa_reader.specs.Heads.{AddsList, ReadsFrame, ReadsWhole, begins, place_of}
use Rattle.moa_reader.specs.Lists.{TakesList}
use Rattle.moa_reader.specs.Outcomes.{IsRefusedWith, Leads, Passes, course_of, outcome_along}
use Rattle.moa_reader.specs.Sources.{Ahead, Placed, Takes, all, left}
use Rattle.moa_reader.proofs.ListLemmas.{if_here, leads_by, leads_taken, passes_taken, refused_behind, refused_later, takes, takes_left, takes_one}

-- a form that has no parts before its operands
module _ (old : Ahead) (pools : Pools) (at : Position) where
  pub unary_begins : (op : Unary) → ReadsFrame (Lexeme.Unary op) at old pools (frame.One (one.Unary op) at) old pools
  unary_begins op = record { found = λ levels. refl; passes = λ depth wants free tree. refl; statements = λ levels. refl; stands = refl; adds = refl; fresh = refl; fewer = omega arith }

  pub reverse_begins : ReadsFrame Lexeme.Reverse at old pools (frame.One one.Reverse at) old pools
  reverse_begins = record { found = λ levels. refl; passes = λ depth wants free tree. refl; statements = λ levels. refl; stands = refl; adds = refl; fresh = refl; fewer = omega arith }

  pub transpose_begins : ReadsFrame Lexeme.Transpose at old pools (frame.One one.Transpose at) old pools
  transpose_begins = record { found = λ levels. refl; passes = λ depth wants free tree. refl; statements = λ levels. refl; stands = refl; adds = refl; fresh = refl; fewer = omega arith }

  pub ravel_begins : ReadsFrame Lexeme.Ravel at old pools (frame.One one.Ravel at) old pools
  ravel_begins = record { found = λ levels. refl; passes = λ depth wants free tree. refl; statements = λ levels. refl; stands = refl; adds = refl; fresh = refl; fewer = omega arith }

  pub binary_begins : (op : Op) → ReadsFrame (Lexeme.Binary op) at old pools (frame.First (two.Binary op) at) old pools
  binary_begins op = record { found = λ levels. refl; passes = λ depth wants free tree. refl; statements = λ levels. refl; stands = refl; adds = refl; fresh = refl; fewer = omega arith }

  pub cat_begins : ReadsFrame Lexeme.Cat at old pools (frame.First two.Cat at) old pools
  cat_begins = record { found = λ levels. refl; passes = λ depth wants free tree. refl; statements = λ levels. refl; stands = refl; adds = refl; fresh = refl; fewer = omega arith }

  pub parentheses_begin : ReadsFrame (Lexeme.Sign sign.Open) at old pools frame.Parentheses old pools
  parentheses_begin = record { found = λ levels. refl; passes = λ depth wants free tree. refl; statements = λ levels. refl; stands = refl; adds = refl; fresh = refl; fewer = omega arith }

-- behind a list
module _ (old : Ahead) (before : Pools) (list : Numbers) (new : Ahead) (behind : Pools) (taken : TakesList old before list new behind) (at : Position) where
  list_begins : (first : Lexeme) (form : OneForm) (make : List ℤ → Expr → Expr)
      → ((levels : ℕ) (rest : List Lexeme) → form_at (expr_at levels) first rest ≡ and_then (find_list rest) (λ values behind. one_at (expr_at levels) (make values) behind))
      → ((pool : List ℤ) → one_of pool form ≡ make (list_at pool list))
      → ((depth : ℕ) (wants : List Want) → on_expr depth wants first ≡ Want.AList ∷ Want.AnExpr (suc depth) ∷ wants)
      → form_lists form ≡ list ∷ [] → place_of first at ≡ at ∷ []
      → ReadsFrame first at old before (frame.One form at) new behind
  list_begins first form make finds makes wanted lists stands = record {
    found = λ levels.
        finds levels (left old)
        ∙ ap (λ found. and_then found (λ values behind. one_at (expr_at levels) (make values) behind)) taken.found
        ∙ ap (λ f. and_then (expr_at levels (left new)) (λ of behind. Some (f of, behind))) (sym (makes behind.numbers));
    passes = λ depth wants free tree.
        ap (λ those. course_of tree those (all old)) (wanted depth wants)
        ∙ taken.passes (Want.AnExpr (suc depth) ∷ wants) refl tree;
    statements = taken.statements;
    stands = stands;
    adds = let P : List Numbers → Type 0 = λ lists. AddsList before lists behind in subst P (sym lists) (taken.added, taken.start, taken.end);
    fresh = refl;
    fewer = taken.fewer;
  }

  pub listed_begins : (form : ListForm) → ReadsFrame (lexeme_of_list form) at old before (frame.One (with_list form list) at) new behind
  listed_begins listed.Psi = list_begins Lexeme.Psi (one.Psi list) Expr.Psi (λ levels rest. refl) (λ pool. refl) (λ depth wants. refl) refl refl
  listed_begins listed.Take = list_begins Lexeme.Take (one.Take list) Expr.Take (λ levels rest. refl) (λ pool. refl) (λ depth wants. refl) refl refl
  listed_begins listed.Drop = list_begins Lexeme.Drop (one.Drop list) Expr.Drop (λ levels rest. refl) (λ pool. refl) (λ depth wants. refl) refl refl
  listed_begins listed.Permute = list_begins Lexeme.Permute (one.Permute list) Expr.Permute (λ levels rest. refl) (λ pool. refl) (λ depth wants. refl) refl refl
  listed_begins listed.Reshape = list_begins Lexeme.Reshape (one.Reshape list) Expr.Reshape (λ levels rest. refl) (λ pool. refl) (λ depth wants. refl) refl refl

-- what a form with a list, or one with a fold, wants
pub listed_wants : (form : ListForm) (depth : ℕ) (wants : List Want) → on_expr depth wants (lexeme_of_list form) ≡ Want.AList ∷ Want.AnExpr (suc depth) ∷ wants
listed_wants listed.Psi depth wants = refl
listed_wants listed.Take depth wants = refl
listed_wants listed.Drop depth wants = refl
listed_wants listed.Permute depth wants = refl
listed_wants listed.Reshape depth wants = refl

pub listed_refused : (form : ListForm) (lexemes : Placed) (error : ReadError) → ((wants : List Want) → IsRefusedWith (Want.AList ∷ wants) lexemes error)
    → (depth : ℕ) (wants : List Want) → is_stuck wants ≡ false → IsRefusedWith (on_expr depth wants (lexeme_of_list form)) lexemes error
listed_refused form lexemes error refused depth wants free =
    let P : List Want → Type 0 = λ those. IsRefusedWith those lexemes error in
    subst P (sym (listed_wants form depth wants)) (refused (Want.AnExpr (suc depth) ∷ wants))

pub folded_refused : (form : FoldForm) (lexemes : Placed) (error : ReadError) → ((wants : List Want) → IsRefusedWith (Want.AFold ∷ wants) lexemes error)
    → (depth : ℕ) (wants : List Want) → is_stuck wants ≡ false → IsRefusedWith (on_expr depth wants (lexeme_of_fold form)) lexemes error
folded_refused folded.Reduce lexemes error refused depth wants free = refused (Want.AnExpr (suc depth) ∷ wants)
folded_refused folded.Scan lexemes error refused depth wants free = refused (Want.AnExpr (suc depth) ∷ wants)

-- behind a number
pub iota_read : (old new : Ahead) (before behind : Pools) (extent : ℤ) (at : Position) (number : ℕ) → Takes old (Lexeme.Number extent) new
    → behind ≡ with_node before (node.Iota extent) at → number ≡ length before.nodes → tree_in behind number ≡ Expr.Iota extent
    → ReadsWhole Lexeme.Iota at old before number new behind
iota_read old new before behind extent at number taken added numbered tree =
    let e = takes_left old new (Lexeme.Number extent) taken in
    record {
      found = λ levels. ap (form_at (expr_at levels) Lexeme.Iota) e ∙ ap (λ expr. Some (expr, left new)) (sym tree);
      passes = λ depth wants free.
          passes_taken (Want.ANumber ∷ wants) old new (Lexeme.Number extent) taken (ap (λ test. if test then Some 12 else None) free) refl refl;
      statements = λ levels. ap (statements_in levels) e;
      stands = refl;
      adds = record { node = node.Iota extent; added = added; numbered = numbered; alone = refl; without_list = refl };
      fewer = omega (arith, takes_one old new (Lexeme.Number extent) taken);
    }

pub rotate_begins : (old new : Ahead) (pools : Pools) (by : ℤ) (at : Position) → Takes old (Lexeme.Number by) new
    → ReadsFrame Lexeme.Rotate at old pools (frame.One (one.Rotate by) at) new pools
rotate_begins old new pools by at taken =
    let e = takes_left old new (Lexeme.Number by) taken in
    record {
      found = λ levels. ap (form_at (expr_at levels) Lexeme.Rotate) e;
      passes = λ depth wants free. passes_taken (Want.ANumber ∷ Want.AnExpr (suc depth) ∷ wants) old new (Lexeme.Number by) taken refl refl refl;
      statements = λ levels. ap (statements_in levels) e;
      stands = refl;
      adds = refl;
      fresh = refl;
      fewer = omega (arith, takes_one old new (Lexeme.Number by) taken);
    }

-- behind operators
pub outer_begins : (old new : Ahead) (pools : Pools) (op : Op) (at : Position) → Takes old (Lexeme.Binary op) new
    → ReadsFrame Lexeme.Outer at old pools (frame.First (two.Outer op) at) new pools
outer_begins old new pools op at taken =
    let e = takes_left old new (Lexeme.Binary op) taken in
    record {
      found = λ levels. ap (form_at (expr_at levels) Lexeme.Outer) e;
      passes = λ depth wants free. passes_taken (Want.AnOp ∷ Want.AnExpr (suc depth) ∷ Want.AnExpr (suc depth) ∷ wants) old new (Lexeme.Binary op) taken refl refl refl;
      statements = λ levels. ap (statements_in levels) e;
      stands = refl;
      adds = refl;
      fresh = refl;
      fewer = omega (arith, takes_one old new (Lexeme.Binary op) taken);
    }

passes_fold : (wants : List Want) (old new : Ahead) (op : Op) → Takes old (Lexeme.Binary op) new → is_fold op ≡ true → is_stuck wants ≡ false
    → Passes (Want.AFold ∷ wants) (all old) wants (all new)
passes_fold wants old new op taken folds free tree =
    passes_taken (Want.AFold ∷ wants) old new (Lexeme.Binary op) taken
    (ap (λ test. if is_stuck (if test then wants else stuck) then Some 13 else None) folds ∙ ap (λ test. if test then Some 13 else None) free) refl refl tree
    ∙ ap (λ test. course_of tree (if test then wants else stuck) (all new)) folds

pub folded_begins : (form : FoldForm) (old new : Ahead) (pools : Pools) (op : Op) (at : Position) → Takes old (Lexeme.Binary op) new → is_fold op ≡ true
    → ReadsFrame (lexeme_of_fold form) at old pools (frame.One (with_fold form op) at) new pools
folded_begins folded.Reduce old new pools op at taken folds =
    let e = takes_left old new (Lexeme.Binary op) taken in
    record {
      found = λ levels. ap (form_at (expr_at levels) Lexeme.Reduce) e;
      passes = λ depth wants free. passes_fold (Want.AnExpr (suc depth) ∷ wants) old new op taken folds refl;
      statements = λ levels. ap (statements_in levels) e;
      stands = refl;
      adds = refl;
      fresh = refl;
      fewer = omega (arith, takes_one old new (Lexeme.Binary op) taken);
    }
folded_begins folded.Scan old new pools op at taken folds =
    let e = takes_left old new (Lexeme.Binary op) taken in
    record {
      found = λ levels. ap (form_at (expr_at levels) Lexeme.Scan) e;
      passes = λ depth wants free. passes_fold (Want.AnExpr (suc depth) ∷ wants) old new op taken folds refl;
      statements = λ levels. ap (statements_in levels) e;
      stands = refl;
      adds = refl;
      fresh = refl;
      fewer = omega (arith, takes_one old new (Lexeme.Binary op) taken);
    }

pub inner_begins : (old middle new : Ahead) (pools : Pools) (fold op : Op) (at : Position) → Takes old (Lexeme.Binary fold) middle → is_fold fold ≡ true
    → Takes middle (Lexeme.Binary op) new → ReadsFrame Lexeme.Inner at old pools (frame.First (two.Inner fold op) at) new pools
inner_begins old middle new pools fold op at taken folds second =
    let e = takes_left old middle (Lexeme.Binary fold) taken ∙ ap (λ others. Lexeme.Binary fold ∷ others) (takes_left middle new (Lexeme.Binary op) second) in
    record {
      found = λ levels. ap (form_at (expr_at levels) Lexeme.Inner) e;
      passes = λ depth wants free tree.
          passes_fold (Want.AnOp ∷ Want.AnExpr (suc depth) ∷ Want.AnExpr (suc depth) ∷ wants) old middle fold taken folds refl tree
          ∙ passes_taken (Want.AnOp ∷ Want.AnExpr (suc depth) ∷ Want.AnExpr (suc depth) ∷ wants) middle new (Lexeme.Binary op) second refl refl refl tree;
      statements = λ levels. ap (statements_in levels) e;
      stands = refl;
      adds = refl;
      fresh = refl;
      fewer = omega (arith, takes_one old middle (Lexeme.Binary fold) taken, takes_one middle new (Lexeme.Binary op) second);
    }

-- an inner product whose second operator is wanting is refused
pub inner_refused : (old middle : Ahead) (op : Op) (error : ReadError) → Takes old (Lexeme.Binary op) middle → is_fold op ≡ true
    → ((wants : List Want) → IsRefusedWith (Want.AnOp ∷ wants) (all middle) error)
    → (depth : ℕ) (wants : List Want) → is_stuck wants ≡ false → IsRefusedWith (on_expr depth wants Lexeme.Inner) (all old) error
inner_refused old middle op error taken folds refused depth wants free =
    let rest = Want.AnExpr (suc depth) ∷ Want.AnExpr (suc depth) ∷ wants in
    refused_behind (Want.AFold ∷ Want.AnOp ∷ rest) (Want.AnOp ∷ rest) (all old) (all middle) error
    (passes_fold (Want.AnOp ∷ rest) old middle op taken folds refl) (refused rest)

-- a number or a name is all of an expression
pub number_read : (old : Ahead) (before behind : Pools) (value : ℤ) (at : Position) (number : ℕ)
    → behind ≡ with_node before (node.Number value) at → number ≡ length before.nodes → tree_in behind number ≡ Expr.Number value
    → ReadsWhole (Lexeme.Number value) at old before number old behind
number_read old before behind value at number added numbered tree = record {
  found = λ levels. ap (λ expr. Some (expr, left old)) (sym tree);
  passes = λ depth wants free other. refl;
  statements = λ levels. refl;
  stands = refl;
  adds = record { node = node.Number value; added = added; numbered = numbered; alone = refl; without_list = refl };
  fewer = omega arith;
}

pub name_read : (old : Ahead) (before behind : Pools) (name : List ℕ) (at : Position) (number : ℕ)
    → behind ≡ with_node before (node.Use name) at → number ≡ length before.nodes → tree_in behind number ≡ Expr.Use name
    → ReadsWhole (Lexeme.Name name) at old before number old behind
name_read old before behind name at number added numbered tree = record {
  found = λ levels. ap (λ expr. Some (expr, left old)) (sym tree);
  passes = λ depth wants free other. refl;
  statements = λ levels. refl;
  stands = refl;
  adds = record { node = node.Use name; added = added; numbered = numbered; alone = refl; without_list = refl };
  fewer = omega arith;
}

-- what begins an expression is refused for its depth at most
pub begins_refusal : (lexeme : Lexeme) (depth : ℕ) (wants : List Want) → begins lexeme ≡ true → is_stuck wants ≡ false
    → refusal (Want.AnExpr depth ∷ wants) lexeme ≡ depth_refusal depth
begins_refusal (Lexeme.Number value) depth wants h free = ap (λ test. if test then Some 9 else depth_refusal depth) free
begins_refusal (Lexeme.Name name) depth wants h free = ap (λ test. if test then Some 9 else depth_refusal depth) free
begins_refusal (Lexeme.Sign sign.Open) depth wants h free = refl
begins_refusal (Lexeme.Sign sign) depth wants h free = absurd (cc h)
begins_refusal Lexeme.In depth wants h free = absurd (cc h)
begins_refusal Lexeme.Let depth wants h free = absurd (cc h)
begins_refusal Lexeme.Out depth wants h free = absurd (cc h)
begins_refusal Lexeme.End depth wants h free = absurd (cc h)
begins_refusal Lexeme.Malformed depth wants h free = absurd (cc h)
begins_refusal Lexeme.OutOfRange depth wants h free = absurd (cc h)
begins_refusal Lexeme.LongWord depth wants h free = absurd (cc h)
begins_refusal _ depth wants h free = refl

pub begins_none : (lexeme : Lexeme) (depth : ℕ) (wants : List Want) → begins lexeme ≡ false → next (Want.AnExpr depth ∷ wants) lexeme ≡ stuck
begins_none Lexeme.In depth wants h = refl
begins_none Lexeme.Let depth wants h = refl
begins_none Lexeme.Out depth wants h = refl
begins_none Lexeme.End depth wants h = refl
begins_none Lexeme.Malformed depth wants h = refl
begins_none Lexeme.OutOfRange depth wants h = refl
begins_none Lexeme.LongWord depth wants h = refl
begins_none (Lexeme.Sign sign.Less) depth wants h = refl
begins_none (Lexeme.Sign sign.Greater) depth wants h = refl
begins_none (Lexeme.Sign sign.Close) depth wants h = refl
begins_none (Lexeme.Sign sign.Equal) depth wants h = refl
begins_none _ depth wants h = absurd (cc h)

-- no statement begins with it
pub begins_no_statement : (lexeme : Lexeme) (levels : ℕ) (rest : List Lexeme) → begins lexeme ≡ true → statements_in levels (lexeme ∷ rest) ≡ statements_in levels rest
begins_no_statement Lexeme.In levels rest h = absurd (cc h)
begins_no_statement Lexeme.Let levels rest h = absurd (cc h)
begins_no_statement Lexeme.Out levels rest h = absurd (cc h)
begins_no_statement _ levels rest h = refl

pub begins_on : (lexeme : Lexeme) → begins lexeme ≡ true → lexeme ≢ Lexeme.End
begins_on lexeme h e = cc (sym (ap begins e) ∙ h)

-- an expression that stands too deep is refused where it begins
pub too_deep : (old : Ahead) (depth : ℕ) (wants : List Want) → begins old.lexeme ≡ true → (depth == 129) ≡ true → is_stuck wants ≡ false
    → IsRefusedWith (Want.AnExpr depth ∷ wants) (all old) (error.Text old.at 14)
too_deep old depth wants h deep free tree =
    ap (λ found. refused_or found old.at (outcome_along tree (on_expr depth wants old.lexeme) old.behind))
    (begins_refusal old.lexeme depth wants h free ∙ ap (λ test. if test then Some 14 else None) deep)

begins_place : (first : Lexeme) (depth : ℕ) (wants : List Want) (at : Position) → if_here (begins_expression (Want.AnExpr depth ∷ wants) first) at ≡ place_of first at
begins_place (Lexeme.Sign sign.Open) depth wants at = refl
begins_place _ depth wants at = refl

-- the first lexeme of an expression that does not stand too deep
pub first_leads : (old middle : Ahead) (first : Lexeme) (depth : ℕ) (wants : List Want) → Takes old first middle → begins first ≡ true
    → (depth == 129) ≡ false → is_stuck wants ≡ false
    → Leads (place_of first old.at) [] (Want.AnExpr depth ∷ wants) (all old) (on_expr depth wants first) (all middle)
first_leads old middle first depth wants taken h shallow free =
    let wanted = Want.AnExpr depth ∷ wants in
    leads_by (if_here (begins_expression wanted first) old.at) (place_of first old.at) wanted (on_expr depth wants first) (all old) (all middle)
    (begins_place first depth wants old.at)
    (leads_taken wanted old middle first (begins_expression wanted first) false taken
    (begins_refusal first depth wants h free ∙ ap (λ test. if test then Some 14 else None) shallow) refl refl)

-- what is refused behind the first lexeme
pub rest_refused : (old middle : Ahead) (first : Lexeme) (error : ReadError) → first ≡ old.lexeme → begins first ≡ true → all middle ≡ old.behind
    → ((depth : ℕ) (wants : List Want) → is_stuck wants ≡ false → IsRefusedWith (on_expr depth wants first) (all middle) error)
    → (depth : ℕ) (wants : List Want) → (depth == 129) ≡ false → is_stuck wants ≡ false → IsRefusedWith (Want.AnExpr depth ∷ wants) (all old) error
rest_refused old middle first error e h follows refused depth wants shallow free =
    refused_later (Want.AnExpr depth ∷ wants) (on_expr depth wants first) (all old) (all middle) error
    (λ tree. ap (λ course. course.outcome) (first_leads old middle first depth wants (takes old middle first (sym e) follows) h shallow free tree))
    (refused depth wants free)

-- What is wanted next behind some lexemes, as a stack that is carried from the left: it decides what a front is. This project's own.
use Rattle.std.specs.Prelude.{ℕ, suc, Bool, true, false, List, [], ◌∷◌, if◌then◌else◌}
use Rattle.std.specs.List.{fold}
use Rattle.std.specs.Option.{is_some}
use Rattle.text_tokens.specs.declared.token.Sign.TheVariants as sign
use Rattle.moa_tree.specs.Refusals.{is_end}
use Rattle.moa_tree.specs.Vocabulary.{Lexeme, is_fold, version_numbered}

pub data Want : Type 0 where
  Version VersionNumber : Want
  -- a statement, or the end where an output was seen; after an input's name also a number
  Items : (seen : Bool) → Want
  Extents : (seen : Bool) → Want
  AName AnEqual : Want
  -- an expression at this depth
  AnExpr : (depth : ℕ) → Want
  AClose AList Entries ANumber AFold AnOp : Want
  Never : Want

-- nothing can follow
abbrev pub stuck : List Want
stuck = Want.Never ∷ []

abbrev pub on_name : List Want → Lexeme → List Want
on_name wants (Lexeme.Name word) = wants
on_name wants _ = stuck

abbrev pub on_number : List Want → Lexeme → List Want
on_number wants (Lexeme.Number value) = wants
on_number wants _ = stuck

abbrev pub on_version : List Want → Lexeme → List Want
on_version wants Lexeme.Psi = wants
on_version wants _ = stuck

abbrev pub on_version_number : List Want → Lexeme → List Want
on_version_number wants (Lexeme.Number value) = if is_some (version_numbered value) then wants else stuck
on_version_number wants _ = stuck

abbrev pub on_equal : List Want → Lexeme → List Want
on_equal wants (Lexeme.Sign sign.Equal) = wants
on_equal wants _ = stuck

abbrev pub on_close : List Want → Lexeme → List Want
on_close wants (Lexeme.Sign sign.Close) = wants
on_close wants _ = stuck

abbrev pub on_list : List Want → Lexeme → List Want
on_list wants (Lexeme.Sign sign.Less) = Want.Entries ∷ wants
on_list wants _ = stuck

abbrev pub on_entries : List Want → Lexeme → List Want
on_entries wants (Lexeme.Number value) = Want.Entries ∷ wants
on_entries wants (Lexeme.Sign sign.Greater) = wants
on_entries wants _ = stuck

abbrev pub on_op : List Want → Lexeme → List Want
on_op wants (Lexeme.Binary op) = wants
on_op wants _ = stuck

abbrev pub on_fold : List Want → Lexeme → List Want
on_fold wants (Lexeme.Binary op) = if is_fold op then wants else stuck
on_fold wants _ = stuck

abbrev pub on_items : Bool → List Want → Lexeme → List Want
on_items seen wants Lexeme.In = Want.AName ∷ Want.Extents seen ∷ wants
on_items seen wants Lexeme.Let = Want.AName ∷ Want.AnEqual ∷ Want.AnExpr 1 ∷ Want.Items seen ∷ wants
on_items seen wants Lexeme.Out = Want.AName ∷ Want.AnEqual ∷ Want.AnExpr 1 ∷ Want.Items true ∷ wants
on_items seen wants Lexeme.End = if seen then wants else stuck
on_items seen wants _ = stuck

abbrev pub on_extents : Bool → List Want → Lexeme → List Want
on_extents seen wants (Lexeme.Number value) = Want.Extents seen ∷ wants
on_extents seen wants other = on_items seen wants other

abbrev pub on_expr : ℕ → List Want → Lexeme → List Want
on_expr depth wants (Lexeme.Number value) = wants
on_expr depth wants (Lexeme.Name word) = wants
on_expr depth wants Lexeme.Iota = Want.ANumber ∷ wants
on_expr depth wants (Lexeme.Sign sign.Open) = Want.AnExpr (suc depth) ∷ Want.AClose ∷ wants
on_expr depth wants (Lexeme.Unary op) = Want.AnExpr (suc depth) ∷ wants
on_expr depth wants (Lexeme.Binary op) = Want.AnExpr (suc depth) ∷ Want.AnExpr (suc depth) ∷ wants
on_expr depth wants Lexeme.Psi = Want.AList ∷ Want.AnExpr (suc depth) ∷ wants
on_expr depth wants Lexeme.Take = Want.AList ∷ Want.AnExpr (suc depth) ∷ wants
on_expr depth wants Lexeme.Drop = Want.AList ∷ Want.AnExpr (suc depth) ∷ wants
on_expr depth wants Lexeme.Permute = Want.AList ∷ Want.AnExpr (suc depth) ∷ wants
on_expr depth wants Lexeme.Reshape = Want.AList ∷ Want.AnExpr (suc depth) ∷ wants
on_expr depth wants Lexeme.Reverse = Want.AnExpr (suc depth) ∷ wants
on_expr depth wants Lexeme.Transpose = Want.AnExpr (suc depth) ∷ wants
on_expr depth wants Lexeme.Ravel = Want.AnExpr (suc depth) ∷ wants
on_expr depth wants Lexeme.Rotate = Want.ANumber ∷ Want.AnExpr (suc depth) ∷ wants
on_expr depth wants Lexeme.Cat = Want.AnExpr (suc depth) ∷ Want.AnExpr (suc depth) ∷ wants
on_expr depth wants Lexeme.Outer = Want.AnOp ∷ Want.AnExpr (suc depth) ∷ Want.AnExpr (suc depth) ∷ wants
on_expr depth wants Lexeme.Inner = Want.AFold ∷ Want.AnOp ∷ Want.AnExpr (suc depth) ∷ Want.AnExpr (suc depth) ∷ wants
on_expr depth wants Lexeme.Reduce = Want.AFold ∷ Want.AnExpr (suc depth) ∷ wants
on_expr depth wants Lexeme.Scan = Want.AFold ∷ Want.AnExpr (suc depth) ∷ wants
on_expr depth wants _ = stuck

-- what is wanted behind one lexeme more
abbrev pub next : List Want → Lexeme → List Want
next [] lexeme = stuck
next (Want.Version ∷ wants) lexeme = on_version wants lexeme
next (Want.VersionNumber ∷ wants) lexeme = on_version_number wants lexeme
next (Want.Items seen ∷ wants) lexeme = on_items seen wants lexeme
next (Want.Extents seen ∷ wants) lexeme = on_extents seen wants lexeme
next (Want.AName ∷ wants) lexeme = on_name wants lexeme
next (Want.AnEqual ∷ wants) lexeme = on_equal wants lexeme
next (Want.AnExpr depth ∷ wants) lexeme = on_expr depth wants lexeme
next (Want.AClose ∷ wants) lexeme = on_close wants lexeme
next (Want.AList ∷ wants) lexeme = on_list wants lexeme
next (Want.Entries ∷ wants) lexeme = on_entries wants lexeme
next (Want.ANumber ∷ wants) lexeme = on_number wants lexeme
next (Want.AFold ∷ wants) lexeme = on_fold wants lexeme
next (Want.AnOp ∷ wants) lexeme = on_op wants lexeme
next (Want.Never ∷ wants) lexeme = stuck

-- what is wanted behind these lexemes
abbrev pub wants_after : List Want → List Lexeme → List Want
wants_after wants lexemes = fold next wants lexemes

-- what a text wants
abbrev pub at_start : List Want
at_start = Want.Version ∷ Want.VersionNumber ∷ Want.Items false ∷ []

-- the depth of the expression that is wanted, or 0
abbrev pub wanted_depth : List Want → ℕ
wanted_depth (Want.AnExpr depth ∷ wants) = depth
wanted_depth _ = 0

-- the cause that the first want gives
abbrev pub cause_of : List Want → Lexeme → ℕ
cause_of (Want.Version ∷ wants) lexeme = 4
cause_of (Want.VersionNumber ∷ wants) lexeme = 4
cause_of (Want.Items seen ∷ wants) lexeme = if is_end lexeme then 6 else 5
cause_of (Want.Extents seen ∷ wants) lexeme = if is_end lexeme then 6 else 5
cause_of (Want.AName ∷ wants) lexeme = 7
cause_of (Want.AnEqual ∷ wants) lexeme = 8
cause_of (Want.AnExpr depth ∷ wants) lexeme = 9
cause_of (Want.AClose ∷ wants) lexeme = 10
cause_of (Want.AList ∷ wants) lexeme = 11
cause_of (Want.Entries ∷ wants) lexeme = 12
cause_of (Want.ANumber ∷ wants) lexeme = 12
cause_of (Want.AFold ∷ wants) lexeme = 13
cause_of (Want.AnOp ∷ wants) lexeme = 13
cause_of (Want.Never ∷ wants) lexeme = 0
cause_of [] lexeme = 0

-- What forms make of their operands. This project's own.
use Rattle.std.specs.Prelude.{ℤ, List, [], ◌∷◌}
use Rattle.moa_tree.specs.declared.operator.Op.{Op}
use Rattle.moa_tree.specs.declared.tree.Numbers.{Numbers}
use Rattle.moa_tree.specs.Expr.{Expr}
use Rattle.moa_tree.specs.Pool.{list_at}
use Rattle.moa_tree.specs.Vocabulary.{Lexeme}
use Rattle.moa_reader.specs.declared.forms.FoldForm.{FoldForm}
use Rattle.moa_reader.specs.declared.forms.FoldForm.TheVariants as folded
use Rattle.moa_reader.specs.declared.forms.ListForm.{ListForm}
use Rattle.moa_reader.specs.declared.forms.ListForm.TheVariants as listed
use Rattle.moa_reader.specs.declared.forms.OneForm.{OneForm}
use Rattle.moa_reader.specs.declared.forms.OneForm.TheVariants as one
use Rattle.moa_reader.specs.declared.forms.TwoForm.{TwoForm}
use Rattle.moa_reader.specs.declared.forms.TwoForm.TheVariants as two

abbrev pub one_of : List ℤ → OneForm → Expr → Expr
one_of pool (one.Unary op) of = Expr.One op of
one_of pool (one.Psi list) of = Expr.Psi (list_at pool list) of
one_of pool (one.Take list) of = Expr.Take (list_at pool list) of
one_of pool (one.Drop list) of = Expr.Drop (list_at pool list) of
one_of pool (one.Permute list) of = Expr.Permute (list_at pool list) of
one_of pool (one.Reshape list) of = Expr.Reshape (list_at pool list) of
one_of pool one.Reverse of = Expr.Reverse of
one_of pool one.Transpose of = Expr.Transpose of
one_of pool one.Ravel of = Expr.Ravel of
one_of pool (one.Rotate by) of = Expr.Rotate by of
one_of pool (one.Reduce fold) of = Expr.Reduce fold of
one_of pool (one.Scan fold) of = Expr.Scan fold of

abbrev pub two_of : TwoForm → Expr → Expr → Expr
two_of (two.Binary op) left right = Expr.Two op left right
two_of two.Cat left right = Expr.Cat left right
two_of (two.Outer op) left right = Expr.Outer op left right
two_of (two.Inner fold op) left right = Expr.Inner fold op left right

-- the list of a form
abbrev pub form_lists : OneForm → List Numbers
form_lists (one.Psi list) = list ∷ []
form_lists (one.Take list) = list ∷ []
form_lists (one.Drop list) = list ∷ []
form_lists (one.Permute list) = list ∷ []
form_lists (one.Reshape list) = list ∷ []
form_lists _ = []

-- a form with its list, or with its operator that folds, and its word
abbrev pub with_list : ListForm → Numbers → OneForm
with_list listed.Psi list = one.Psi list
with_list listed.Take list = one.Take list
with_list listed.Drop list = one.Drop list
with_list listed.Permute list = one.Permute list
with_list listed.Reshape list = one.Reshape list

abbrev pub lexeme_of_list : ListForm → Lexeme
lexeme_of_list listed.Psi = Lexeme.Psi
lexeme_of_list listed.Take = Lexeme.Take
lexeme_of_list listed.Drop = Lexeme.Drop
lexeme_of_list listed.Permute = Lexeme.Permute
lexeme_of_list listed.Reshape = Lexeme.Reshape

abbrev pub with_fold : FoldForm → Op → OneForm
with_fold folded.Reduce op = one.Reduce op
with_fold folded.Scan op = one.Scan op

abbrev pub lexeme_of_fold : FoldForm → Lexeme
lexeme_of_fold folded.Reduce = Lexeme.Reduce
lexeme_of_fold folded.Scan = Lexeme.Scan

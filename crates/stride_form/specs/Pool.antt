-- Terms of operational forms, and the tree for which a pool of them stands. This project's own.
use Rattle.std.specs.Prelude.{◌≡◌, ◌<◌, ℕ, pos, List, [], ◌∷◌, ◌++◌, slice_index_or}
use Rattle.std.specs.List.{AllByRecursion}
use Rattle.normal_form.specs.declared.term.Term.{Term}
use Rattle.normal_form.specs.declared.term.Term.TheVariants as term
use Rattle.normal_form.specs.Forms.{Lit, Index, Get, Un, Bin, Case, Fold, Let}
use Rattle.stride_form.specs.declared.op_term.OpTerm.{OpTerm}
use Rattle.stride_form.specs.declared.op_term.OpTerm.TheVariants as op
use Rattle.stride_form.specs.Accesses.{word_access}
use Rattle.stride_form.specs.Operational.{Operational}

-- a term with its load spelled as an access, whose start is a word
abbrev pub op_term : Term → OpTerm
op_term (term.Lit value) = op.Lit value
op_term (term.Index entry) = op.Index entry
op_term (term.Load area shape at) = op.Get (word_access (record { area = area; shape = shape; at = at }))
op_term (term.Un operator of) = op.Un operator of
op_term (term.Bin operator left right) = op.Bin operator left right
op_term (term.Case entry below first second) = op.Case entry below first second
op_term (term.Fold operator var low high of) = op.Fold operator var low high of
op_term (term.Let var bind of) = op.Let var bind of

-- the form of a term, among those of the terms before it
abbrev pub op_form_at : List Operational → ℕ → Operational
op_form_at forms number = slice_index_or forms number (Lit (pos 0))

abbrev pub op_form_of : List Operational → OpTerm → Operational
op_form_of forms (op.Lit value) = Lit value
op_form_of forms (op.Index entry) = Index entry
op_form_of forms (op.Get access) = Get access
op_form_of forms (op.Un operator of) = Un operator (op_form_at forms of)
op_form_of forms (op.Bin operator left right) = Bin operator (op_form_at forms left) (op_form_at forms right)
op_form_of forms (op.Case entry below first second) = Case entry below (op_form_at forms first) (op_form_at forms second)
op_form_of forms (op.Fold operator var low high of) = Fold operator var low high (op_form_at forms of)
op_form_of forms (op.Let var bind of) = Let var bind (op_form_at forms of)

-- the forms of some terms behind those that have theirs
abbrev pub op_forms_after : List Operational → List OpTerm → List Operational
op_forms_after before [] = before
op_forms_after before (first ∷ others) = op_forms_after (before ++ op_form_of before first ∷ []) others

-- the form of each term: its operands stand before it
abbrev pub op_forms : List OpTerm → List Operational
op_forms terms = op_forms_after [] terms

-- the terms on which a term works, in order
abbrev pub op_operands : OpTerm → List ℕ
op_operands (op.Lit value) = []
op_operands (op.Index entry) = []
op_operands (op.Get access) = []
op_operands (op.Un operator of) = of ∷ []
op_operands (op.Bin operator left right) = left ∷ right ∷ []
op_operands (op.Case entry below first second) = first ∷ second ∷ []
op_operands (op.Fold operator var low high of) = of ∷ []
op_operands (op.Let var bind of) = of ∷ []

-- a term of a pool: what it stands for is its operator over what its operands stand for, which stand before it
pub record IsOverOperands (terms : List OpTerm) (number : ℕ) (of : OpTerm) : Type 0 where
  pub form : op_form_at (op_forms terms) number ≡ op_form_of (op_forms terms) of
  pub before : AllByRecursion (λ operand. operand < number) (op_operands of)

-- The tree for which a form's pool stands. This project's own.
use Rattle.std.specs.Prelude.{ℕ, pos, List, [], ◌∷◌, ◌++◌, slice_index_or}
use Rattle.normal_form.specs.declared.term.Term.{Term}
use Rattle.normal_form.specs.declared.term.Term.TheVariants as term
use Rattle.normal_form.specs.Forms.{Lit, Index, Get, Un, Bin, Case, Fold, Let, Normal}

-- the form of a term, among those of the terms before it
abbrev pub form_at : List Normal → ℕ → Normal
form_at forms number = slice_index_or forms number (Lit (pos 0))

abbrev pub form_of : List Normal → Term → Normal
form_of forms (term.Lit value) = Lit value
form_of forms (term.Index entry) = Index entry
form_of forms (term.Load area shape at) = Get (record { area = area; shape = shape; at = at })
form_of forms (term.Un op of) = Un op (form_at forms of)
form_of forms (term.Bin op left right) = Bin op (form_at forms left) (form_at forms right)
form_of forms (term.Case entry below first second) = Case entry below (form_at forms first) (form_at forms second)
form_of forms (term.Fold op var low high of) = Fold op var low high (form_at forms of)
form_of forms (term.Let var bind of) = Let var bind (form_at forms of)

-- the forms of some terms behind those that have theirs
abbrev pub forms_after : List Normal → List Term → List Normal
forms_after before [] = before
forms_after before (first ∷ others) = forms_after (before ++ form_of before first ∷ []) others

-- the form of each term: its operands stand before it
abbrev pub forms : List Term → List Normal
forms terms = forms_after [] terms

-- the terms on which a term works, in order
abbrev pub operands : Term → List ℕ
operands (term.Lit value) = []
operands (term.Index entry) = []
operands (term.Load area shape at) = []
operands (term.Un op of) = of ∷ []
operands (term.Bin op left right) = left ∷ right ∷ []
operands (term.Case entry below first second) = first ∷ second ∷ []
operands (term.Fold op var low high of) = of ∷ []
operands (term.Let var bind of) = of ∷ []

-- What stands at the top of a term is the top of what it stands for.
use Rattle.std.specs.Prelude.{◌≡◌, ℕ, List}
use Rattle.std.proofs.Common.{ap, subst, sym, ◌∙◌, refl}
use Rattle.normal_form.specs.Forms.{Get}
use Rattle.stride_form.specs.declared.access.Access.{Access}
use Rattle.stride_form.specs.declared.op_term.OpTerm.{OpTerm}
use Rattle.stride_form.specs.declared.op_term.OpTerm.TheVariants as term
use Rattle.stride_form.specs.Pool.{IsOverOperands, op_form_at, op_form_of, op_forms}
use Rattle.nest_build.specs.Reading.{IsOther, IsPart, part_of}

part-of : (terms : List OpTerm) (number : ℕ) (of : OpTerm) → IsOverOperands terms number of
    → IsPart (op_forms terms) number (op_form_at (op_forms terms) number) (part_of of)
part-of terms number (term.Lit value) h = h.form
part-of terms number (term.Index entry) h = h.form
part-of terms number (term.Get access) h = record { access = access; same = h.form; named = refl }
part-of terms number (term.Un op of) h = (h.form, h.before.0)
part-of terms number (term.Bin op left right) h = (h.form, (h.before.0, h.before.1.0))
part-of terms number (term.Case entry below first second) h = subst IsOther (sym h.form) tt
part-of terms number (term.Fold op var low high of) h = subst IsOther (sym h.form) tt
part-of terms number (term.Let var bind of) h = subst IsOther (sym h.form) tt

pub part-made : (terms : List OpTerm) (number : ℕ) (of variant : OpTerm) → IsOverOperands terms number of → of ≡ variant
    → IsPart (op_forms terms) number (op_form_at (op_forms terms) number) (part_of variant)
part-made terms number of variant h e =
    subst (λ t. IsPart (op_forms terms) number (op_form_at (op_forms terms) number) (part_of t)) e (part-of terms number of h)

-- a term that is an access stands for that one
pub access-made : (terms : List OpTerm) (number : ℕ) (of : OpTerm) (is_access : Access) → IsOverOperands terms number of
    → of ≡ term.Get is_access → (access : Access) → op_form_at (op_forms terms) number ≡ Get access → is_access ≡ access
access-made terms number of is_access h e access made =
    let there : op_form_at (op_forms terms) number ≡ Get is_access = h.form ∙ ap (op_form_of (op_forms terms)) e in cc

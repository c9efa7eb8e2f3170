-- The terms of operational forms, put piece by piece.
use Rattle.std.specs.Prelude.{◌≡◌, ℕ, ◌+◌, List, [], ◌++◌, length, Some, slice_get}
use Rattle.std.proofs.Common.{refl, ap, sym, ◌∙◌, arith}
use Rattle.std.proofs.lemmas.List.{append-nil}
use Rattle.std.proofs.lemmas.Option.{slice_get_within}
use Rattle.stride_form.specs.declared.access.Access.{Access}
use Rattle.stride_form.specs.declared.op_term.OpTerm.{OpTerm}
use Rattle.stride_form.specs.declared.op_term.OpTerm.TheVariants as term
use Rattle.stride_form.specs.Operational.{Operational}
use Rattle.stride_form.specs.Pool.{IsOverOperands, op_form_of, op_forms, op_operands}
use Rattle.form_text.specs.Pieces.{after_head, head_text, pieces_size, pieces_text, size}
use Rattle.form_text.specs.Spelling.{term_text}
use Rattle.form_text.proofs.StackLemmas.{IsMade}

-- a term is its head with what follows it
text : (spelled : Access → List ℕ) (forms : List Operational) (of : OpTerm)
    → term_text spelled (op_form_of forms of) ≡ head_text spelled (op_form_of [] of) ++ pieces_text spelled forms (after_head (op_operands of))
text spelled forms (term.Lit value) = sym (append-nil (head_text spelled (op_form_of [] (term.Lit value))))
text spelled forms (term.Index entry) = sym (append-nil (head_text spelled (op_form_of [] (term.Index entry))))
text spelled forms (term.Get access) = sym (append-nil (head_text spelled (op_form_of [] (term.Get access))))
text spelled forms (term.Un op of) = refl
text spelled forms (term.Bin op left right) = refl
text spelled forms (term.Case entry below first second) = refl
text spelled forms (term.Fold op var low high of) = refl
text spelled forms (term.Let var bind of) = refl

less : (forms : List Operational) (of : OpTerm) → size (op_form_of forms of) ≡ 1 + pieces_size forms (after_head (op_operands of))
less forms (term.Lit value) = refl
less forms (term.Index entry) = refl
less forms (term.Get access) = refl
less forms (term.Un op of) = omega arith
less forms (term.Bin op left right) = omega arith
less forms (term.Case entry below first second) = omega arith
less forms (term.Fold op var low high of) = omega arith
less forms (term.Let var bind of) = omega arith

pub op-term-made : (spelled : Access → List ℕ) (terms : List OpTerm) (number : ℕ) (of : OpTerm) → IsOverOperands terms number of
    → slice_get terms number ≡ Some of → (listed : List ℕ) → listed ≡ op_operands of
    → IsMade spelled (op_forms terms) (length terms) number (head_text spelled (op_form_of [] of)) listed
op-term-made spelled terms number of over is listed e =
    rw e (record {
      within = slice_get_within terms number of is;
      before = over.before;
      text = ap (term_text spelled) over.form ∙ text spelled (op_forms terms) of;
      less = ap size over.form ∙ less (op_forms terms) of;
    })

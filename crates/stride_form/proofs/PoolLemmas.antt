-- Terms of a pool: what a term stands for is its operator over what its operands stand for, which stand before it.
use Rattle.std.specs.Prelude.{◌≡◌, ℕ, zero, suc, ◌+◌, ◌<◌, pos, List, [], ◌∷◌, ◌++◌, length, slice_get, Some}
use Rattle.std.specs.List.{AllByRecursion}
use Rattle.std.proofs.Common.{refl, ap, sym, ◌∙◌, subst, arith, length-append}
use Rattle.std.proofs.Math.Seq.{get_or-append_seam}
use Rattle.std.proofs.lemmas.List.{get_or_append_left}
use Rattle.normal_form.specs.Forms.{Lit, Un, Bin, Case, Fold, Let}
use Rattle.stride_form.specs.declared.op_term.OpTerm.{OpTerm}
use Rattle.stride_form.specs.declared.op_term.OpTerm.TheVariants as term
use Rattle.stride_form.specs.Kept.{AreOpOrdered}
use Rattle.stride_form.specs.Operational.{Operational}
use Rattle.stride_form.specs.Pool.{IsOverOperands, op_form_at, op_form_of, op_forms, op_forms_after, op_operands}

both : {a b c d : Operational} (f : Operational → Operational → Operational) → a ≡ b → c ≡ d → f a c ≡ f b d
both {b = b} {c = c} f first second = ap (λ x. f x c) first ∙ ap (f b) second

same : (t u : List Operational) (of : OpTerm) → AllByRecursion (λ operand. op_form_at t operand ≡ op_form_at u operand) (op_operands of)
    → op_form_of t of ≡ op_form_of u of
same t u (term.Lit value) h = refl
same t u (term.Index entry) h = refl
same t u (term.Get access) h = refl
same t u (term.Un op of) h = ap (Un op) h.0
same t u (term.Bin op left right) h = both (Bin op) h.0 h.1.0
same t u (term.Case entry below first second) h = both (Case entry below) h.0 h.1.0
same t u (term.Fold op var low high of) h = ap (Fold op var low high) h.0
same t u (term.Let var bind of) h = ap (Let var bind) h.0

longer : (front : List Operational) (first : Operational) → length (front ++ first ∷ []) ≡ 1 + length front
longer front first = omega (arith, length-append front (first ∷ []))

-- later terms leave what earlier ones stand for as it is
kept : (front : List Operational) (terms : List OpTerm) (number : ℕ) → number < length front
    → op_form_at (op_forms_after front terms) number ≡ op_form_at front number
kept front [] number h = refl
kept front (first ∷ others) number h =
    kept (front ++ op_form_of front first ∷ []) others number (omega (arith, h, longer front (op_form_of front first)))
    ∙ get_or_append_left front (op_form_of front first ∷ []) (Lit (pos 0)) number h

all-kept : (front : List Operational) (terms : List OpTerm) (numbers : List ℕ) → AllByRecursion (λ number. number < length front) numbers
    → AllByRecursion (λ number. op_form_at front number ≡ op_form_at (op_forms_after front terms) number) numbers
all-kept front terms [] h = tt
all-kept front terms (number ∷ numbers) h = (sym (kept front terms number h.0), all-kept front terms numbers h.1)

below-as : {a b : ℕ} (numbers : List ℕ) → a ≡ b → AllByRecursion (λ number. number < a) numbers → AllByRecursion (λ number. number < b) numbers
below-as [] e h = tt
below-as (number ∷ numbers) e h = (omega (arith, e, h.0), below-as numbers e h.1)

behind : (front : List Operational) (terms : List OpTerm) → AreOpOrdered (length front) terms → (number : ℕ) (of : OpTerm)
    → slice_get terms number ≡ Some of
    → (op_form_at (op_forms_after front terms) (length front + number) ≡ op_form_of (op_forms_after front terms) of)
    × AllByRecursion (λ operand. operand < length front + number) (op_operands of)
behind front [] h number of is = absurd (cc)
behind front (first ∷ others) h zero of is =
    let more = front ++ op_form_of front first ∷ [] in
    let e : length front + zero ≡ length front = omega arith in
    let found : first ≡ of = cc in
    subst (λ t. (op_form_at (op_forms_after more others) (length front + zero) ≡ op_form_of (op_forms_after more others) t)
    × AllByRecursion (λ operand. operand < length front + zero) (op_operands t)) found (
      ap (op_form_at (op_forms_after more others)) e
          ∙ kept more others (length front) (omega (arith, longer front (op_form_of front first)))
          ∙ get_or-append_seam front (op_form_of front first) [] (Lit (pos 0))
          ∙ same front (op_forms_after more others) first (all-kept front (first ∷ others) (op_operands first) h.0),
      below-as (op_operands first) (sym e) h.0,
    )
behind front (first ∷ others) h (suc number) of is =
    let more = front ++ op_form_of front first ∷ [] in
    let longer_so = longer front (op_form_of front first) in
    let e : length more + number ≡ length front + suc number = omega (arith, longer_so) in
    subst (λ n. (op_form_at (op_forms_after more others) n ≡ op_form_of (op_forms_after more others) of)
    × AllByRecursion (λ operand. operand < n) (op_operands of)) e
    (behind more others (subst (λ n. AreOpOrdered n others) (sym longer_so) h.1) number of is)

pub over-operands : (terms : List OpTerm) (number : ℕ) (of : OpTerm) → AreOpOrdered 0 terms → slice_get terms number ≡ Some of
    → IsOverOperands terms number of
over-operands terms number of h is =
    let e : 0 + number ≡ number = omega arith in
    let both = behind [] terms h number of is in
    record {
      form = subst (λ n. op_form_at (op_forms terms) n ≡ op_form_of (op_forms terms) of) e both.0;
      before = below-as (op_operands of) e both.1;
    }

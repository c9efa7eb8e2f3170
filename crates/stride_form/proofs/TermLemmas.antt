-- Terms of normal forms: what a term stands for is its operator over what its operands stand for, which stand before it.
use Rattle.std.specs.Prelude.{◌≡◌, ℕ, zero, suc, ◌+◌, ◌<◌, pos, List, [], ◌∷◌, ◌++◌, length, slice_get, Some}
use Rattle.std.specs.List.{AllByRecursion}
use Rattle.std.proofs.Common.{refl, ap, sym, ◌∙◌, subst, arith, inl, inr, length-append}
use Rattle.std.proofs.Math.Seq.{get_or-append_seam}
use Rattle.std.proofs.lemmas.List.{get_or_append_left}
use Rattle.normal_form.specs.declared.term.Term.{Term}
use Rattle.normal_form.specs.declared.term.Term.TheVariants as term
use Rattle.normal_form.specs.Forms.{Lit, Un, Bin, Case, Fold, Let, Normal}
use Rattle.normal_form.specs.Kept.{AreOrdered, IsForm, Parts}
use Rattle.normal_form.specs.Pool.{form_at, form_of, forms, forms_after, operands}

both : {a b c d : Normal} (f : Normal → Normal → Normal) → a ≡ b → c ≡ d → f a c ≡ f b d
both {b = b} {c = c} f first second = ap (λ x. f x c) first ∙ ap (f b) second

same : (t u : List Normal) (of : Term) → AllByRecursion (λ operand. form_at t operand ≡ form_at u operand) (operands of)
    → form_of t of ≡ form_of u of
same t u (term.Lit value) h = refl
same t u (term.Index entry) h = refl
same t u (term.Load area shape at) h = refl
same t u (term.Un op of) h = ap (Un op) h.0
same t u (term.Bin op left right) h = both (Bin op) h.0 h.1.0
same t u (term.Case entry below first second) h = both (Case entry below) h.0 h.1.0
same t u (term.Fold op var low high of) h = ap (Fold op var low high) h.0
same t u (term.Let var bind of) h = ap (Let var bind) h.0

longer : (front : List Normal) (first : Normal) → length (front ++ first ∷ []) ≡ 1 + length front
longer front first = omega (arith, length-append front (first ∷ []))

-- later terms leave what earlier ones stand for as it is
kept : (front : List Normal) (terms : List Term) (number : ℕ) → number < length front
    → form_at (forms_after front terms) number ≡ form_at front number
kept front [] number h = refl
kept front (first ∷ others) number h =
    kept (front ++ form_of front first ∷ []) others number (omega (arith, h, longer front (form_of front first)))
    ∙ get_or_append_left front (form_of front first ∷ []) (Lit (pos 0)) number h

all-kept : (front : List Normal) (terms : List Term) (numbers : List ℕ) → AllByRecursion (λ number. number < length front) numbers
    → AllByRecursion (λ number. form_at front number ≡ form_at (forms_after front terms) number) numbers
all-kept front terms [] h = tt
all-kept front terms (number ∷ numbers) h = (sym (kept front terms number h.0), all-kept front terms numbers h.1)

below-as : {a b : ℕ} (numbers : List ℕ) → a ≡ b → AllByRecursion (λ number. number < a) numbers → AllByRecursion (λ number. number < b) numbers
below-as [] e h = tt
below-as (number ∷ numbers) e h = (omega (arith, e, h.0), below-as numbers e h.1)

behind : (front : List Normal) (terms : List Term) → AreOrdered (length front) terms → (number : ℕ) (of : Term)
    → slice_get terms number ≡ Some of
    → (form_at (forms_after front terms) (length front + number) ≡ form_of (forms_after front terms) of)
    × AllByRecursion (λ operand. operand < length front + number) (operands of)
behind front [] h number of is = absurd (cc)
behind front (first ∷ others) h zero of is =
    let more = front ++ form_of front first ∷ [] in
    let e : length front + zero ≡ length front = omega arith in
    let found : first ≡ of = cc in
    subst (λ t. (form_at (forms_after more others) (length front + zero) ≡ form_of (forms_after more others) t)
    × AllByRecursion (λ operand. operand < length front + zero) (operands t)) found (
      ap (form_at (forms_after more others)) e
          ∙ kept more others (length front) (omega (arith, longer front (form_of front first)))
          ∙ get_or-append_seam front (form_of front first) [] (Lit (pos 0))
          ∙ same front (forms_after more others) first (all-kept front (first ∷ others) (operands first) h.0),
      below-as (operands first) (sym e) h.0,
    )
behind front (first ∷ others) h (suc number) of is =
    let more = front ++ form_of front first ∷ [] in
    let longer_so = longer front (form_of front first) in
    let e : length more + number ≡ length front + suc number = omega (arith, longer_so) in
    subst (λ n. (form_at (forms_after more others) n ≡ form_of (forms_after more others) of)
    × AllByRecursion (λ operand. operand < n) (operands of)) e
    (behind more others (subst (λ n. AreOrdered n others) (sym longer_so) h.1) number of is)

pub over-operands : (terms : List Term) (number : ℕ) (of : Term) → AreOrdered 0 terms → slice_get terms number ≡ Some of
    → (form_at (forms terms) number ≡ form_of (forms terms) of) × AllByRecursion (λ operand. operand < number) (operands of)
over-operands terms number of h is =
    let e : 0 + number ≡ number = omega arith in
    let both = behind [] terms h number of is in
    (subst (λ n. form_at (forms terms) n ≡ form_of (forms terms) of) e both.0, below-as (operands of) e both.1)

-- the same of a form that has terms
pub form-operands : (parts : Parts) (number : ℕ) (of : Term) → IsForm parts → number < length parts.terms → slice_get parts.terms number ≡ Some of
    → (form_at (forms parts.terms) number ≡ form_of (forms parts.terms) of) × AllByRecursion (λ operand. operand < number) (operands of)
form-operands parts number of (inl empty) there is = absurd (omega (arith, there, ap length empty.terms))
form-operands parts number of (inr full) there is = over-operands parts.terms number of full.ordered is

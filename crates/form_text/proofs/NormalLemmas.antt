-- The terms of normal forms, put piece by piece.
use Rattle.std.specs.Prelude.{◌≡◌, ℕ, ◌+◌, ◌<◌, List, [], ◌++◌, length, Some, slice_get}
use Rattle.std.specs.List.{AllByRecursion}
use Rattle.std.proofs.Common.{refl, ap, sym, ◌∙◌, subst, arith}
use Rattle.std.proofs.lemmas.List.{append-nil}
use Rattle.std.proofs.lemmas.Option.{get_or_from_slice_get, slice_get_within}
use Rattle.normal_form.specs.declared.term.Term.{Term}
use Rattle.normal_form.specs.declared.term.Term.TheVariants as term
use Rattle.normal_form.specs.Forms.{Un, Bin, Case, Fold, Let, Element, Normal}
use Rattle.normal_form.specs.Kept.{AreOrdered}
use Rattle.normal_form.specs.Pool.{form_at, form_of, forms, forms_after, operands}
use Rattle.form_text.specs.Pieces.{after_head, head_text, pieces_size, pieces_text, size}
use Rattle.form_text.specs.Spelling.{term_text}
use Rattle.form_text.proofs.PoolLemmas.{IsReading, form-of-term, operands-before}
use Rattle.form_text.proofs.StackLemmas.{IsMade}

both : {a b c d : Normal} (f : Normal → Normal → Normal) → a ≡ b → c ≡ d → f a c ≡ f b d
both {b = b} {c = c} f first second = ap (λ x. f x c) first ∙ ap (f b) second

same : (t u : List Normal) (of : Term) → AllByRecursion (λ operand. form_at t operand ≡ form_at u operand) (operands of)
    → form_of t of ≡ form_of u of
same t u (term.Lit value) h = refl
same t u (term.Index entry) h = refl
same t u (term.Load area shape at) h = refl
same t u (term.Un op of) h = ap (Un op) h.0
same t u (term.Bin op left right) h = both (Bin op) h.0 h.1.0
same t u (term.Case entry below first second) h = both (Case entry below) h.0 h.1.0
same t u (term.Fold op var low high of) h = ap (Fold op var low high) h.0
same t u (term.Let var bind of) h = ap (Let var bind) h.0

reading : IsReading form_of operands forms_after AreOrdered
reading = record {
  same = same;
  done = λ front. refl;
  next = λ front first others. refl;
  first = λ count first others h. h.0;
  others = λ count first others h. h.1;
}

-- a term is its head with what follows it
text : (spelled : Element → List ℕ) (forms : List Normal) (of : Term)
    → term_text spelled (form_of forms of) ≡ head_text spelled (form_of [] of) ++ pieces_text spelled forms (after_head (operands of))
text spelled forms (term.Lit value) = sym (append-nil (head_text spelled (form_of [] (term.Lit value))))
text spelled forms (term.Index entry) = sym (append-nil (head_text spelled (form_of [] (term.Index entry))))
text spelled forms (term.Load area shape at) = sym (append-nil (head_text spelled (form_of [] (term.Load area shape at))))
text spelled forms (term.Un op of) = refl
text spelled forms (term.Bin op left right) = refl
text spelled forms (term.Case entry below first second) = refl
text spelled forms (term.Fold op var low high of) = refl
text spelled forms (term.Let var bind of) = refl

less : (forms : List Normal) (of : Term) → size (form_of forms of) ≡ 1 + pieces_size forms (after_head (operands of))
less forms (term.Lit value) = refl
less forms (term.Index entry) = refl
less forms (term.Load area shape at) = refl
less forms (term.Un op of) = omega arith
less forms (term.Bin op left right) = omega arith
less forms (term.Case entry below first second) = omega arith
less forms (term.Fold op var low high of) = omega arith
less forms (term.Let var bind of) = omega arith

pub term-made : (spelled : Element → List ℕ) (terms : List Term) → AreOrdered 0 terms → (number : ℕ) (of : Term) → slice_get terms number ≡ Some of
    → (listed : List ℕ) → listed ≡ operands of
    → IsMade spelled (forms terms) (length terms) number (head_text spelled (form_of [] of)) listed
term-made spelled terms ordered number of is listed e =
    let within = slice_get_within terms number of is in
    let found = get_or_from_slice_get terms number of of is in
    let made : form_at (forms terms) number ≡ form_of (forms terms) of =
    form-of-term form_of operands forms_after AreOrdered reading terms ordered number of within ∙ ap (form_of (forms terms)) found in
    rw e (record {
      within = within;
      before = subst (λ t. AllByRecursion (λ operand. operand < number) (operands t)) found
          (operands-before form_of operands forms_after AreOrdered reading terms ordered number of within);
      text = ap (term_text spelled) made ∙ text spelled (forms terms) of;
      less = ap size made ∙ less (forms terms) of;
    })

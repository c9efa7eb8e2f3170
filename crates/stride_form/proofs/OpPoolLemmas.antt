-- Terms of operational forms that grow at their end are a pool as before.
use Rattle.std.specs.Prelude.{◌≡◌, ℕ, ◌+◌, ◌<◌, pos, List, [], ◌∷◌, ◌++◌, length}
use Rattle.std.specs.List.{AllByRecursion}
use Rattle.std.proofs.Common.{refl, ap, sym, ◌∙◌, subst, arith, length-append}
use Rattle.std.proofs.Math.Seq.{get_or-append_seam}
use Rattle.std.proofs.lemmas.List.{get_or_append_left}
use Rattle.shapes_core.specs.Limits.{most_items}
use Rattle.stride_form.specs.declared.op_term.OpTerm.{OpTerm}
use Rattle.stride_form.specs.Kept.{AreOpOrdered}
use Rattle.normal_form.specs.Forms.{Lit}
use Rattle.stride_form.specs.Operational.{Operational}
use Rattle.stride_form.specs.Pool.{op_form_at, op_form_of, op_forms, op_forms_after, op_operands}
use Rattle.stride_form.specs.Writing.{IsOpPool, OpKeeps, OpStands}

ordered-after : (number : ℕ) (terms : List OpTerm) (term : OpTerm) → AreOpOrdered number terms
    → AllByRecursion (λ operand. operand < number + length terms) (op_operands term) → AreOpOrdered number (terms ++ term ∷ [])
ordered-after number [] term ordered below = (subst (λ n. AllByRecursion (λ operand. operand < n) (op_operands term)) (omega arith) below, tt)
ordered-after number (first ∷ others) term ordered below = (
  ordered.0,
  ordered-after (1 + number) others term ordered.1
      (subst (λ n. AllByRecursion (λ operand. operand < n) (op_operands term)) (omega arith) below),
)

-- a pool stays one
pub pool-grown : (terms : List OpTerm) (term : OpTerm) → IsOpPool terms → length terms < most_items
    → AllByRecursion (λ operand. operand < length terms) (op_operands term) → IsOpPool (terms ++ term ∷ [])
pool-grown terms term pool room below = record {
  ordered = ordered-after 0 terms term pool.ordered (subst (λ n. AllByRecursion (λ operand. operand < n) (op_operands term)) (omega arith) below);
  few = omega (arith, room, length-append terms (term ∷ []));
}

-- ---- what stands

after-append : (front : List Operational) (terms others : List OpTerm)
    → op_forms_after front (terms ++ others) ≡ op_forms_after (op_forms_after front terms) others
after-append front [] others = refl
after-append front (first ∷ more) others = after-append (front ++ op_form_of front first ∷ []) more others

length-after : (front : List Operational) (terms : List OpTerm) → length (op_forms_after front terms) ≡ length front + length terms
length-after front [] = omega arith
length-after front (first ∷ others) =
    omega (arith, length-after (front ++ op_form_of front first ∷ []) others, length-append front (op_form_of front first ∷ []))

-- what is added last
pub newest : (terms : List OpTerm) (term : OpTerm) → OpStands (terms ++ term ∷ []) (length terms) (op_form_of (op_forms terms) term)
newest terms term =
    let before = op_forms terms in
    let e : length before ≡ length terms = omega (arith, length-after [] terms) in
    record {
      there = omega (arith, length-append terms (term ∷ []));
      same =
          ap (λ l. op_form_at l (length terms)) (after-append [] terms (term ∷ []))
          ∙ ap (λ place. op_form_at (before ++ op_form_of before term ∷ []) place) (sym e)
          ∙ get_or-append_seam before (op_form_of before term) [] (Lit (pos 0));
    }

-- what was there
pub kept : (terms : List OpTerm) (term : OpTerm) → OpKeeps terms (terms ++ term ∷ [])
kept terms term number form stands = record {
  there = omega (arith, stands.there, length-append terms (term ∷ []));
  same =
      ap (λ l. op_form_at l number) (after-append [] terms (term ∷ []))
      ∙ get_or_append_left (op_forms terms) (op_form_of (op_forms terms) term ∷ []) (Lit (pos 0)) number
      (omega (arith, stands.there, length-after [] terms))
      ∙ stands.same;
}

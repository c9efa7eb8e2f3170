-- What each term of a pool stands for: its operator over what its operands stand for. Terms of normal and of operational forms are alike in this.
use Rattle.std.specs.Prelude.{◌≡◌, ℕ, zero, suc, ◌+◌, ◌<◌, pos, List, [], ◌∷◌, ◌++◌, length, slice_index_or}
use Rattle.std.specs.List.{AllByRecursion}
use Rattle.std.proofs.Common.{ap, sym, ◌∙◌, arith, length-append}
use Rattle.std.proofs.Math.Seq.{get_or-append_seam}
use Rattle.std.proofs.lemmas.List.{get_or_append_left}
use Rattle.normal_form.specs.Forms.{Form, Lit}
use Rattle.form_text.specs.Pieces.{numbered}

below-as : {a b : ℕ} (numbers : List ℕ) → a ≡ b → AllByRecursion (λ number. number < a) numbers → AllByRecursion (λ number. number < b) numbers
below-as [] e h = tt
below-as (number ∷ numbers) e h = (omega (arith, e, h.0), below-as numbers e h.1)

-- How a pool is read: a term by what its operands stand for, one term after the other, each behind its operands.
pub record IsReading {Load T : Type 0} (form_of : List (Form Load) → T → Form Load) (operands : T → List ℕ)
    (forms_after : List (Form Load) → List T → List (Form Load)) (AreOrdered : ℕ → List T → Type 0) : Type 1 where
  pub same : (t u : List (Form Load)) (of : T) → AllByRecursion (λ operand. numbered t operand ≡ numbered u operand) (operands of)
      → form_of t of ≡ form_of u of
  pub done : (front : List (Form Load)) → forms_after front [] ≡ front
  pub next : (front : List (Form Load)) (first : T) (others : List T)
      → forms_after front (first ∷ others) ≡ forms_after (front ++ form_of front first ∷ []) others
  pub first : (count : ℕ) (first : T) (others : List T) → AreOrdered count (first ∷ others) → AllByRecursion (λ operand. operand < count) (operands first)
  pub others : (count : ℕ) (first : T) (others : List T) → AreOrdered count (first ∷ others) → AreOrdered (1 + count) others

module _ {Load T : Type 0} (form_of : List (Form Load) → T → Form Load) (operands : T → List ℕ)
    (forms_after : List (Form Load) → List T → List (Form Load)) (AreOrdered : ℕ → List T → Type 0)
    (reading : IsReading form_of operands forms_after AreOrdered) where
  longer : (front : List (Form Load)) (first : Form Load) → length (front ++ first ∷ []) ≡ 1 + length front
  longer front first = omega (arith, length-append front (first ∷ []))

  -- later terms leave what earlier ones stand for as it is
  kept : (front : List (Form Load)) (terms : List T) (number : ℕ) → number < length front
      → numbered (forms_after front terms) number ≡ numbered front number
  kept front [] number h = ap (λ l. numbered l number) (reading.done front)
  kept front (first ∷ others) number h =
      ap (λ l. numbered l number) (reading.next front first others)
      ∙ kept (front ++ form_of front first ∷ []) others number (omega (arith, h, longer front (form_of front first)))
      ∙ get_or_append_left front (form_of front first ∷ []) (Lit (pos 0)) number h

  all-kept : (front : List (Form Load)) (terms : List T) (numbers : List ℕ) → AllByRecursion (λ number. number < length front) numbers
      → AllByRecursion (λ number. numbered front number ≡ numbered (forms_after front terms) number) numbers
  all-kept front terms [] h = tt
  all-kept front terms (number ∷ numbers) h = (sym (kept front terms number h.0), all-kept front terms numbers h.1)

  behind : (front : List (Form Load)) (terms : List T) → AreOrdered (length front) terms → (number : ℕ) (other : T) → number < length terms
      → numbered (forms_after front terms) (length front + number) ≡ form_of (forms_after front terms) (slice_index_or terms number other)
  behind front [] h number other within = absurd (omega (arith, within))
  behind front (first ∷ others) h zero other within =
      let more = front ++ form_of front first ∷ [] in
      let e : length front + zero ≡ length front = omega arith in
      ap (numbered (forms_after front (first ∷ others))) e
      ∙ ap (λ l. numbered l (length front)) (reading.next front first others)
      ∙ kept more others (length front) (omega (arith, longer front (form_of front first)))
      ∙ get_or-append_seam front (form_of front first) [] (Lit (pos 0))
      ∙ reading.same front (forms_after front (first ∷ others)) first
      (all-kept front (first ∷ others) (operands first) (reading.first (length front) first others h))
  behind front (first ∷ others) h (suc number) other within =
      let more = front ++ form_of front first ∷ [] in
      let longer_so = longer front (form_of front first) in
      let e : length front + suc number ≡ length more + number = omega (arith, longer_so) in
      ap (λ l. numbered l (length front + suc number)) (reading.next front first others)
      ∙ ap (numbered (forms_after more others)) e
      ∙ behind more others (rw longer_so (reading.others (length front) first others h)) number other (omega (arith, within))
      ∙ ap (λ l. form_of l (slice_index_or others number other)) (sym (reading.next front first others))

  pub form-of-term : (terms : List T) → AreOrdered 0 terms → (number : ℕ) (other : T) → number < length terms
      → numbered (forms_after [] terms) number ≡ form_of (forms_after [] terms) (slice_index_or terms number other)
  form-of-term terms h number other within =
      let e : number ≡ zero + number = omega arith in
      ap (numbered (forms_after [] terms)) e ∙ behind [] terms h number other within

  before-from : (count : ℕ) (terms : List T) → AreOrdered count terms → (number : ℕ) (other : T) → number < length terms
      → AllByRecursion (λ operand. operand < count + number) (operands (slice_index_or terms number other))
  before-from count [] h number other within = absurd (omega (arith, within))
  before-from count (first ∷ others) h zero other within =
      below-as (operands first) (let e : count ≡ count + zero = omega arith in e) (reading.first count first others h)
  before-from count (first ∷ others) h (suc number) other within =
      below-as (operands (slice_index_or others number other)) (let e : (1 + count) + number ≡ count + suc number = omega arith in e)
      (before-from (1 + count) others (reading.others count first others h) number other (omega (arith, within)))

  -- the operands of a term stand before it
  pub operands-before : (terms : List T) → AreOrdered 0 terms → (number : ℕ) (other : T) → number < length terms
      → AllByRecursion (λ operand. operand < number) (operands (slice_index_or terms number other))
  operands-before terms h number other within =
      below-as (operands (slice_index_or terms number other)) (let e : 0 + number ≡ number = omega arith in e)
      (before-from 0 terms h number other within)

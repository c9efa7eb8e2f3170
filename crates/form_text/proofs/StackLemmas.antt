-- What is still to be put, on a stack: a term gives way to what follows its head.
use Rattle.std.specs.Prelude.{◌≡◌, ℕ, ◌+◌, ◌<◌, List, [], ◌∷◌, ◌++◌, reverse}
use Rattle.std.specs.List.{AllByRecursion}
use Rattle.std.proofs.Common.{ap, sym, ◌∙◌, subst, arith, append_assoc}
use Rattle.std.proofs.lemmas.Grind.{flat_map-append}
use Rattle.std.proofs.lemmas.List.{reverse-append, reverse-reverse}
use Rattle.normal_form.specs.Forms.{Form}
use Rattle.form_text.specs.declared.pieces.Piece.{Piece}
use Rattle.form_text.specs.declared.pieces.Piece.TheVariants.{Of}
use Rattle.form_text.specs.Pieces.{IsPutting, IsThere, after_head, numbered, piece_text, pieces_size, pieces_text, size}
use Rattle.form_text.specs.Spelling.{term_text}

-- the top of a stack is its last, and what follows a head is put on it from the last
popped : (rest : List Piece) (top : Piece) → reverse (rest ++ top ∷ []) ≡ top ∷ reverse rest
popped rest top = reverse-append rest (top ∷ [])

pushed : (rest pieces : List Piece) → reverse (rest ++ reverse pieces) ≡ pieces ++ reverse rest
pushed rest pieces = reverse-append rest (reverse pieces) ∙ ap (λ t. t ++ reverse rest) (reverse-reverse pieces)

all-append : (P : Piece → Type 0) (a b : List Piece) → AllByRecursion P a → AllByRecursion P b → AllByRecursion P (a ++ b)
all-append P [] b h i = i
all-append P (first ∷ others) b h i = (h.0, all-append P others b h.1 i)

-- what follows the head of a term is there
after-there : (count number : ℕ) (operands : List ℕ) → number < count → AllByRecursion (λ operand. operand < number) operands
    → AllByRecursion (IsThere count) (after_head operands)
after-there count number [] within h = tt
after-there count number (last ∷ []) within h = (omega (arith, h.0), (tt, tt))
after-there count number (first ∷ second ∷ others) within h = (omega (arith, h.0), (tt, after-there count number (second ∷ others) within h.1))

-- A term among so many is its head with what follows it, and its operands stand before it.
pub record IsMade {Load : Type 0} (spelled : Load → List ℕ) (forms : List (Form Load)) (count number : ℕ) (head : List ℕ) (operands : List ℕ) : Type 0 where
  pub within : number < count
  pub before : AllByRecursion (λ operand. operand < number) operands
  pub text : term_text spelled (numbered forms number) ≡ head ++ pieces_text spelled forms (after_head operands)
  pub less : size (numbered forms number) ≡ 1 + pieces_size forms (after_head operands)

module _ {Load : Type 0} (spelled : Load → List ℕ) (forms : List (Form Load)) where
  taken : {count number : ℕ} {head operands : List ℕ} (rest : List Piece) → IsMade spelled forms count number head operands
      → pieces_text spelled forms (Of number ∷ rest) ≡ head ++ pieces_text spelled forms (after_head operands ++ rest)
  taken {number = number} {head = head} {operands = operands} rest made =
      ap (λ t. t ++ pieces_text spelled forms rest) made.text
      ∙ append_assoc head (pieces_text spelled forms (after_head operands)) (pieces_text spelled forms rest)
      ∙ ap (λ t. head ++ t) (sym (flat_map-append (piece_text spelled forms) (after_head operands) rest))

  size-append : (a b : List Piece) → pieces_size forms (a ++ b) ≡ pieces_size forms a + pieces_size forms b
  size-append [] b = omega arith
  size-append (first ∷ others) b = omega (arith, size-append others b)

  -- a term is put: its head stands in the text, and what follows it on the stack
  term-put : {count number : ℕ} {head operands whole out : List ℕ} (rest : List Piece) → IsMade spelled forms count number head operands
      → IsPutting spelled forms count whole out (rest ++ Of number ∷ [])
      → IsPutting spelled forms count whole (out ++ head) (rest ++ reverse (after_head operands))
  term-put {count = count} {number = number} {head = head} {operands = operands} {out = out} rest made h =
      let there = subst (AllByRecursion (IsThere count)) (popped rest (Of number)) h.there in
      record {
        put =
            ap (λ t. (out ++ head) ++ pieces_text spelled forms t) (pushed rest (after_head operands))
            ∙ append_assoc out head (pieces_text spelled forms (after_head operands ++ reverse rest))
            ∙ ap (λ t. out ++ t) (sym (taken (reverse rest) made))
            ∙ ap (λ t. out ++ pieces_text spelled forms t) (sym (popped rest (Of number)))
            ∙ h.put;
        there = rw (pushed rest (after_head operands))
            (all-append (IsThere count) (after_head operands) (reverse rest)
            (after-there count number operands made.within made.before) there.1);
      }

  pub put-so : {count number : ℕ} {head operands whole out longer : List ℕ} (rest stack : List Piece) (top : Piece)
      → IsMade spelled forms count number head operands
      → top ≡ Of number → longer ≡ out ++ head → stack ≡ rest ++ reverse (after_head operands)
      → IsPutting spelled forms count whole out (rest ++ top ∷ []) → IsPutting spelled forms count whole longer stack
  put-so {count = count} {whole = whole} {out = out} rest stack top made same put after h =
      rw (put, after) (term-put rest made (subst (λ t. IsPutting spelled forms count whole out (rest ++ t ∷ [])) same h))

  pub less-so : {count number : ℕ} {head operands : List ℕ} (rest stack : List Piece) (top : Piece)
      → IsMade spelled forms count number head operands → top ≡ Of number → stack ≡ rest ++ reverse (after_head operands)
      → pieces_size forms (reverse stack) < pieces_size forms (reverse (rest ++ top ∷ []))
  less-so {number = number} {operands = operands} rest stack top made same after =
      rw (same, after) (rw (pushed rest (after_head operands)) (rw (popped rest (Of number))
      (omega (arith, made.less, size-append (after_head operands) (reverse rest)))))

-- Registers that agree but at some.
use Rattle.std.proofs.Common.{◌≡◌, ℕ, Bool, true, false, ◌&&◌, List, [], ◌∷◌, ◌++◌, refl, ◌∙◌, arith}
use Rattle.std.proofs.lemmas.Bool.Decides.{nat_tests}
use Rattle.std.proofs.lemmas.List.Folds.{list_any-append}
use Rattle.std.specs.List.{list_all}
use Rattle.std.specs.Prelude.{IsTrue, not, ◌||◌, ◌==◌}
use Rattle.rv_steps.specs.Good.{is_kept}
use Rattle.rv_steps.specs.Machine.{register_at, with_register}
use Rattle.rv_steps.specs.Registers.{AgreeBut, is_among}
use Rattle.rv_steps.proofs.MemoryLemmas.{length-with_register, register_at-with_register_other}

-- of two tests
or_front : (a b : Bool) → (a || b) ≡ false → a ≡ false
or_front true b h = h
or_front false b h = refl

or_back : (a b : Bool) → (a || b) ≡ false → b ≡ false
or_back true b h = cc
or_back false b h = h

pub and_front : (a b : Bool) → (a && b) ≡ true → a ≡ true
and_front true b h = refl
and_front false b h = h

pub and_back : (a b : Bool) → (a && b) ≡ true → b ≡ true
and_back true b h = h
and_back false b h = cc

pub agree-none : (changed registers : List ℕ) → AgreeBut changed registers registers
agree-none changed registers = record { sized = refl; same = λ r out. refl }

pub agree-one : (registers : List ℕ) (r value : ℕ) → AgreeBut (r ∷ []) registers (with_register registers r value)
agree-one registers r value =
    record {
      sized = length-with_register registers r value;
      same = λ other out. register_at-with_register_other registers r value other (let e = or_front (r == other) false out in grind (arith, nat_tests));
    }

pub agree-then : (one two before between after : List ℕ) → AgreeBut one before between → AgreeBut two between after → AgreeBut (one ++ two) before after
agree-then one two before between after first second =
    record {
      sized = second.sized ∙ first.sized;
      same = λ r out.
          let both : (is_among r one || is_among r two) ≡ false = rw list_any-append at out in
          second.same r (or_back (is_among r one) (is_among r two) both) ∙ first.same r (or_front (is_among r one) (is_among r two) both);
    }

pub agree-again : (changed before between after : List ℕ) → AgreeBut changed before between → AgreeBut changed between after → AgreeBut changed before after
agree-again changed before between after first second =
    record { sized = second.sized ∙ first.sized; same = λ r out. second.same r out ∙ first.same r out }

among_fewer : (one two : List ℕ) (r : ℕ) → IsTrue (list_all (λ s. is_among s two) one) → is_among r two ≡ false → is_among r one ≡ false
among_fewer [] two r all out = refl
among_fewer (s ∷ one) two r all out =
    let rest = among_fewer one two r (and_back (is_among s two) _ all) out in
    let here = and_front (is_among s two) _ all in
    rw rest (other (s == r) refl here)
  where
    other : (b : Bool) → (s == r) ≡ b → is_among s two ≡ true → (b || false) ≡ false
    other true e here = let same : s ≡ r = grind (arith, nat_tests) in cc
    other false e here = refl

pub agree-more : (one two before after : List ℕ) → AgreeBut one before after → IsTrue (list_all (λ r. is_among r two) one) → AgreeBut two before after
agree-more one two before after agree all =
    record { sized = agree.sized; same = λ r out. agree.same r (among_fewer one two r all out) }

kept_out : (changed : List ℕ) (r : ℕ) → IsTrue (list_all (λ s. not (is_kept s)) changed) → IsTrue (is_kept r) → is_among r changed ≡ false
kept_out [] r free kept = refl
kept_out (s ∷ changed) r free kept =
    let rest = kept_out changed r (and_back (not (is_kept s)) _ free) kept in
    let here = and_front (not (is_kept s)) _ free in
    rw rest (other (s == r) refl here)
  where
    other : (b : Bool) → (s == r) ≡ b → not (is_kept s) ≡ true → (b || false) ≡ false
    other true e here = let same : s ≡ r = grind (arith, nat_tests) in let never = rw (same, kept) at here in cc
    other false e here = refl

pub agree-kept : (changed before after : List ℕ) (r : ℕ) → AgreeBut changed before after → IsTrue (list_all (λ s. not (is_kept s)) changed) → IsTrue (is_kept r) → register_at after r ≡ register_at before r
agree-kept changed before after r agree free kept = agree.same r (kept_out changed r free kept)

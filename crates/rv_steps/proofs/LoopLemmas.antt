-- Turns that follow one another, and the loads and stores of all of them.
use Rattle.std.proofs.Common.{◌≡◌, ℕ, zero, suc, ◌+◌, ◌*◌, ◌<◌, List, [], ◌++◌, refl, subst, ap, ◌∙◌, sym, arith, append_assoc, append-nil}
use Rattle.std.proofs.lemmas.List.Elements.{All-append, All-nil}
use Rattle.std.proofs.Math.Nat.{zero-add, zero-mul, suc-mul}
use Rattle.std.proofs.Math.Numerals.{add-one}
use Rattle.std.specs.List.{flat_map, range_with_len}
use Rattle.std.specs.Prelude.{All}
use Rattle.rv_line.specs.declared.line.Line.{Line}
use Rattle.rv_steps.specs.Accesses.{Leads}
use Rattle.rv_steps.specs.Machine.{Access, Config}
use Rattle.rv_steps.proofs.AccessLemmas.{leads-more, leads-none}

flat_map-later : {X : Type 0} (f : ℕ → List X) (a n : ℕ) → flat_map f (range_with_len a (suc n)) ≡ flat_map f (range_with_len a n) ++ f (a + n)
flat_map-later f a zero = append-nil (f a) ∙ ap f (omega arith)
flat_map-later f a (suc n) =
    let e : a + 1 + n ≡ a + suc n = omega arith in
    let rest = flat_map-later f (a + 1) n in
    rw (rest, e) (sym (append_assoc (f a) (flat_map f (range_with_len (a + 1) n)) (f (a + suc n))))

pub flat_map-more : {X : Type 0} (f : ℕ → List X) (n : ℕ) → flat_map f (range_with_len 0 (n + 1)) ≡ flat_map f (range_with_len 0 n) ++ f n
flat_map-more f n = rw add-one (flat_map-later f 0 n ∙ rw zero-add refl)

pub All-turns : {X : Type 0} (P : X → Type 0) (f : ℕ → List X) (n : ℕ) → ((k : ℕ) → k < n → All P (f k)) → All P (flat_map f (range_with_len 0 n))
All-turns P f zero all = All-nil P
All-turns P f (suc n) all =
    let front = All-turns P f n (λ k below. all k (omega arith)) in
    subst (λ xs. All P xs) (sym (flat_map-later f 0 n)) (All-append P (flat_map f (range_with_len 0 n)) (f (0 + n)) front (rw zero-add (all n (omega arith))))

-- chains, of so many steps or of at most so many: of none, and of one after another
module _ (Chain : ℕ → Config → Config → List Access → Type 0) (none : (c : Config) → Chain 0 c c []) (more : (m n : ℕ) (c d e : Config) (one two : List Access) → Chain m c d one → Chain n d e two → Chain (m + n) c e (one ++ two)) (holds : ℕ → Config → List Access → Type 0) (size : ℕ) where
  pub turns-chain : (turns : ℕ) (c : Config) → ((k : ℕ) (d : Config) (before : List Access) → k < turns → holds k d before → (e : Config) × (made : List Access) × Chain size d e made × holds (k + 1) e (before ++ made)) → holds 0 c [] → (d : Config) × (accesses : List Access) × Chain (turns * size) c d accesses × holds turns d accesses
  turns-chain zero c turn start = (c, [], rw zero-mul (none c), start)
  turns-chain (suc n) c turn start =
      let front = turns-chain n c (λ k d before below. turn k d before (omega arith)) start in
      let last = turn n front.0 front.1 (omega arith) front.3 in
      (last.0, front.1 ++ last.1, rw suc-mul (more (n * size) size c front.0 last.0 front.1 last.1 front.2 last.2), rw add-one at last.3)

-- where the configuration and the accesses of each turn are known
pub tour-leads : (lines : List Line) (base size turns : ℕ) (at : ℕ → Config) (made : ℕ → List Access) → ((k : ℕ) → k < turns → Leads lines base size (at k) (at (k + 1)) (made k)) → Leads lines base (turns * size) (at 0) (at turns) (flat_map made (range_with_len 0 turns))
tour-leads lines base size turns at made turn =
    let whole = turns-chain (Leads lines base) (leads-none lines base) (leads-more lines base) (λ k c before. (c ≡ at k) × (before ≡ flat_map made (range_with_len 0 k))) size turns (at 0)
    (λ k c before below now. (at (k + 1), made k, rw now.0 (turn k below), (refl, rw (flat_map-more made k, now.1) refl))) (refl, refl) in
    rw (whole.3.0, whole.3.1) at whole.2

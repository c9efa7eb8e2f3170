-- Accesses to the words of an area.
use Rattle.std.proofs.Common.{◌≡◌, ℕ, ◌+◌, ◌*◌, ◌%◌, ◌<◌, Bool, true, false, List, Some, refl, arith}
use Rattle.std.proofs.lemmas.Bool.Decides.{nat_tests}
use Rattle.std.proofs.lemmas.Option.{slice_get_within, get_or_from_slice_get}
use Rattle.std.proofs.lemmas.List.Folds.{list_any_at}
use Rattle.std.specs.List.{list_any}
use Rattle.std.specs.Prelude.{slice_get, ◌&&◌, ◌||◌, ◌==◌, not, IsTrue}
use Rattle.shapes_core.specs.Shape.{total}
use Rattle.shapes_core.specs.declared.area.Area.{Area}
use Rattle.rv_line.specs.declared.assembly.Header.{Header}
use Rattle.rv_steps.specs.Good.{is_fine_load, is_fine_store, is_in_area, is_input, is_within}

within : (base word count i : ℕ) → i < count → is_within base word count (base + 8 * (word + i)) 8 ≡ true
within base word count i below = grind (arith, nat_tests)

aligned : (base i : ℕ) → base % 8 ≡ 0 → ((base + 8 * i) % 8 == 0) ≡ true
aligned base i h = let e : (base + 8 * i) % 8 ≡ 0 = omega arith in grind (arith, nat_tests)

all_true : (a b c : Bool) → a ≡ true → c ≡ true → IsTrue (a && (b || c))
all_true a b c p q = rw (p, q) (either b)
  where
    either : (b : Bool) → IsTrue (true && (b || true))
    either true = refl
    either false = refl

module _ (header : Header) (areas : List Area) (base j : ℕ) (area : Area) (i : ℕ) (there : slice_get areas j ≡ Some area) (below : i < total area.shape) (eights : base % 8 ≡ 0) where
  in_area : is_in_area base header.spill (base + 8 * (header.spill + area.start + i)) 8 area ≡ true
  in_area = within base (header.spill + area.start) (total area.shape) i below

  found : (test : Area → Bool) → test area ≡ true → (a b : Bool) → a ≡ true → IsTrue (a && (b || list_any test areas))
  found test h a b p =
      all_true a b _ p (list_any_at test areas j area (slice_get_within areas j area there) (rw (get_or_from_slice_get areas j area area there) h))

  pub load-fine : IsTrue (is_fine_load header areas base (base + 8 * (header.spill + area.start + i)) 8)
  load-fine = found (is_in_area base header.spill (base + 8 * (header.spill + area.start + i)) 8) in_area _ _ (aligned base _ eights)

  pub store-fine : is_input area.kind ≡ false → IsTrue (is_fine_store header areas base (base + 8 * (header.spill + area.start + i)) 8)
  store-fine h =
      found (λ x. is_in_area base header.spill (base + 8 * (header.spill + area.start + i)) 8 x && not (is_input x.kind)) (rw (in_area, h) refl) _ _ (aligned base _ eights)

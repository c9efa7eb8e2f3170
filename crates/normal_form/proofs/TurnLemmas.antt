-- A turn of the first axis: an entry that is turned stands for the place that is.
use Rattle.std.specs.Prelude.{◌≡◌, ℕ, zero, suc, ◌+◌, ◌-◌, ◌*◌, ◌/◌, ◌%◌, ◌<◌, ℤ, pos, negsuc, ◌+ℤ◌, List, [], ◌∷◌, length, slice_index, slice_index_or, unsigned_abs}
use Rattle.std.specs.Int.{int_rem_euclid}
use Rattle.std.proofs.Common.{refl, sym, ap, ap₂, subst, ◌∙◌, arith, le_refl, mod-lt, mod-eq_of_lt}
use Rattle.std.proofs.Math.Nat.{add-mod-mod, div-add-mod}
use Rattle.std.proofs.lemmas.Int.{ints, int_rem_euclid_is}
use Rattle.shapes_core.specs.Gamma.{IsIndex}
use Rattle.moa_tree.specs.Axes.{on_axis, turned}
use Rattle.normal_form.specs.declared.entry.Entry.{Entry}
use Rattle.normal_form.specs.declared.entry.Entry.TheVariants.{At, Plus, Minus}
use Rattle.normal_form.specs.declared.term.Bind.TheVariants.{Turn}
use Rattle.normal_form.specs.Assignments.{Assignment, number}
use Rattle.normal_form.specs.Formers.{Former, Making, binding, turning}
use Rattle.normal_form.specs.Meaning.{Store}
use Rattle.normal_form.specs.Moves.{turned_constant}
use Rattle.normal_form.specs.Stands.{AreBelow, Gives, Represents, StandFor, uses_below}
use Rattle.normal_form.proofs.FreshLemmas.{agree-same, below-later, stand-agree}
use Rattle.normal_form.proofs.GivesLemmas.{Continues, Grows, binding-grows, gives-binding}

-- ---- numbers

-- a turn by a number is a turn by that number modulo the extent
remainder-step : (b n i : ℕ) → 0 < n → b / n * n + b % n ≡ b → b % n < n
    → (pos i +ℤ negsuc b) +ℤ pos (suc (b / n) * n) ≡ pos (i + (n - 1 - b % n))
remainder-step b n i full whole below =
    let e : suc (b / n) * n ≡ b / n * n + n = grind arith in
    omega (arith, ints, e, whole, below)

turned-back : (b n : ℕ) → turned (negsuc b) n 0 ≡ n - 1 - b % n
turned-back b n = ap (λ z. unsigned_abs (int_rem_euclid z (pos n))) (let e : pos 0 +ℤ negsuc b ≡ negsuc b = omega (arith, ints) in e)

turned-by : (by : ℤ) (n i : ℕ) → 0 < n → turned by n i ≡ turned (pos (turned by n 0)) n i
turned-by (pos b) n i full = sym (ap (λ k. (i + k % n) % n) (let e : 0 + b ≡ b = omega arith in e) ∙ add-mod-mod i b n)
turned-by (negsuc b) n i full =
    ap unsigned_abs (int_rem_euclid_is (pos i +ℤ negsuc b) (pos n) n (suc (b / n)) (i + (n - 1 - b % n)) full refl
    (remainder-step b n i full
    (let e : b / n * n + b % n ≡ b = grind (arith, div-add-mod b n) in e) (mod-lt b full)))
    ∙ ap (λ k. (i + k) % n) (sym (turned-back b n))

pub turned-below : (by : ℤ) (n i : ℕ) → 0 < n → turned by n i < n
turned-below by n i full = subst (λ k. k < n) (sym (turned-by by n i full)) (mod-lt (i + turned by n 0) full)

turned-none : (n i : ℕ) → i < n → turned (pos 0) n i ≡ i
turned-none n i below = ap (λ k. k % n) (let e : i + 0 ≡ i = omega arith in e) ∙ mod-eq_of_lt below

-- ---- entries

turn-binding : (s : Store) (m : Assignment) (by n : ℕ) (entry : Entry) (rest : Entry → Making) (next i : ℕ) (value : ℤ)
    → number m entry ≡ pos i → i < n → by < n → Continues s m next rest (turned (pos by) n i) value
    → Gives s m (binding (Turn entry by n) rest next).0 value
turn-binding s m by n entry rest next i value stands below least more =
    gives-binding s m next (Turn entry by n) rest (turned (pos by) n i) value
    (record { place = i; stands = stands; below = below }, least)
    (ap (λ k. turned (pos by) n (unsigned_abs k)) stands) more

turning-gives : (s : Store) (m : Assignment) (by n : ℕ) (entry : Entry) (rest : Entry → Making) (next i : ℕ) (value : ℤ)
    → number m entry ≡ pos i → uses_below next entry → i < n → by < n → Continues s m next rest (turned (pos by) n i) value
    → Gives s m (turning by n entry rest next).0 value
turning-gives s m zero n entry rest next i value stands fresh below least more =
    more m entry next (le_refl next) (agree-same next m) fresh (stands ∙ ap pos (sym (turned-none n i below)))
turning-gives s m (suc by) n (At constant) rest next i value stands fresh below least more =
    more m (At (turned_constant (suc by) n constant)) next (le_refl next) (agree-same next m) tt
    (ap (λ k. turned_constant (suc by) n k) stands)
turning-gives s m (suc by) n (Plus var add) rest next i value stands fresh below least more =
    turn-binding s m (suc by) n (Plus var add) rest next i value stands below least more
turning-gives s m (suc by) n (Minus var add) rest next i value stands fresh below least more =
    turn-binding s m (suc by) n (Minus var add) rest next i value stands below least more

pub turning-grows : (by n : ℕ) (entry : Entry) (rest : Entry → Making) → ((entry : Entry) → Grows (rest entry))
    → Grows (turning by n entry rest)
turning-grows zero n entry rest grows next = grows entry next
turning-grows (suc by) n (At constant) rest grows next = grows (At (turned_constant (suc by) n constant)) next
turning-grows (suc by) n (Plus var add) rest grows next = binding-grows (Turn (Plus var add) (suc by) n) rest next grows
turning-grows (suc by) n (Minus var add) rest grows next = binding-grows (Turn (Minus var add) (suc by) n) rest next grows

-- ---- the first axis

abbrev with_first : List ℕ → List Entry → Entry → List Entry
with_first shape entries entry = on_axis 0 (λ extent old. entry) shape entries

turn-gives : (s : Store) (by : ℤ) (of : Former) (shape : List ℕ) (at : List ℕ → ℤ) → 0 < length shape → Represents s of shape at
    → (m : Assignment) (entries : List Entry) (next : ℕ) (index : List ℕ)
    → AreBelow next entries → StandFor m entries index → IsIndex index shape
    → Gives s m (turning (turned by (slice_index shape 0) 0) (slice_index shape 0) (slice_index_or entries 0 (At (pos 0)))
    (λ entry. of (with_first shape entries entry)) next).0 (at (on_axis 0 (turned by) shape index))
turn-gives s by of [] at full h m entries next index below stand inside = absurd (omega (arith, full))
turn-gives s by of (n ∷ shape) at full h m entries next [] below stand inside = absurd inside
turn-gives s by of (n ∷ shape) at full h m [] next (i ∷ index) below stand inside = absurd (cc)
turn-gives s by of (n ∷ shape) at full h m (entry ∷ entries) next (i ∷ index) below stand inside =
    let items : 0 < n = omega (arith, inside.0) in
    let first : number m entry ≡ pos i = cc in
    let others : StandFor m entries index = cc in
    turning-gives s m (turned by n 0) n entry (λ new. of (new ∷ entries)) next i (at (turned by n i ∷ index))
    first below.0 inside.0 (turned-below by n 0 items)
    (λ other new later more agree fresh stands. h.gives other (new ∷ entries) later (turned by n i ∷ index)
    (fresh, below-later next later entries more below.1)
    (ap₂ (λ front back. front ∷ back) (stands ∙ ap pos (sym (turned-by by n i items)))
    (stand-agree next m other entries index agree below.1 others))
    (turned-below by n i items, inside.1))

pub turn-represents : (s : Store) (by : ℤ) (of : Former) (shape : List ℕ) (at : List ℕ → ℤ) → 0 < length shape → Represents s of shape at
    → Represents s
    (λ entries. turning (turned by (slice_index shape 0) 0) (slice_index shape 0) (slice_index_or entries 0 (At (pos 0)))
    (λ entry. of (on_axis 0 (λ extent old. entry) shape entries)))
    shape (λ index. at (on_axis 0 (turned by) shape index))
turn-represents s by of shape at full h = record {
  grows = λ entries next. turning-grows (turned by (slice_index shape 0) 0) (slice_index shape 0) (slice_index_or entries 0 (At (pos 0)))
      (λ entry. of (with_first shape entries entry)) (λ entry. h.grows (with_first shape entries entry)) next;
  gives = turn-gives s by of shape at full h;
}

-- Walks of places: each walks by its stride along a variable so many times, and nothing else changes.
use Rattle.std.specs.Prelude.{◌≡◌, ℕ, suc, ◌<◌, ◌≤◌, ◌==◌, ℤ, pos, ◌+ℤ◌, ◌*ℤ◌, Bool, true, false, List, [], ◌∷◌, if◌then◌else◌}
use Rattle.std.specs.Ordering.{int_eq}
use Rattle.std.proofs.Common.{refl, ap, sym, subst, ◌∙◌, arith}
use Rattle.std.proofs.lemmas.Bool.Decides.{Decides-int_eq}
use Rattle.std.proofs.lemmas.Bool.{cond-false, cond-true, eq-eqb, ne_eqb}
use Rattle.std.proofs.lemmas.Int.{ints}
use Rattle.shapes_core.specs.declared.area.Area.{Area}
use Rattle.stride_form.specs.declared.access.Access.{Access}
use Rattle.loop_ir.specs.Running.{Pointer, Register, State, acted, run}
use Rattle.loop_ir.specs.Steps.{Walk}
use Rattle.nest_build.specs.Nests.{listed, spots_from, stride_along, walk_by, walks}
use Rattle.nest_build.proofs.RunLemmas.{Numbered, run-append}

pub numbered-map : {X : Type 0} (P Q : ℕ → X → Type 0) (least n : ℕ) (xs : List X) → least ≤ n
    → ((k : ℕ) (x : X) → least ≤ k → P k x → Q k x) → Numbered P n xs → Numbered Q n xs
numbered-map P Q least n [] le f h = tt
numbered-map P Q least n (x ∷ xs) le f h = (f n x le h.0, numbered-map P Q least (suc n) xs (omega (arith, le)) f h.1)

-- registers, words and accesses are as they were, and so are the places below one
pub record Spares (place : ℕ) (before after : State) : Type 0 where
  pub registers : (r : ℕ) → after.held (Register r) ≡ before.held (Register r)
  pub below : (p : ℕ) → p < place → after.held (Pointer p) ≡ before.held (Pointer p)
  pub words : after.words ≡ before.words
  pub trace : after.trace ≡ before.trace

spares-on : (place more : ℕ) (first second third : State) → place ≤ more → Spares place first second → Spares more second third
    → Spares place first third
spares-on place more first second third le a b = record {
  registers = λ r. b.registers r ∙ a.registers r;
  below = λ p under. b.below p (omega (arith, le, under)) ∙ a.below p under;
  words = b.words ∙ a.words;
  trace = b.trace ∙ a.trace;
}

-- ---- one place

-- a place walks, and those beside it stay
record Walked (place : ℕ) (words : ℤ) (before after : State) : Type 0 where
  spares : Spares place before after
  here : after.held (Pointer place) ≡ before.held (Pointer place) +ℤ words
  above : (p : ℕ) → suc place ≤ p → after.held (Pointer p) ≡ before.held (Pointer p)

walks-by : (place : ℕ) (words : ℤ) (state : State) → Walked place words state (acted (Walk place words) state)
walks-by place words state = record {
  spares = record {
    registers = λ r. refl;
    below = λ p under. cond-false (p == place) _ (state.held (Pointer p)) (ne_eqb p place (λ e. omega (arith, e, under)));
    words = refl;
    trace = refl;
  };
  here = cond-true (place == place) _ (state.held (Pointer place)) (eq-eqb place place refl);
  above = λ p over. cond-false (p == place) _ (state.held (Pointer p)) (ne_eqb p place (λ e. omega (arith, e, over)));
}

stays : (place : ℕ) (words : ℤ) (state : State) → words ≡ pos 0 → Walked place words state state
stays place words state none = record {
  spares = record { registers = λ r. refl; below = λ p under. refl; words = refl; trace = refl };
  here = omega (arith, ints, none);
  above = λ p over. refl;
}

walk-choice : (place : ℕ) (words : ℤ) (state : State) (none : Bool) → (none ≡ true → words ≡ pos 0)
    → Walked place words state (run (listed (if none then [] else Walk place words ∷ [])) state)
walk-choice place words state true h = stays place words state (h refl)
walk-choice place words state false h = walks-by place words state

is-none : (words : ℤ) → int_eq words (pos 0) ≡ true → words ≡ pos 0
is-none words h = (Decides-int_eq words (pos 0)).0 h

walked-by : (place : ℕ) (words : ℤ) (state : State) → Walked place words state (run (listed (walk_by place words)) state)
walked-by place words state = walk-choice place words state (int_eq words (pos 0)) (is-none words)

-- ---- all places

-- the places from one on hold these numbers for their accesses
abbrev pub AreAt : (Access → ℤ) → ℕ → List Access → State → Type 0
AreAt F place accesses state = Numbered (λ p access. state.held (Pointer p) ≡ F access) place accesses

pub record Walking (F : Access → ℤ) (place : ℕ) (accesses : List Access) (before after : State) : Type 0 where
  pub spares : Spares place before after
  pub places : AreAt F place accesses after

pub walks-go : (areas : List Area) (region : List (ℕ × ℕ)) (var : ℕ) (times : ℤ) (F : Access → ℤ) (accesses : List Access) (place : ℕ) (state : State)
    → AreAt F place accesses state
    → Walking (λ access. F access +ℤ times *ℤ stride_along access.strides var) place accesses state
    (run (listed (walks (spots_from areas region place accesses) var times)) state)
walks-go areas region var times F [] place state h = record {
  spares = record { registers = λ r. refl; below = λ p under. refl; words = refl; trace = refl };
  places = tt;
}
walks-go areas region var times F (access ∷ others) place state h =
    let words = times *ℤ stride_along access.strides var in
    let rest = walks (spots_from areas region (suc place) others) var times in
    let middle = run (listed (walk_by place words)) state in
    let one = walked-by place words state in
    let at : AreAt F (suc place) others middle =
    numbered-map (λ p other. state.held (Pointer p) ≡ F other) (λ p other. middle.held (Pointer p) ≡ F other) (suc place) (suc place) others
    (omega arith) (λ p other over e. one.above p over ∙ e) h.1 in
    let all = walks-go areas region var times F others (suc place) middle at in
    let same = run-append (walk_by place words) rest state in
    let after = run (listed rest) middle in
    subst (λ final. Walking (λ access. F access +ℤ times *ℤ stride_along access.strides var) place (access ∷ others) state final) (sym same)
    (record {
      spares = spares-on place (suc place) state middle after (omega arith) one.spares all.spares;
      places = (all.spares.below place (omega arith) ∙ one.here ∙ ap (λ z. z +ℤ words) h.0, all.places);
    })

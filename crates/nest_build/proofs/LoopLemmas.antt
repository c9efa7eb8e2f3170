-- Loops within one another write the values of all assignments that they go through, and bring each place back.
use Rattle.std.specs.Prelude.{◌≡◌, ◌⊎◌, ℕ, zero, suc, ◌+◌, ◌<◌, ◌≤◌, ◌==◌, ℤ, pos, ◌+ℤ◌, ◌-ℤ◌, ◌*ℤ◌, List, [], ◌∷◌}
use Rattle.std.specs.List.{AllByRecursion}
use Rattle.std.proofs.Common.{refl, ap, sym, subst, ◌∙◌, arith, inl, inr}
use Rattle.std.proofs.lemmas.Bool.{cases_lt, cond-false, ne_eqb}
use Rattle.std.proofs.lemmas.Int.{ints}
use Rattle.shapes_core.specs.declared.area.Area.{Area}
use Rattle.normal_form.specs.Assignments.{Assignment, bound}
use Rattle.stride_form.specs.declared.access.Access.{Access}
use Rattle.stride_form.specs.Accesses.{place_of}
use Rattle.loop_ir.specs.Running.{Pointer, Register, State, counted, holding, repeated, run}
use Rattle.loop_ir.specs.Steps.{Steps, joined}
use Rattle.nest_build.specs.Nests.{Spot, all_loops, inner_loops, listed, spots_from, start_of, stride_along, walks}
use Rattle.nest_build.specs.Parts.{Loop, low_of}
use Rattle.nest_build.proofs.DoesLemmas.{Does, Touches, does-none, does-on, does-within, touches-on}
use Rattle.nest_build.proofs.RunLemmas.{RunsJoin, held-below, held-same}
use Rattle.nest_build.proofs.StrideLemmas.{bound-here, bound-other, bound-own, walked-back, walked-on}
use Rattle.nest_build.proofs.WalkLemmas.{AreAt, numbered-map, walks-go}

-- the assignments through which loops go, from one on
abbrev pub Covers : (ℕ → ℕ) → List Loop → Assignment → Assignment → Type 0
Covers low [] m other = other ≡ m
Covers low (loop ∷ loops) m other = (k : ℕ) × ((k < loop.turns) × Covers low loops (bound m loop.var (low loop.var + k)) other)

-- counters and variables of loops rise, from these on, and counters are below the registers of literals
abbrev pub Rises : ℕ → ℕ → ℕ → List Loop → Type 0
Rises literal counter var [] = counter ≤ literal
Rises literal counter var (loop ∷ loops) =
    (counter ≤ loop.counter) × ((loop.counter < literal) × ((var ≤ loop.var) × Rises literal (suc loop.counter) (suc loop.var) loops))

-- loops are before one, in counters and variables
abbrev pub AreBefore : ℕ → ℕ → List Loop → Type 0
AreBefore counter var opened = AllByRecursion (λ loop. (loop.counter < counter) × (loop.var < var)) opened

-- the loops that are open within all of them, the innermost first
abbrev pub opening : List Loop → List Loop → List Loop
opening [] opened = opened
opening (loop ∷ loops) opened = opening loops (loop ∷ opened)

-- each variable of a loop that is not open is at its least number
abbrev pub AreLow : (ℕ → ℕ) → Assignment → List Loop → Type 0
AreLow low m loops = AllByRecursion (λ loop. m loop.var ≡ low loop.var) loops

-- an access is at its place
abbrev pub word_of : List Area → Assignment → Access → ℤ
word_of areas m access = pos (start_of areas access.area) +ℤ place_of m access

before-later : (counter var more higher : ℕ) (opened : List Loop) → counter ≤ more → var ≤ higher → AreBefore counter var opened
    → AreBefore more higher opened
before-later counter var more higher [] le under h = tt
before-later counter var more higher (loop ∷ loops) le under h =
    ((omega (arith, le, h.0.0), omega (arith, under, h.0.1)), before-later counter var more higher loops le under h.1)

low-later : (low : ℕ → ℕ) (m : Assignment) (var k literal counter higher : ℕ) (loops : List Loop) → var < higher
    → Rises literal counter higher loops → AreLow low m loops → AreLow low (bound m var k) loops
low-later low m var k literal counter higher [] le r h = tt
low-later low m var k literal counter higher (loop ∷ loops) le r h = (
  bound-other m var k loop.var (λ e. omega (arith, le, e, r.1.1.0)) ∙ h.0,
  low-later low m var k literal (suc loop.counter) (suc loop.var) loops (omega (arith, le, r.1.1.0)) r.1.1.1 h.1,
)

module _ (runs : RunsJoin) (areas : List Area) (region : List (ℕ × ℕ)) (first : ℕ) (reached : List Access) (literal free : ℕ) (fixed : ℕ → ℤ)
    (set : Assignment → Type 0) (place : Assignment → ℕ) (value : Assignment → ℤ) (original : List ℤ) where
  abbrev spots : List Spot
  spots = spots_from areas region first reached

  -- counters of the open loops count up from the least numbers
  abbrev AreCounted : Assignment → List Loop → State → Type 0
  AreCounted m opened state =
      AllByRecursion (λ loop. pos (low_of region loop.var) +ℤ state.held (Register loop.counter) ≡ pos (m loop.var)) opened

  pub record Ready (opened : List Loop) (m : Assignment) (state : State) : Type 0 where
    pub counters : AreCounted m opened state
    pub literals : (r : ℕ) → literal ≤ r → r < free → state.held (Register r) ≡ fixed r
    pub places : AreAt (word_of areas m) first reached state
    pub touched : Touches place set original state.words

  -- what a body does at one assignment
  pub record Acts (body : Steps) (m : Assignment) (state : State) : Type 0 where
    pub does : Does areas place value (λ other. other ≡ m) state (run body state)
    pub registers : (r : ℕ) → r < free → (run body state).held (Register r) ≡ state.held (Register r)
    pub pointers : (p : ℕ) → (run body state).held (Pointer p) ≡ state.held (Pointer p)

  -- what loops do from one assignment on
  pub record Goes (counter : ℕ) (part : Assignment → Type 0) (m : Assignment) (before after : State) : Type 0 where
    pub does : Does areas place value part before after
    pub below : (r : ℕ) → r < counter → after.held (Register r) ≡ before.held (Register r)
    pub literals : (r : ℕ) → literal ≤ r → r < free → after.held (Register r) ≡ before.held (Register r)
    pub places : AreAt (word_of areas m) first reached after

  abbrev ActsEverywhere : Steps → List Loop → Type 0
  ActsEverywhere body opened = (m : Assignment) (state : State) → set m → Ready opened m state → Acts body m state

  abbrev GoesEverywhere : Steps → List Loop → Type 0
  GoesEverywhere body loops = (opened : List Loop) (counter var : ℕ) (m : Assignment) (state : State)
      → AreBefore counter var opened → Rises literal counter var loops → AreLow (low_of region) m loops
      → ((other : Assignment) → Covers (low_of region) loops m other → set other)
      → ActsEverywhere body (opening loops opened) → Ready opened m state
      → Goes counter (Covers (low_of region) loops m) m state (run (inner_loops spots loops body) state)

  goes-body : (le : literal ≤ free) (body : Steps) → GoesEverywhere body []
  goes-body le body opened counter var m state before rises lows within acts ready =
      let a = acts m state (within m refl) ready in
      let after = run body state in
      record {
        does = a.does;
        below = λ r under. a.registers r (omega (arith, under, le, rises));
        literals = λ r from under. a.registers r under;
        places = numbered-map (λ p access. state.held (Pointer p) ≡ word_of areas m access)
            (λ p access. after.held (Pointer p) ≡ word_of areas m access)
            first first reached (omega arith) (λ p access from e. a.pointers p ∙ e) ready.places;
      }

  -- ---- the turns of a loop

  -- the counters of the loops outside are as they were, and so are their variables
  counted-later : (counter var k : ℕ) (m : Assignment) (opened : List Loop) (before after : State) → AreBefore counter var opened
      → ((r : ℕ) → r < counter → after.held (Register r) ≡ before.held (Register r)) → AreCounted m opened before
      → AreCounted (bound m var k) opened after
  counted-later counter var k m [] before after low same h = tt
  counted-later counter var k m (loop ∷ opened) before after low same h = (
    ap (λ z. pos (low_of region loop.var) +ℤ z) (same loop.counter low.0.0) ∙ h.0
        ∙ ap pos (sym (bound-other m var k loop.var (λ e. omega (arith, e, low.0.1)))),
    counted-later counter var k m opened before after low.1 same h.1,
  )

  -- after so many turns
  record Turned (loop : Loop) (part : Assignment → Type 0) (m : Assignment) (k : ℕ) (before after : State) : Type 0 where
    does : Does areas place value part before after
    counter : after.held (Register loop.counter) ≡ pos k
    below : (r : ℕ) → r < loop.counter → after.held (Register r) ≡ before.held (Register r)
    literals : (r : ℕ) → literal ≤ r → r < free → after.held (Register r) ≡ before.held (Register r)
    places : AreAt (word_of areas (bound m loop.var (low_of region loop.var + k))) first reached after

  -- the assignments of the first turns
  abbrev Before : Loop → List Loop → Assignment → ℕ → Assignment → Type 0
  Before loop loops m k other = (j : ℕ) × ((j < k) × Covers (low_of region) loops (bound m loop.var (low_of region loop.var + j)) other)

  abbrev turn_of : Loop → List Loop → Steps → State → State
  turn_of loop loops body before =
      counted loop.counter (run (joined (inner_loops spots loops body) (listed (walks spots loop.var (pos 1)))) before)

  -- behind a body, places walk and the counter counts
  turn-ends : (loop : Loop) (part : Assignment → Type 0) (m : Assignment) (k : ℕ) (state middle : State) → loop.counter < literal
      → Goes (suc loop.counter) part (bound m loop.var (low_of region loop.var + k)) state middle → state.held (Register loop.counter) ≡ pos k
      → Turned loop part m (suc k) state (counted loop.counter (run (listed (walks spots loop.var (pos 1))) middle))
  turn-ends loop part m k state middle less g at =
      let low = low_of region loop.var in
      let now = word_of areas (bound m loop.var (low + k)) in
      let w = walks-go areas region loop.var (pos 1) now reached first middle g.places in
      let last = run (listed (walks spots loop.var (pos 1))) middle in
      let next : low + suc k ≡ suc (low + k) = omega arith in
      let count : last.held (Register loop.counter) ≡ pos k = w.spares.registers loop.counter ∙ g.below loop.counter (omega arith) ∙ at in
      record {
        does = does-within areas place value part state state middle (counted loop.counter last) refl refl w.spares.words w.spares.trace g.does;
        counter = held-same loop.counter _ last ∙ ap (λ z. z +ℤ pos 1) count ∙ omega (arith, ints);
        below = λ r under. held-below r loop.counter _ last under ∙ w.spares.registers r ∙ g.below r (omega (arith, under));
        literals = λ r from under. other-held r loop.counter last (λ e. omega (arith, e, from, less))
            ∙ w.spares.registers r ∙ g.literals r from under;
        places = numbered-map (λ p access. last.held (Pointer p) ≡ now access +ℤ pos 1 *ℤ stride_along access.strides loop.var)
            (λ p access. last.held (Pointer p) ≡ word_of areas (bound m loop.var (low + suc k)) access) first first reached (omega arith)
            (λ p access from e. e ∙ on-by-one access ∙ ap (λ n. word_of areas (bound m loop.var n) access) (sym next)) w.places;
      }
    where
      other-held : (r c : ℕ) (last : State) → (r ≡ c → ⊥) → (counted c last).held (Register r) ≡ last.held (Register r)
      other-held r c last ne = cond-false (r == c) _ (last.held (Register r)) (ne_eqb r c ne)

      on-by-one : (access : Access) → word_of areas (bound m loop.var (low_of region loop.var + k)) access
          +ℤ pos 1 *ℤ stride_along access.strides loop.var
          ≡ word_of areas (bound m loop.var (suc (low_of region loop.var + k))) access
      on-by-one access = omega (arith, ints, walked-on m loop.var (low_of region loop.var + k) access.strides)

  turns-start : (loop : Loop) (loops : List Loop) (m : Assignment) (state : State) → loop.counter < literal → m loop.var ≡ low_of region loop.var
      → AreAt (word_of areas m) first reached state
      → Turned loop (Before loop loops m 0) m 0 state (holding (Register loop.counter) (pos 0) state)
  turns-start loop loops m state less e at =
      let low = low_of region loop.var in
      let last = holding (Register loop.counter) (pos 0) state in
      let same : bound m loop.var (low + 0) ≡ m = bound-own m loop.var (low + 0) (omega (arith, e)) in
      record {
        does = does-none areas place value (Before loop loops m 0) state last (λ other h. omega (arith, h.1.0)) refl refl;
        counter = held-same loop.counter (pos 0) state;
        below = λ r under. held-below r loop.counter (pos 0) state under;
        literals = λ r from under. cond-false (r == loop.counter) _ (state.held (Register r))
            (ne_eqb r loop.counter (λ e. omega (arith, e, from, less)));
        places = numbered-map (λ p access. state.held (Pointer p) ≡ word_of areas m access)
            (λ p access. last.held (Pointer p) ≡ word_of areas (bound m loop.var (low + 0)) access) first first reached (omega arith)
            (λ p access from e. e ∙ ap (λ n. word_of areas n access) (sym same)) at;
      }

  -- one turn more
  turn-goes : (loop : Loop) (loops : List Loop) (body : Steps) → GoesEverywhere body loops
      → (opened : List Loop) (counter var : ℕ) (m : Assignment) (state middle : State) (k : ℕ)
      → AreBefore counter var opened → Rises literal counter var (loop ∷ loops) → AreLow (low_of region) m (loop ∷ loops)
      → ((other : Assignment) → Covers (low_of region) (loop ∷ loops) m other → set other)
      → ActsEverywhere body (opening (loop ∷ loops) opened) → Ready opened m state → suc k ≤ loop.turns
      → Turned loop (Before loop loops m k) m k state middle
      → Turned loop (Before loop loops m (suc k)) m (suc k) state (turn_of loop loops body middle)
  turn-goes loop loops body inner opened counter var m state middle k before rises lows within acts ready le h =
      let low = low_of region loop.var in
      let here = bound m loop.var (low + k) in
      let now : Ready (loop ∷ opened) here middle = record {
        counters = (
          ap (λ z. pos low +ℤ z) h.counter ∙ ap pos (sym (bound-here m loop.var (low + k))),
          counted-later loop.counter loop.var (low + k) m opened state middle
              (before-later counter var loop.counter loop.var opened rises.0 rises.1.1.0 before) h.below ready.counters,
        );
        literals = λ r from under. h.literals r from under ∙ ready.literals r from under;
        places = h.places;
        touched = touches-on areas place value (Before loop loops m k) set original state middle
            (λ other c. within other (c.0, (omega (arith, c.1.0, le), c.1.1))) ready.touched h.does;
      } in
      let g = inner (loop ∷ opened) (suc loop.counter) (suc loop.var) here middle (
        (omega arith, omega arith),
        before-later counter var (suc loop.counter) (suc loop.var) opened
            (omega (arith, rises.0)) (omega (arith, rises.1.1.0)) before,
      )
      rises.1.1.1
      (low-later (low_of region) m loop.var (low + k) literal (suc loop.counter) (suc loop.var) loops (omega arith) rises.1.1.1 lows.1)
      (λ other c. within other (k, (le, c))) acts now in
      let done = run (inner_loops spots loops body) middle in
      let ends = turn-ends loop (Covers (low_of region) loops here) m k middle done rises.1.0 g h.counter in
      let last = counted loop.counter (run (listed (walks spots loop.var (pos 1))) done) in
      let all : Turned loop (Before loop loops m (suc k)) m (suc k) state last = record {
        does = does-on areas place value (Before loop loops m k) (Covers (low_of region) loops here) (Before loop loops m (suc k)) state middle last
            (λ other c. (c.0, (omega (arith, c.1.0), c.1.1))) (λ other c. (k, (omega arith, c))) split h.does ends.does;
        counter = ends.counter;
        below = λ r under. ends.below r under ∙ h.below r under;
        literals = λ r from under. ends.literals r from under ∙ h.literals r from under;
        places = ends.places;
      } in
      subst (λ (after : State). Turned loop (Before loop loops m (suc k)) m (suc k) state (counted loop.counter after))
      (sym (runs (inner_loops spots loops body) (listed (walks spots loop.var (pos 1))) middle)) all
    where
      split : (other : Assignment) → Before loop loops m (suc k) other
          → Before loop loops m k other ⊎ Covers (low_of region) loops (bound m loop.var (low_of region loop.var + k)) other
      split other c = elim (cases_lt c.0 k) [
        | inl under ↦ inl (c.0, (under, c.1.1))
        | inr over ↦ inr (let e : c.0 ≡ k = omega (arith, over, c.1.0) in
            subst (λ j. Covers (low_of region) loops (bound m loop.var (low_of region loop.var + j)) other) e c.1.1)
      ]

  turns-go : (loop : Loop) (loops : List Loop) (body : Steps) → GoesEverywhere body loops
      → (opened : List Loop) (counter var : ℕ) (m : Assignment) (state : State) (k : ℕ)
      → AreBefore counter var opened → Rises literal counter var (loop ∷ loops) → AreLow (low_of region) m (loop ∷ loops)
      → ((other : Assignment) → Covers (low_of region) (loop ∷ loops) m other → set other)
      → ActsEverywhere body (opening (loop ∷ loops) opened) → Ready opened m state → k ≤ loop.turns
      → Turned loop (Before loop loops m k) m k state (repeated (turn_of loop loops body) k (holding (Register loop.counter) (pos 0) state))
  turns-go loop loops body inner opened counter var m state zero before rises lows within acts ready le =
      turns-start loop loops m state rises.1.0 lows.0 ready.places
  turns-go loop loops body inner opened counter var m state (suc k) before rises lows within acts ready le =
      turn-goes loop loops body inner opened counter var m state
      (repeated (turn_of loop loops body) k (holding (Register loop.counter) (pos 0) state)) k
      before rises lows within acts ready le
      (turns-go loop loops body inner opened counter var m state k before rises lows within acts ready (omega (arith, le)))

  -- ---- loops within one another

  -- behind a loop each place is brought back
  loop-ends : (loop : Loop) (part : Assignment → Type 0) (m : Assignment) (counter : ℕ) (state middle : State) → counter ≤ loop.counter
      → m loop.var ≡ low_of region loop.var → Turned loop part m loop.turns state middle
      → Goes counter part m state (run (listed (walks spots loop.var (pos 0 -ℤ pos loop.turns))) middle)
  loop-ends loop part m counter state middle le e h =
      let low = low_of region loop.var in
      let back = pos 0 -ℤ pos loop.turns in
      let now = word_of areas (bound m loop.var (low + loop.turns)) in
      let w = walks-go areas region loop.var back now reached first middle h.places in
      let last = run (listed (walks spots loop.var back)) middle in
      record {
        does = does-within areas place value part state state middle last refl refl w.spares.words w.spares.trace h.does;
        below = λ r under. w.spares.registers r ∙ h.below r (omega (arith, under, le));
        literals = λ r from under. w.spares.registers r ∙ h.literals r from under;
        places = numbered-map (λ p access. last.held (Pointer p) ≡ now access +ℤ back *ℤ stride_along access.strides loop.var)
            (λ p access. last.held (Pointer p) ≡ word_of areas m access) first first reached (omega arith)
            (λ p access from same. same ∙ back-again access) w.places;
      }
    where
      back-again : (access : Access) → word_of areas (bound m loop.var (low_of region loop.var + loop.turns)) access
          +ℤ (pos 0 -ℤ pos loop.turns) *ℤ stride_along access.strides loop.var ≡ word_of areas m access
      back-again access = omega (arith, ints, walked-back m loop.var (low_of region loop.var) loop.turns access.strides e)

  inner-go : (le : literal ≤ free) (loops : List Loop) (body : Steps) → GoesEverywhere body loops
  inner-go le [] body opened counter var m state before rises lows within acts ready =
      goes-body le body opened counter var m state before rises lows within acts ready
  inner-go le (loop ∷ loops) body opened counter var m state before rises lows within acts ready =
      loop-ends loop (Covers (low_of region) (loop ∷ loops) m) m counter state
      (repeated (turn_of loop loops body) loop.turns (holding (Register loop.counter) (pos 0) state)) rises.0 lows.0
      (turns-go loop loops body (inner-go le loops body) opened counter var m state loop.turns before rises lows within acts ready (omega arith))

  -- all loops: places are not brought back behind the outermost one
  pub all-go : (le : literal ≤ free) (loops : List Loop) (body : Steps) (m : Assignment) (state : State)
      → Rises literal 0 0 loops → AreLow (low_of region) m loops
      → ((other : Assignment) → Covers (low_of region) loops m other → set other)
      → ActsEverywhere body (opening loops []) → Ready [] m state
      → Does areas place value (Covers (low_of region) loops m) state (run (all_loops spots loops body) state)
  all-go le [] body m state rises lows within acts ready =
      (goes-body le body [] 0 0 m state tt rises lows within acts ready).does
  all-go le (loop ∷ loops) body m state rises lows within acts ready =
      (turns-go loop loops body (inner-go le loops body) [] 0 0 m state loop.turns tt rises lows within acts ready (omega arith)).does

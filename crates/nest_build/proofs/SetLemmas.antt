-- The steps before the loops: literals and places are set.
use Rattle.std.specs.Prelude.{◌≡◌, ℕ, suc, ◌<◌, ◌==◌, ℤ, List, [], ◌∷◌, map}
use Rattle.std.proofs.Common.{refl, ◌∙◌, arith}
use Rattle.std.proofs.lemmas.Bool.{cond-false, cond-true, eq-eqb, ne_eqb}
use Rattle.shapes_core.specs.declared.area.Area.{Area}
use Rattle.stride_form.specs.declared.access.Access.{Access}
use Rattle.loop_ir.specs.Running.{Pointer, Register, State, acted, run}
use Rattle.loop_ir.specs.Steps.{Place, Set}
use Rattle.nest_build.specs.Nests.{listed, sets_from, spots_from}
use Rattle.nest_build.specs.Parts.{low_of}
use Rattle.nest_build.proofs.LoopLemmas.{word_of}
use Rattle.nest_build.proofs.RunLemmas.{Numbered, held-below, held-same}
use Rattle.nest_build.proofs.WalkLemmas.{AreAt}

-- literals are in registers from one on, and registers below it, words and accesses are as they were
pub record AreSet (register : ℕ) (values : List ℤ) (before after : State) : Type 0 where
  pub literals : Numbered (λ r value. after.held (Register r) ≡ value) register values
  pub below : (r : ℕ) → r < register → after.held (Register r) ≡ before.held (Register r)
  pub words : after.words ≡ before.words
  pub trace : after.trace ≡ before.trace

pub sets-go : (values : List ℤ) (register : ℕ) (state : State) → AreSet register values state (run (listed (sets_from register values)) state)
sets-go [] register state = record { literals = tt; below = λ r under. refl; words = refl; trace = refl }
sets-go (value ∷ values) register state =
    let middle = acted (Set register value) state in
    let rest = sets-go values (suc register) middle in
    record {
      literals = (rest.below register (omega arith) ∙ held-same register value state, rest.literals);
      below = λ r under. rest.below r (omega (arith, under)) ∙ held-below r register value state under;
      words = rest.words;
      trace = rest.trace;
    }

-- places from one on are at the first words of their accesses, and those below it, registers, words and accesses are as they were
pub record ArePlaced (areas : List Area) (region : List (ℕ × ℕ)) (place : ℕ) (accesses : List Access) (before after : State) : Type 0 where
  pub places : AreAt (word_of areas (low_of region)) place accesses after
  pub below : (p : ℕ) → p < place → after.held (Pointer p) ≡ before.held (Pointer p)
  pub registers : (r : ℕ) → after.held (Register r) ≡ before.held (Register r)
  pub words : after.words ≡ before.words
  pub trace : after.trace ≡ before.trace

pub places-go : (areas : List Area) (region : List (ℕ × ℕ)) (accesses : List Access) (place : ℕ) (state : State)
    → ArePlaced areas region place accesses state
    (run (listed (map (λ spot. Place spot.place spot.word) (spots_from areas region place accesses))) state)
places-go areas region [] place state =
    record { places = tt; below = λ p under. refl; registers = λ r. refl; words = refl; trace = refl }
places-go areas region (access ∷ others) place state =
    let word = word_of areas (low_of region) access in
    let middle = acted (Place place word) state in
    let rest = places-go areas region others (suc place) middle in
    let here : middle.held (Pointer place) ≡ word = cond-true (place == place) word (state.held (Pointer place)) (eq-eqb place place refl) in
    record {
      places = (rest.below place (omega arith) ∙ here, rest.places);
      below = λ p under. rest.below p (omega (arith, under))
          ∙ cond-false (p == place) word (state.held (Pointer p)) (ne_eqb p place (λ e. omega (arith, e, under)));
      registers = rest.registers;
      words = rest.words;
      trace = rest.trace;
    }

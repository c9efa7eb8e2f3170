-- What nests read before they set it. This project's own.
use Rattle.std.specs.Prelude.{◌≡◌, Bool, true, false, not, ◌&&◌, ◌||◌, List, [], ◌∷◌}
use Rattle.std.specs.List.{list_any}
use Rattle.loop_ir.specs.Running.{Key, Register, Pointer, State, is_key}
use Rattle.loop_ir.specs.Steps.{Action, Set, Copy, One, Two, Place, Spot, Walk, Read, Write, Steps, End, Then, For, If}

-- the registers and places that an action reads, and the one that it sets
abbrev pub reads : Action → List Key
reads (Set to value) = []
reads (Copy to from) = Register from ∷ []
reads (One op to from) = Register from ∷ []
reads (Two op to left right) = Register left ∷ Register right ∷ []
reads (Place to word) = []
reads (Spot to word by) = Register by ∷ []
reads (Walk place words) = Pointer place ∷ []
reads (Read to area place) = Pointer place ∷ []
reads (Write area place from) = Pointer place ∷ Register from ∷ []

abbrev pub sets : Action → List Key
sets (Set to value) = Register to ∷ []
sets (Copy to from) = Register to ∷ []
sets (One op to from) = Register to ∷ []
sets (Two op to left right) = Register to ∷ []
sets (Place to word) = Pointer to ∷ []
sets (Spot to word by) = Pointer to ∷ []
sets (Walk place words) = Pointer place ∷ []
sets (Read to area place) = Register to ∷ []
sets (Write area place from) = []

-- registers and places, by a test
abbrev pub Keys : Type 0
Keys = Key → Bool

abbrev pub none : Keys
none key = false

abbrev pub among : List Key → Keys
among keys key = list_any (is_key key) keys

-- what is needed before steps, where this is needed after them: a body may be skipped or done again, and either list may be taken
abbrev pub needed : Steps → Keys → Keys
needed End after = after
needed (Then action rest) after = λ key. among (reads action) key || (needed rest after key && not (among (sets action) key))
needed (For counter turns body rest) after = λ key. (needed rest after key || needed body none key) && not (is_key key (Register counter))
needed (If left below one other rest) after =
    let behind = needed rest after in
    λ key. is_key key (Register left) || (needed one behind key || needed other behind key)

-- states that hold the same numbers where they are needed, and the same words, after the same accesses
pub record AreAlike (keys : Keys) (first second : State) : Type 0 where
  pub held : (key : Key) → keys key ≡ true → first.held key ≡ second.held key
  pub words : first.words ≡ second.words
  pub trace : first.trace ≡ second.trace

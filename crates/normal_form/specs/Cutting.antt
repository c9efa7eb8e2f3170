-- What a form keeps so that it can be cut, and written anew: no choice, turn or digit is of a constant, constants leave room for the turns that
-- their variables come from, and as a tree it has no more terms than its pool. This project's own.
use Rattle.std.specs.Prelude.{ℕ, ◌+◌, ◌==◌, ◌≤◌, List, [], ◌∷◌, unsigned_abs, if◌then◌else◌, ⊤}
use Rattle.std.specs.List.{AllByRecursion}
use Rattle.normal_form.specs.declared.entry.Entry.{Entry}
use Rattle.normal_form.specs.declared.entry.Entry.TheVariants.{At, Plus, Minus}
use Rattle.normal_form.specs.declared.term.Bind.{Bind}
use Rattle.normal_form.specs.declared.term.Bind.TheVariants.{Turn, Flat, Digit}
use Rattle.normal_form.specs.Forms.{Form, Lit, Index, Get, Un, Bin, Case, Fold, Let, Normal}
use Rattle.normal_form.specs.Constants.{greatest_constant}

-- ---- terms

-- how many terms a form has as a tree
abbrev pub terms_in : {Load : Type 0} → Form Load → ℕ
terms_in (Lit value) = 1
terms_in (Index entry) = 1
terms_in (Get load) = 1
terms_in (Un op of) = 1 + terms_in of
terms_in (Bin op left right) = 1 + (terms_in left + terms_in right)
terms_in (Case entry below first second) = 1 + (terms_in first + terms_in second)
terms_in (Fold op var low high of) = 1 + terms_in of
terms_in (Let var bind of) = 1 + terms_in of

-- ---- no constants where a rule would settle them

abbrev pub IsVariable : Entry → Type 0
IsVariable (At constant) = ⊥
IsVariable (Plus var add) = ⊤
IsVariable (Minus var add) = ⊤

abbrev pub IsVaryingBinding : Bind → Type 0
IsVaryingBinding (Turn of by extent) = IsVariable of
IsVaryingBinding (Flat of shape) = ⊤
IsVaryingBinding (Digit of weight extent) = IsVariable of

-- no choice, turn or digit is of a constant
abbrev pub IsVarying : Normal → Type 0
IsVarying (Lit value) = ⊤
IsVarying (Index entry) = ⊤
IsVarying (Get load) = ⊤
IsVarying (Un op of) = IsVarying of
IsVarying (Bin op left right) = IsVarying left × IsVarying right
IsVarying (Case entry below first second) = IsVariable entry × (IsVarying first × IsVarying second)
IsVarying (Fold op var low high of) = IsVarying of
IsVarying (Let var bind of) = IsVaryingBinding bind × IsVarying of

-- ---- room for turns

-- variables, each with the most that turns in its place would add to a constant beside it
abbrev pub Scope : Type 0
Scope = List (ℕ × ℕ)

-- what turns in a variable's place would add: nothing, where it is bound by none
abbrev pub carried : Scope → ℕ → ℕ
carried [] var = 0
carried (first ∷ others) var = if var == first.0 then first.1 else carried others var

-- a constant beside a variable, and what would be added to it
abbrev pub reach : Scope → Entry → ℕ
reach scope (At constant) = 0
reach scope (Plus var add) = unsigned_abs add + carried scope var
reach scope (Minus var add) = unsigned_abs add + carried scope var

-- what a turn in a bound variable's place would add
abbrev pub carries : Scope → Bind → ℕ
carries scope (Turn of by extent) = reach scope of + extent
carries scope (Flat of shape) = 0
carries scope (Digit of weight extent) = 0

-- an entry leaves room: each turn in its place is a small one
abbrev pub IsRoomyEntry : Scope → Entry → Type 0
IsRoomyEntry scope entry = reach scope entry ≤ greatest_constant

abbrev pub IsRoomyBinding : Scope → Bind → Type 0
IsRoomyBinding scope (Turn of by extent) = IsRoomyEntry scope of
IsRoomyBinding scope (Flat of shape) = AllByRecursion (IsRoomyEntry scope) of
IsRoomyBinding scope (Digit of weight extent) = IsRoomyEntry scope of

-- each entry leaves room; a variable of the job or of a fold carries nothing
abbrev pub IsRoomy : Scope → Normal → Type 0
IsRoomy scope (Lit value) = ⊤
IsRoomy scope (Index entry) = IsRoomyEntry scope entry
IsRoomy scope (Get load) = AllByRecursion (IsRoomyEntry scope) load.at
IsRoomy scope (Un op of) = IsRoomy scope of
IsRoomy scope (Bin op left right) = IsRoomy scope left × IsRoomy scope right
IsRoomy scope (Case entry below first second) = IsRoomyEntry scope entry × (IsRoomy scope first × IsRoomy scope second)
IsRoomy scope (Fold op var low high of) = IsRoomy ((var, 0) ∷ scope) of
IsRoomy scope (Let var bind of) = IsRoomyBinding scope bind × IsRoomy ((var, carries scope bind) ∷ scope) of

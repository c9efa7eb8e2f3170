-- Variables that carry nothing leave as much room as none do.
use Rattle.std.specs.Prelude.{◌≡◌, ◌==◌, ℕ, ◌+◌, ◌≤◌, Bool, true, false, List, [], ◌∷◌, unsigned_abs, if◌then◌else◌}
use Rattle.std.specs.List.{AllByRecursion}
use Rattle.std.proofs.Common.{refl, ap, subst}
use Rattle.normal_form.specs.Constants.{greatest_constant}
use Rattle.normal_form.specs.Cutting.{IsRoomy, IsRoomyBinding, IsRoomyEntry, Scope, carried, carries, reach}
use Rattle.normal_form.specs.declared.entry.Entry.{Entry}
use Rattle.normal_form.specs.declared.entry.Entry.TheVariants.{At, Plus, Minus}
use Rattle.normal_form.specs.declared.term.Bind.{Bind}
use Rattle.normal_form.specs.declared.term.Bind.TheVariants.{Turn, Flat, Digit}
use Rattle.normal_form.specs.Forms.{Lit, Index, Get, Un, Bin, Case, Fold, Let, Normal}
use Rattle.normal_form.specs.Keeps.{variables_in}

-- ---- variables that carry nothing

abbrev pub resting : List ℕ → Scope
resting [] = []
resting (var ∷ others) = (var, 0) ∷ resting others

pub resting-variables : (vars : List ℕ) → variables_in (resting vars) ≡ vars
resting-variables [] = refl
resting-variables (var ∷ others) = ap (λ rest. var ∷ rest) (resting-variables others)

chosen-nothing : (test : Bool) (other : ℕ) → other ≡ 0 → (if test then 0 else other) ≡ 0
chosen-nothing true other e = refl
chosen-nothing false other e = e

pub resting-carries : (vars : List ℕ) (var : ℕ) → carried (resting vars) var ≡ 0
resting-carries [] var = refl
resting-carries (first ∷ others) var = chosen-nothing (var == first) (carried (resting others) var) (resting-carries others var)

-- ---- scopes that agree

-- turns in a variable's place would add the same
abbrev pub Agree : Scope → Scope → Type 0
Agree scope other = (var : ℕ) → carried scope var ≡ carried other var

chosen-same : (test : Bool) (a b c d : ℕ) → a ≡ b → c ≡ d → (if test then a else c) ≡ (if test then b else d)
chosen-same true a b c d e k = e
chosen-same false a b c d e k = k

agree-next : (scope other : Scope) (var carry more : ℕ) → carry ≡ more → Agree scope other → Agree ((var, carry) ∷ scope) ((var, more) ∷ other)
agree-next scope other var carry more e agree at = chosen-same (at == var) carry more (carried scope at) (carried other at) e (agree at)

reach-agrees : (scope other : Scope) → Agree scope other → (entry : Entry) → reach scope entry ≡ reach other entry
reach-agrees scope other agree (At constant) = refl
reach-agrees scope other agree (Plus var add) = ap (λ n. unsigned_abs add + n) (agree var)
reach-agrees scope other agree (Minus var add) = ap (λ n. unsigned_abs add + n) (agree var)

entry-agrees : (scope other : Scope) → Agree scope other → (entry : Entry) → IsRoomyEntry scope entry → IsRoomyEntry other entry
entry-agrees scope other agree entry h = subst (λ n. n ≤ greatest_constant) (reach-agrees scope other agree entry) h

entries-agree : (scope other : Scope) → Agree scope other → (entries : List Entry) → AllByRecursion (IsRoomyEntry scope) entries
    → AllByRecursion (IsRoomyEntry other) entries
entries-agree scope other agree [] h = tt
entries-agree scope other agree (entry ∷ entries) h = (entry-agrees scope other agree entry h.0, entries-agree scope other agree entries h.1)

binding-agrees : (scope other : Scope) → Agree scope other → (bind : Bind) → IsRoomyBinding scope bind → IsRoomyBinding other bind
binding-agrees scope other agree (Turn of by extent) h = entry-agrees scope other agree of h
binding-agrees scope other agree (Flat of shape) h = entries-agree scope other agree of h
binding-agrees scope other agree (Digit of weight extent) h = entry-agrees scope other agree of h

carries-agree : (scope other : Scope) → Agree scope other → (bind : Bind) → carries scope bind ≡ carries other bind
carries-agree scope other agree (Turn of by extent) = ap (λ n. n + extent) (reach-agrees scope other agree of)
carries-agree scope other agree (Flat of shape) = refl
carries-agree scope other agree (Digit of weight extent) = refl

pub roomy-agrees : (form : Normal) (scope other : Scope) → Agree scope other → IsRoomy scope form → IsRoomy other form
roomy-agrees (Lit value) scope other agree h = tt
roomy-agrees (Index entry) scope other agree h = entry-agrees scope other agree entry h
roomy-agrees (Get load) scope other agree h = entries-agree scope other agree load.at h
roomy-agrees (Un op of) scope other agree h = roomy-agrees of scope other agree h
roomy-agrees (Bin op left right) scope other agree h = (roomy-agrees left scope other agree h.0, roomy-agrees right scope other agree h.1)
roomy-agrees (Case entry below first second) scope other agree h = (
  entry-agrees scope other agree entry h.0,
  (roomy-agrees first scope other agree h.1.0, roomy-agrees second scope other agree h.1.1),
)
roomy-agrees (Fold op var low high of) scope other agree h =
    roomy-agrees of ((var, 0) ∷ scope) ((var, 0) ∷ other) (agree-next scope other var 0 0 refl agree) h
roomy-agrees (Let var bind of) scope other agree h = (
  binding-agrees scope other agree bind h.0,
  roomy-agrees of ((var, carries scope bind) ∷ scope) ((var, carries other bind) ∷ other)
      (agree-next scope other var (carries scope bind) (carries other bind) (carries-agree scope other agree bind) agree) h.1,
)

-- The steps that make the value of a straight form, where registers and places hold what they are to hold at an index vector.
use Rattle.std.specs.Prelude.{◌≡◌, ℕ, ◌+◌, ◌^◌, ◌<◌, ◌≤◌, ℤ, pos, ◌+ℤ◌, ◌-ℤ◌, List, [], ◌∷◌, ◌++◌, length}
use Rattle.std.specs.Prelude.{slice_index_or, true, Option, None, Some, unsigned_abs, ⊤}
use Rattle.std.specs.List.{AllByRecursion}
use Rattle.std.proofs.Common.{refl, ap, ap₂, sym, subst, ◌∙◌, arith}
use Rattle.std.proofs.lemmas.Bool.{and_parts, false≢true}
use Rattle.std.proofs.lemmas.Int.{ints}
use Rattle.shapes_core.specs.Limits.{greatest_extent}
use Rattle.shapes_core.specs.declared.area.Area.{Area}
use Rattle.moa_tree.specs.declared.operator.Op.{Op}
use Rattle.moa_tree.specs.declared.operator.Op.TheVariants.{Add, Sub}
use Rattle.moa_tree.specs.declared.operator.Unary.{Unary}
use Rattle.moa_tree.specs.Operators.{apply, apply_unary}
use Rattle.normal_form.specs.declared.entry.Entry.{Entry}
use Rattle.normal_form.specs.declared.entry.Entry.TheVariants.{At, Plus, Minus}
use Rattle.normal_form.specs.Assignments.{Assignment, number}
use Rattle.normal_form.specs.Forms.{Lit, Index, Get, Un, Bin, Case, Fold, Let}
use Rattle.normal_form.specs.Constants.{greatest_constant}
use Rattle.normal_form.specs.Kept.{IsEntry}
use Rattle.normal_form.specs.Meaning.{Store, meaning}
use Rattle.stride_form.specs.declared.access.Access.{Access}
use Rattle.stride_form.specs.Accesses.{access_value, place_of}
use Rattle.stride_form.specs.Operational.{Operational}
use Rattle.loop_ir.specs.Inside.{IsInside, IsWordOf}
use Rattle.loop_ir.specs.Running.{Pointer, ReadsWord, Register, State, acted, run, word_at}
use Rattle.loop_ir.specs.Steps.{Action, One, Read, Set, Two}
use Rattle.nest_build.specs.Gives.{AddsInside}
use Rattle.nest_build.specs.Nests.{counted_by, indexed, listed, made_of, start_of}
use Rattle.nest_build.specs.Parts.{Loop, accesses, behind_value, counter_of, entries, is_straight, literals}
use Rattle.nest_build.proofs.IndexLemmas.{small-difference, small-sum}
use Rattle.nest_build.proofs.RunLemmas.{Numbered, adds-none, adds-on, adds-one, all-parts, held-below, held-same, numbered-parts, run-append}

-- ---- what steps leave as it was

-- the registers below the first free one, the places and the words are as they were, and what was read is inside the areas
pub record Leaves (areas : List Area) (free : ℕ) (before after : State) : Type 0 where
  pub kept : (r : ℕ) → r < free → after.held (Register r) ≡ before.held (Register r)
  pub places : (p : ℕ) → after.held (Pointer p) ≡ before.held (Pointer p)
  pub words : after.words ≡ before.words
  pub trace : AddsInside areas before.trace after.trace

leaves-none : (areas : List Area) (free : ℕ) (state : State) → Leaves areas free state state
leaves-none areas free state = record {
  kept = λ r below. refl;
  places = λ p. refl;
  words = refl;
  trace = adds-none areas state.trace;
}

leaves-on : (areas : List Area) (free more : ℕ) (first second third : State) → free ≤ more
    → Leaves areas free first second → Leaves areas more second third → Leaves areas free first third
leaves-on areas free more first second third le a b = record {
  kept = λ r below. b.kept r (omega (arith, le, below)) ∙ a.kept r below;
  places = λ p. b.places p ∙ a.places p;
  words = b.words ∙ a.words;
  trace = adds-on areas first.trace second.trace third.trace a.trace b.trace;
}

leaves-less : (areas : List Area) (free more : ℕ) (before after : State) → free ≤ more → Leaves areas more before after
    → Leaves areas free before after
leaves-less areas free more before after le h = record {
  kept = λ r below. h.kept r (omega (arith, le, below));
  places = h.places;
  words = h.words;
  trace = h.trace;
}

leaves-set : (areas : List Area) (free : ℕ) (value : ℤ) (state : State) → Leaves areas free state (acted (Set free value) state)
leaves-set areas free value state = record {
  kept = λ r below. held-below r free value state below;
  places = λ p. refl;
  words = refl;
  trace = adds-none areas state.trace;
}

-- the steps leave what they shall, and a register holds a value behind them
pub record Gets (areas : List Area) (free : ℕ) (steps : List Action) (register : ℕ) (state : State) (value : ℤ) : Type 0 where
  pub leaves : Leaves areas free state (run (listed steps) state)
  pub holds : (run (listed steps) state).held (Register register) ≡ value

-- one more step that works on what was made
gets-one : (areas : List Area) (free : ℕ) (steps : List Action) (action : Action) (value : ℤ) (state : State)
    → Leaves areas free state (run (listed steps) state)
    → Leaves areas free (run (listed steps) state) (acted action (run (listed steps) state))
    → (acted action (run (listed steps) state)).held (Register free) ≡ value
    → Gets areas free (steps ++ action ∷ []) free state value
gets-one areas free steps action value state first second e =
    let same = run-append steps (action ∷ []) state in
    let step = acted action (run (listed steps) state) in
    record {
      leaves = subst (λ after. Leaves areas free state after) (sym same)
          (leaves-on areas free free state (run (listed steps) state) step (omega arith) first second);
      holds = ap (λ (after : State). after.held (Register free)) same ∙ e;
    }

-- ---- entries

-- a counter counts up from the least number of its variable, and a variable without one is at its least number
abbrev pub CountsTo : (ℕ → ℕ) → Assignment → ℕ → (ℕ → ℤ) → ℕ → Option ℕ → Type 0
CountsTo low m base known var None = m var ≡ low var
CountsTo low m base known var (Some counter) = (counter < base) × (pos (low var) +ℤ known counter ≡ pos (m var))

-- a constant beside a variable is small
abbrev pub IsSmallEntry : Entry → Type 0
IsSmallEntry (At constant) = ⊤
IsSmallEntry (Plus var add) = unsigned_abs add ≤ greatest_constant
IsSmallEntry (Minus var add) = unsigned_abs add ≤ greatest_constant

pub small-entry : (variables : List ℕ) (entry : Entry) (n : ℕ) → IsEntry variables entry n → IsSmallEntry entry
small-entry variables (At constant) n h = tt
small-entry variables (Plus var add) n h = h.1
small-entry variables (Minus var add) n h = h.1

-- what a variable stands for is small
abbrev pub Within : (ℕ → ℕ) → Assignment → Type 0
Within low m = (var : ℕ) → (low var ≤ m var) × (m var ≤ greatest_extent)

plus-fixed : (add : ℤ) (l k : ℕ) → k ≡ l → add +ℤ pos l ≡ pos k +ℤ add
plus-fixed add l k e = omega (arith, ints, e)

minus-fixed : (add : ℤ) (l k : ℕ) → k ≡ l → add -ℤ pos l ≡ add -ℤ pos k
minus-fixed add l k e = omega (arith, ints, e)

counter-small : (c : ℤ) (l k : ℕ) → pos l +ℤ c ≡ pos k → l ≤ k → k ≤ greatest_extent → unsigned_abs c ≤ greatest_extent
counter-small c l k e le small = omega (arith, ints, e, le, small)

base-small : (add : ℤ) (l : ℕ) → unsigned_abs add ≤ greatest_constant → l ≤ greatest_extent → unsigned_abs (add +ℤ pos l) ≤ 2 ^ 40
base-small add l h small = omega (arith, ints, h, small)

rest-small : (add : ℤ) (l : ℕ) → unsigned_abs add ≤ greatest_constant → l ≤ greatest_extent → unsigned_abs (add -ℤ pos l) ≤ 2 ^ 40
rest-small add l h small = omega (arith, ints, h, small)

plus-counted : (add c : ℤ) (l k : ℕ) → pos l +ℤ c ≡ pos k → l ≤ k → k ≤ greatest_extent → unsigned_abs add ≤ greatest_constant
    → apply Add (add +ℤ pos l) c ≡ pos k +ℤ add
plus-counted add c l k e le small h =
    let sum = small-sum (add +ℤ pos l) c (base-small add l h (omega (arith, le, small)))
    (omega (arith, counter-small c l k e le small)) in
    sum ∙ omega (arith, ints, e)

minus-counted : (add c : ℤ) (l k : ℕ) → pos l +ℤ c ≡ pos k → l ≤ k → k ≤ greatest_extent → unsigned_abs add ≤ greatest_constant
    → apply Sub (add -ℤ pos l) c ≡ add -ℤ pos k
minus-counted add c l k e le small h =
    let sum = small-difference (add -ℤ pos l) c (rest-small add l h (omega (arith, le, small)))
    (omega (arith, counter-small c l k e le small)) in
    sum ∙ omega (arith, ints, e)

-- ---- values

-- what an access reads
pub record IsRead (areas : List Area) (m : Assignment) (words : List ℤ) (store : Store) (access : Access) : Type 0 where
  pub place : ℕ
  pub same : place_of m access ≡ pos place
  pub inside : IsWordOf areas access.area (pos (start_of areas access.area + place))
  pub value : slice_index_or words (start_of areas access.area + place) (pos 0) ≡ access_value store m access

-- registers below this one, places and words hold what they shall
pub record Holds (base : ℕ) (known pointed : ℕ → ℤ) (words : List ℤ) (state : State) : Type 0 where
  pub registers : (r : ℕ) → r < base → state.held (Register r) ≡ known r
  pub places : (p : ℕ) → state.held (Pointer p) ≡ pointed p
  pub same : state.words ≡ words

holds-on : (areas : List Area) (base free : ℕ) (known pointed : ℕ → ℤ) (words : List ℤ) (before after : State) → base ≤ free
    → Holds base known pointed words before → Leaves areas free before after → Holds base known pointed words after
holds-on areas base free known pointed words before after le h k = record {
  registers = λ r below. k.kept r (omega (arith, le, below)) ∙ h.registers r below;
  places = λ p. k.places p ∙ h.places p;
  same = k.words ∙ h.same;
}

-- a register of a literal
abbrev pub IsLiteral : ℕ → (ℕ → ℤ) → ℕ → ℤ → Type 0
IsLiteral base known register value = (register < base) × (known register ≡ value)

-- a place of an access
abbrev pub IsAtAccess : List Area → Assignment → (ℕ → ℤ) → ℕ → Access → Type 0
IsAtAccess areas m pointed place access = pointed place ≡ pos (start_of areas access.area) +ℤ place_of m access

module _ (areas : List Area) (loops : List Loop) (low : ℕ → ℕ) (m : Assignment) (base : ℕ) (known pointed : ℕ → ℤ) (words : List ℤ) (store : Store)
    (counts : (var : ℕ) → CountsTo low m base known var (counter_of loops var)) (within : Within low m) where
  counted-leaves : (free : ℕ) (constant : ℤ) (op : Op) (counter : Option ℕ) (state : State)
      → Leaves areas free state (run (listed (counted_by free constant counter (λ c. Two op free free c))) state)
  counted-leaves free constant op None state = leaves-set areas free constant state
  counted-leaves free constant op (Some c) state =
      leaves-on areas free free state (acted (Set free constant) state)
      (run (listed (counted_by free constant (Some c) (λ c. Two op free free c))) state) (omega arith)
      (leaves-set areas free constant state)
      (leaves-set areas free _ (acted (Set free constant) state))

  counted-sum : (free c : ℕ) (op : Op) (constant value : ℤ) (state : State) → c < free → apply op constant (state.held (Register c)) ≡ value
      → (run (listed (counted_by free constant (Some c) (λ c. Two op free free c))) state).held (Register free) ≡ value
  counted-sum free c op constant value state below e =
      held-same free _ (acted (Set free constant) state)
      ∙ ap₂ (λ a b. apply op a b) (held-same free constant state) (held-below c free constant state below)
      ∙ e

  plus-holds : (free var : ℕ) (add : ℤ) (counter : Option ℕ) (state : State) → base ≤ free → Holds base known pointed words state
      → unsigned_abs add ≤ greatest_constant → CountsTo low m base known var counter
      → (run (listed (counted_by free (add +ℤ pos (low var)) counter (λ c. Two Add free free c))) state).held (Register free) ≡ pos (m var) +ℤ add
  plus-holds free var add None state le h small e = held-same free _ state ∙ plus-fixed add (low var) (m var) e
  plus-holds free var add (Some c) state le h small e =
      counted-sum free c Add (add +ℤ pos (low var)) (pos (m var) +ℤ add) state (omega (arith, le, e.0))
      (ap (λ x. apply Add (add +ℤ pos (low var)) x) (h.registers c e.0)
      ∙ plus-counted add (known c) (low var) (m var) e.1 (within var).0 (within var).1 small)

  minus-holds : (free var : ℕ) (add : ℤ) (counter : Option ℕ) (state : State) → base ≤ free → Holds base known pointed words state
      → unsigned_abs add ≤ greatest_constant → CountsTo low m base known var counter
      → (run (listed (counted_by free (add -ℤ pos (low var)) counter (λ c. Two Sub free free c))) state).held (Register free) ≡ add -ℤ pos (m var)
  minus-holds free var add None state le h small e = held-same free _ state ∙ minus-fixed add (low var) (m var) e
  minus-holds free var add (Some c) state le h small e =
      counted-sum free c Sub (add -ℤ pos (low var)) (add -ℤ pos (m var)) state (omega (arith, le, e.0))
      (ap (λ x. apply Sub (add -ℤ pos (low var)) x) (h.registers c e.0)
      ∙ minus-counted add (known c) (low var) (m var) e.1 (within var).0 (within var).1 small)

  gets-entry : (free : ℕ) (entry : Entry) (state : State) → base ≤ free → Holds base known pointed words state → IsSmallEntry entry
      → Gets areas free (indexed loops low free entry) free state (number m entry)
  gets-entry free (At constant) state le h small =
      record { leaves = leaves-set areas free constant state; holds = held-same free constant state }
  gets-entry free (Plus var add) state le h small = record {
    leaves = counted-leaves free (add +ℤ pos (low var)) Add (counter_of loops var) state;
    holds = plus-holds free var add (counter_of loops var) state le h small (counts var);
  }
  gets-entry free (Minus var add) state le h small = record {
    leaves = counted-leaves free (add -ℤ pos (low var)) Sub (counter_of loops var) state;
    holds = minus-holds free var add (counter_of loops var) state le h small (counts var);
  }

  -- ---- reads

  gets-read : (free place : ℕ) (access : Access) (state : State) → Holds base known pointed words state
      → IsAtAccess areas m pointed place access → IsRead areas m words store access
      → Gets areas free (Read free access.area place ∷ []) free state (access_value store m access)
  gets-read free place access state h at reads =
      let start = start_of areas access.area in
      let there : state.held (Pointer place) ≡ pos (start + reads.place) =
      h.places place ∙ at ∙ ap (λ z. pos start +ℤ z) reads.same in
      record {
        leaves = record {
          kept = λ r below. held-below r free _ state below;
          places = λ p. refl;
          words = refl;
          trace = adds-one areas (ReadsWord access.area (state.held (Pointer place))) state.trace
              (subst (λ word. IsInside areas (ReadsWord access.area word)) (sym there) reads.inside);
        };
        holds = held-same free _ state ∙ ap₂ (λ held word. word_at held word) h.same there ∙ reads.value;
      }

  -- ---- forms

  abbrev Evaluates : Operational → Type 0
  Evaluates form = (free literal place : ℕ) (state : State) → is_straight form ≡ true → base ≤ free
      → Numbered (IsLiteral base known) literal (literals form)
      → Numbered (IsAtAccess areas m pointed) place (accesses form)
      → AllByRecursion (IsRead areas m words store) (accesses form) → AllByRecursion IsSmallEntry (entries form)
      → Holds base known pointed words state
      → Gets areas free (made_of loops low free literal place form).steps (made_of loops low free literal place form).value state
      (meaning (access_value store) m form)

  -- the register of an operand is behind none that is free behind its value
  value-below : (form : Operational) (free literal place : ℕ) → base ≤ free → Numbered (IsLiteral base known) literal (literals form)
      → (made_of loops low free literal place form).value < behind_value free form
  value-below (Lit value) free literal place le h = omega (arith, le, h.0.0)
  value-below (Index entry) free literal place le h = omega arith
  value-below (Get access) free literal place le h = omega arith
  value-below (Un op of) free literal place le h = omega arith
  value-below (Bin op left right) free literal place le h = omega arith
  value-below (Case entry below first second) free literal place le h = omega arith
  value-below (Fold op var least high of) free literal place le h = omega arith
  value-below (Let var bind of) free literal place le h = omega arith

  behind-more : (form : Operational) (free : ℕ) → free ≤ behind_value free form
  behind-more (Lit value) free = omega arith
  behind-more (Index entry) free = omega arith
  behind-more (Get access) free = omega arith
  behind-more (Un op of) free = omega arith
  behind-more (Bin op left right) free = omega arith
  behind-more (Case entry below first second) free = omega arith
  behind-more (Fold op var least high of) free = omega arith
  behind-more (Let var bind of) free = omega arith

  gets-unary : (op : Unary) (of : Operational) → Evaluates of → Evaluates (Un op of)
  gets-unary op of one free literal place state straight le lits places reads small h =
      let made = made_of loops low free literal place of in
      let g = one free literal place state straight le lits places reads small h in
      let after = run (listed made.steps) state in
      gets-one areas free made.steps (One op free made.value) (apply_unary op (meaning (access_value store) m of)) state g.leaves
      (leaves-set areas free (apply_unary op (after.held (Register made.value))) after)
      (held-same free _ after ∙ ap (λ x. apply_unary op x) g.holds)

  gets-binary : (op : Op) (left right : Operational) → Evaluates left → Evaluates right → Evaluates (Bin op left right)
  gets-binary op left right one two free literal place state straight le lits places reads small h =
      let tests = and_parts (is_straight left) (is_straight right) straight in
      let lit = numbered-parts (IsLiteral base known) literal (literals left) (literals right) lits in
      let at = numbered-parts (IsAtAccess areas m pointed) place (accesses left) (accesses right) places in
      let read = all-parts (IsRead areas m words store) (accesses left) (accesses right) reads in
      let few = all-parts IsSmallEntry (entries left) (entries right) small in
      let behind = behind_value free left in
      let first = made_of loops low free literal place left in
      let second = made_of loops low behind (literal + length (literals left)) (place + length (accesses left)) right in
      let middle = run (listed first.steps) state in
      let g = one free literal place state tests.0 le lit.0 at.0 read.0 few.0 h in
      let more : free ≤ behind = behind-more left free in
      let k = two behind (literal + length (literals left)) (place + length (accesses left)) middle tests.1 (omega (arith, le, more))
      lit.1 at.1 read.1 few.1 (holds-on areas base free known pointed words state middle le h g.leaves) in
      let after = run (listed second.steps) middle in
      let kept : after.held (Register first.value) ≡ meaning (access_value store) m left =
      k.leaves.kept first.value (value-below left free literal place le lit.0) ∙ g.holds in
      let value = apply op (meaning (access_value store) m left) (meaning (access_value store) m right) in
      let last = gets-one areas free second.steps (Two op free first.value second.value) value middle
      (leaves-less areas free behind middle after more k.leaves)
      (leaves-set areas free (apply op (after.held (Register first.value)) (after.held (Register second.value))) after)
      (held-same free _ after ∙ ap₂ (λ a b. apply op a b) kept k.holds) in
      let end = second.steps ++ Two op free first.value second.value ∷ [] in
      let same = run-append first.steps end state in
      record {
        leaves = subst (λ final. Leaves areas free state final) (sym same)
            (leaves-on areas free free state middle (run (listed end) middle) (omega arith) g.leaves last.leaves);
        holds = ap (λ (final : State). final.held (Register free)) same ∙ last.holds;
      }

  pub evaluates : (form : Operational) → Evaluates form
  evaluates (Lit value) free literal place state straight le lits places reads small h = record {
    leaves = leaves-none areas free state;
    holds = h.registers literal lits.0.0 ∙ lits.0.1;
  }
  evaluates (Index entry) free literal place state straight le lits places reads small h =
      gets-entry free entry state le h small.0
  evaluates (Get access) free literal place state straight le lits places reads small h =
      gets-read free place access state h places.0 reads.0
  evaluates (Un op of) free literal place state straight le lits places reads small h =
      gets-unary op of (evaluates of) free literal place state straight le lits places reads small h
  evaluates (Bin op left right) free literal place state straight le lits places reads small h =
      gets-binary op left right (evaluates left) (evaluates right) free literal place state straight le lits places reads small h
  evaluates (Case entry below first second) free literal place state straight le lits places reads small h = absurd (false≢true straight)
  evaluates (Fold op var least high of) free literal place state straight le lits places reads small h = absurd (false≢true straight)
  evaluates (Let var bind of) free literal place state straight le lits places reads small h = absurd (false≢true straight)

-- What a configuration still shows where one home has changed, and where one owes more.
use Rattle.std.specs.Prelude.{◌≡◌, ◌≢◌, ℕ, ◌^◌, ◌<◌, Bool, true, false, not, ◌&&◌, ◌||◌, ℤ, pos, ◌+ℤ◌, ◌-ℤ◌, ◌*ℤ◌, List, [], ◌∷◌, length}
use Rattle.std.specs.Prelude.{Option, Some, None, IsSome}
use Rattle.std.specs.Int.{int_wrap, w64}
use Rattle.std.specs.Option.{unwrap_or}
use Rattle.std.proofs.Common.{refl, sym, ap, subst, ◌∙◌}
use Rattle.loop_ir.specs.Needed.{Keys, among, needed}
use Rattle.loop_ir.specs.Running.{Key, Register, Pointer, State, holding, is_key}
use Rattle.loop_ir.specs.Steps.{End, Then, Walk}
use Rattle.register_map.specs.declared.home.Home.{Home}
use Rattle.register_map.specs.declared.home.Home.TheVariants as home
use Rattle.register_map.specs.Fits.{SetsApart}
use Rattle.register_map.specs.Homes.{home_of}
use Rattle.rv_steps.specs.Good.{values_at}
use Rattle.rv_steps.specs.Machine.{Config}
use Rattle.rv_steps.specs.Wrapped.{wrapped}
use Rattle.rv_emit.specs.Emitting.{Plan, home_at}
use Rattle.rv_emit.specs.Handling.{Changes}
use Rattle.rv_emit.specs.Showing.{HasBlock, IsSetting, Shows, held_in, shown}
use Rattle.rv_emit.specs.Walks.{Owed, owed_at, with_walk, without}
use Rattle.rv_emit.proofs.PlaceNumberLemmas.{key-is, key-same, walk-other, walk-same, walks-on, wrapped-below, without-other, without-same}

-- ---- keys and homes

-- a home that is there
some-unwraps : {X : Type 0} (o : Option X) (other : X) → IsSome o → o ≡ Some (unwrap_or o other)
some-unwraps None other h = cc
some-unwraps (Some x) other h = refl

pub home-there : (plan : Plan) (key : Key) → IsSome (home_of plan.homes key) → home_of plan.homes key ≡ Some (home_at plan key)
home-there plan key there = some-unwraps (home_of plan.homes key) (home.Spill 0) there

some-same : {X : Type 0} (o : Option X) (x y : X) → o ≡ Some x → o ≡ Some y → x ≡ y
some-same o x y e f = cc

-- what is wanted behind an action and not set by it is needed before it
pub wanted-before : (read set : List Key) (keys : Keys) (key : Key) → keys key ≡ true → among set key ≡ false
    → (among read key || (keys key && not (among set key))) ≡ true
wanted-before read set keys key want out = rw (want, out) (either (among read key))
  where
    either : (b : Bool) → (b || (true && not false)) ≡ true
    either true = refl
    either false = refl

pub read-before : (read set : List Key) (keys : Keys) (key : Key) → among read key ≡ true
    → (among read key || (keys key && not (among set key))) ≡ true
read-before read set keys key want = rw want refl

pub among-one : (key other : Key) → among (other ∷ []) key ≡ is_key key other
among-one key other = by (is_key key other)
  where
    by : (b : Bool) → (b || false) ≡ b
    by true = refl
    by false = refl

-- what is shown of a key whose number is the same, where its home owes as much
pub shown-same : (plan : Plan) (base : ℕ) (one two : Owed) (before after : State) (key : Key) (place : Home)
    → after.held key ≡ before.held key → owed_at two place ≡ owed_at one place
    → shown plan base one before key place ≡ shown plan base two after key place
shown-same plan base one two before after (Register number) place e f = ap wrapped (sym e)
shown-same plan base one two before after (Pointer number) place e f =
    ap (λ held. wrapped (pos base +ℤ pos 8 *ℤ (pos plan.spill +ℤ (held -ℤ owed_at one place)))) (sym e)
    ∙ ap (λ owed. wrapped (pos base +ℤ pos 8 *ℤ (pos plan.spill +ℤ (after.held (Pointer number) -ℤ owed)))) (sym f)

pub shown-below : (plan : Plan) (base : ℕ) (owed : Owed) (state : State) (key : Key) (place : Home)
    → shown plan base owed state key place < 2 ^ 64
shown-below plan base owed state (Register number) place = wrapped-below (state.held (Register number))
shown-below plan base owed state (Pointer number) place =
    wrapped-below (pos base +ℤ pos 8 *ℤ (pos plan.spill +ℤ (state.held (Pointer number) -ℤ owed_at owed place)))

-- what is not this key differs from it
pub other-key : (key other : Key) → is_key other key ≡ false → other ≢ key
other-key key other out same = let h : is_key other key ≡ true = rw same (key-same key) in cc

-- ---- a home has changed

module _ (plan : Plan) (base : ℕ) (owed : Owed) (early keys : Keys) (before after : State) (c d : Config) (key : Key) (place : Home)
    (value : ℕ)
    (setting : IsSetting plan base (length before.words)) (there : home_of plan.homes key ≡ Some place)
    (apart : (other : Key) → keys other ≡ true → home_of plan.homes key ≡ home_of plan.homes other → key ≡ other)
    (wanted : (other : Key) → keys other ≡ true → is_key other key ≡ false → early other ≡ true)
    (same : (other : Key) → is_key other key ≡ false → after.held other ≡ before.held other)
    (words : after.words ≡ before.words) (shows : Shows plan base owed early before c)
    (changes : Changes base plan.spill (length before.words) place value c d)
    (right : value ≡ shown plan base (without owed place) after key place) where
  other-home : (other : Key) (home : Home) → keys other ≡ true → home_of plan.homes other ≡ Some home → is_key other key ≡ false
      → place ≢ home
  other-home other home want on out = λ e. other-key key other out (sym (apart other want (there ∙ ap Some e ∙ sym on)))

  changed-held : (other : Key) (home : Home) → keys other ≡ true → home_of plan.homes other ≡ Some home
      → held_in d home ≡ shown plan base (without owed place) after other home
  changed-held other home want on = by (is_key other key) refl
    where
      by : (b : Bool) → is_key other key ≡ b → held_in d home ≡ shown plan base (without owed place) after other home
      by true e =
          let is = key-is other key e in
          let at : place ≡ home = some-same (home_of plan.homes key) place home there (ap (λ k. home_of plan.homes k) (sym is) ∙ on) in
          ap (λ h. held_in d h) (sym at) ∙ changes.here ∙ right
          ∙ ap (λ k. shown plan base (without owed place) after k place) (sym is)
          ∙ ap (λ h. shown plan base (without owed place) after other h) at
      by false e =
          let far = other-home other home want on e in
          changes.others home (setting.homes other home on) (λ h. far (sym h)) ∙ shows.held other home (wanted other want e) on
          ∙ shown-same plan base owed (without owed place) before after other home (same other e) (without-other owed place home far)

  changed-clear : (number : ℕ) (home : Home) → keys (Register number) ≡ true → home_of plan.homes (Register number) ≡ Some home
      → owed_at (without owed place) home ≡ pos 0
  changed-clear number home want on = by (is_key (Register number) key) refl
    where
      by : (b : Bool) → is_key (Register number) key ≡ b → owed_at (without owed place) home ≡ pos 0
      by true e =
          let is = key-is (Register number) key e in
          let at : place ≡ home = some-same (home_of plan.homes key) place home there (ap (λ k. home_of plan.homes k) (sym is) ∙ on) in
          ap (λ h. owed_at (without owed place) h) (sym at) ∙ without-same owed place
      by false e =
          without-other owed place home (other-home (Register number) home want on e)
          ∙ shows.clear number home (wanted (Register number) want e) on

  pub shows-changed : Shows plan base (without owed place) keys after d
  shows-changed = record {
    block = subst (λ list. HasBlock base plan.spill (length list) d) (sym words) changes.block;
    words = subst (λ list. values_at d.block plan.spill (length list) ≡ list) (sym words) (changes.areas ∙ shows.words);
    held = changed-held;
    clear = changed-clear;
  }

-- a register's number is what its home must hold
pub shown-number : (plan : Plan) (base : ℕ) (owed : Owed) (name : ℕ) (number : ℤ) (state : State) (place : Home)
    → wrapped number ≡ shown plan base owed (holding (Register name) number state) (Register name) place
shown-number plan base owed name number state place = rw (key-same (Register name)) refl

-- a key has its new number, and all else that is needed stays
pub shows-held : (plan : Plan) (base : ℕ) (owed : Owed) (early keys : Keys) (state : State) (c d : Config) (key : Key) (place : Home)
    (number : ℤ) (value : ℕ)
    → IsSetting plan base (length state.words) → home_of plan.homes key ≡ Some place → SetsApart (home_of plan.homes) (key ∷ []) keys
    → ((other : Key) → keys other ≡ true → is_key other key ≡ false → early other ≡ true)
    → Shows plan base owed early state c → Changes base plan.spill (length state.words) place value c d
    → value ≡ shown plan base (without owed place) (holding key number state) key place
    → Shows plan base (without owed place) keys (holding key number state) d
shows-held plan base owed early keys state c d key place number value setting there apart wanted shows changes right =
    shows-changed plan base owed early keys state (holding key number state) c d key place value setting there
    (λ other want e. apart key other (among-one key key ∙ key-same key) want e) wanted (λ other out. rw out refl) refl shows changes
    right

-- ---- a place walks on

module _ (plan : Plan) (base : ℕ) (owed : Owed) (keys : Keys) (state : State) (c : Config) (place : ℕ) (words : ℤ)
    (there : IsSome (home_of plan.homes (Pointer place))) (apart : SetsApart (home_of plan.homes) (Pointer place ∷ []) keys)
    (shows : Shows plan base owed (needed (Then (Walk place words) End) keys) state c) where
  abbrev after : State
  after = holding (Pointer place) (state.held (Pointer place) +ℤ words) state

  abbrev owing : Owed
  owing = with_walk owed (home_at plan (Pointer place)) words

  walk-needs : (key : Key) → keys key ≡ true → needed (Then (Walk place words) End) keys key ≡ true
  walk-needs key want = by (among (Pointer place ∷ []) key)
    where
      by : (b : Bool) → (b || (keys key && not b)) ≡ true
      by true = refl
      by false = rw want refl

  walk-place : (home : Home) → home_of plan.homes (Pointer place) ≡ Some home
      → held_in c home ≡ shown plan base owing after (Pointer place) home
  walk-place home on =
      let at : home_at plan (Pointer place) ≡ home = some-same (home_of plan.homes (Pointer place)) (home_at plan (Pointer place)) home
      (home-there plan (Pointer place) there) on in
      let read = read-before (Pointer place ∷ []) (Pointer place ∷ []) keys (Pointer place)
      (among-one (Pointer place) (Pointer place) ∙ key-same (Pointer place)) in
      shows.held (Pointer place) home read on
      ∙ walks-on (pos base) (pos plan.spill) (state.held (Pointer place)) words (owed_at owed home) (owed_at owing home)
      (subst (λ h. int_wrap w64 (owed_at owing h) ≡ int_wrap w64 (owed_at owed h +ℤ words)) at
      (walk-same owed (home_at plan (Pointer place)) words))
      ∙ rw (key-same (Pointer place)) refl

  walk-apart : (key : Key) (home : Home) → keys key ≡ true → home_of plan.homes key ≡ Some home → is_key key (Pointer place) ≡ false
      → home_at plan (Pointer place) ≢ home
  walk-apart key home want on out = λ e.
      other-key (Pointer place) key out (sym (apart (Pointer place) key
      (among-one (Pointer place) (Pointer place) ∙ key-same (Pointer place)) want
      (home-there plan (Pointer place) there ∙ ap Some e ∙ sym on)))

  walk-held : (key : Key) (home : Home) → keys key ≡ true → home_of plan.homes key ≡ Some home
      → held_in c home ≡ shown plan base owing after key home
  walk-held key home want on = by (is_key key (Pointer place)) refl
    where
      by : (b : Bool) → is_key key (Pointer place) ≡ b → held_in c home ≡ shown plan base owing after key home
      by true e =
          let is = key-is key (Pointer place) e in
          walk-place home (ap (λ k. home_of plan.homes k) (sym is) ∙ on) ∙ ap (λ k. shown plan base owing after k home) (sym is)
      by false e =
          shows.held key home (walk-needs key want) on
          ∙ shown-same plan base owed owing state after key home (rw e refl)
          (walk-other owed (home_at plan (Pointer place)) words home (walk-apart key home want on e))

  pub shows-walk : Shows plan base owing keys after c
  shows-walk = record {
    block = shows.block;
    words = shows.words;
    held = walk-held;
    clear = λ number home want on.
        walk-other owed (home_at plan (Pointer place)) words home (walk-apart (Register number) home want on refl)
        ∙ shows.clear number home (walk-needs (Register number) want) on;
  }

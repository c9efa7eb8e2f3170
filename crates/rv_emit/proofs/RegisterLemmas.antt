-- Lines that set the home of a key: what is read is fetched, the number is computed into a register, and that is put into the home.
use Rattle.std.proofs.Common.{◌≡◌, ◌≢◌, ℕ, ◌+◌, ◌*◌, ◌^◌, ◌<◌, ◌≤◌, Bool, true, false, not, ◌&&◌, ◌||◌, ℤ, pos, List, [], ◌∷◌, ◌++◌, length, refl, sym, ap, subst, ◌∙◌, arith, length-append}
use Rattle.std.proofs.lemmas.Bool.{both_ways, eq-eqb, eqb-true, false_from_ne_true}
use Rattle.std.proofs.lemmas.Bool.Decides.{nat_tests}
use Rattle.std.proofs.lemmas.List.{append_assoc}
use Rattle.std.specs.Int.{w64}
use Rattle.std.specs.Prelude.{IsSome, ◌==◌}
use Rattle.moa_tree.specs.Operators.{apply, apply_unary}
use Rattle.moa_tree.specs.declared.operator.Op.{Op}
use Rattle.moa_tree.specs.declared.operator.Unary.{Unary}
use Rattle.loop_ir.specs.Fitting.{Fits64}
use Rattle.loop_ir.specs.Needed.{Keys, among, needed}
use Rattle.loop_ir.specs.Running.{Key, Register, State, holding, is_key}
use Rattle.loop_ir.specs.Steps.{Copy, End, One, Set, Then, Two}
use Rattle.register_map.specs.Fits.{SetsApart}
use Rattle.register_map.specs.Homes.{IsHome, home_of, is_given}
use Rattle.register_map.specs.declared.home.Home.{Home}
use Rattle.register_map.specs.declared.home.Home.TheVariants as home
use Rattle.rv_line.specs.declared.line.Imm.{Imm}
use Rattle.rv_line.specs.declared.line.Line.{Line}
use Rattle.rv_steps.specs.Accesses.{Leads}
use Rattle.rv_steps.specs.Constants.{constant_lines}
use Rattle.rv_steps.specs.Effects.{word_of}
use Rattle.rv_steps.specs.Good.{values_at}
use Rattle.rv_steps.specs.Machine.{Access, Config, address_of, register_at, value_at, with_register}
use Rattle.rv_steps.specs.Pieces.{StandsAt}
use Rattle.rv_steps.specs.Registers.{AgreeBut, is_among}
use Rattle.rv_steps.specs.Wrapped.{wrapped}
use Rattle.rv_emit.specs.Computing.{one_lines, two_lines}
use Rattle.rv_emit.specs.Emitting.{Plan, home_at, straight, with_one}
use Rattle.rv_emit.specs.Handling.{Changes, Fetching, Putting}
use Rattle.rv_emit.specs.MachineLaws.{MachineLaws}
use Rattle.rv_emit.specs.Moving.{fetch_lines, put_lines, register_of}
use Rattle.rv_emit.specs.Showing.{AreInOrder, HasBlock, HasRoom, IsSetting, Shows, held_in, shown}
use Rattle.rv_emit.specs.Simulating.{ActionSimulates, Computes, Simulates, is_steady_op}
use Rattle.rv_emit.specs.Walks.{Owed, without}
use Rattle.rv_emit.proofs.ComputingLemmas.{copy_computed, one_computed, two_computed}
use Rattle.rv_emit.proofs.OperatorLemmas.{word_is}
use Rattle.rv_emit.proofs.PlaceNumberLemmas.{key-same}
use Rattle.rv_emit.proofs.ShowLemmas.{home-there, shown-below, shown-number, shows-held}
use Rattle.rv_emit.proofs.SimulateLemmas.{in-order}

-- ---- registers that may change within a step

-- those that are free, and that of the home that is set
abbrev pub free : List ℕ
free = 28 ∷ 29 ∷ 30 ∷ 31 ∷ []

abbrev pub touched_by : Home → List ℕ
touched_by to = register_of 30 to ∷ free

-- agreement but at more registers
pub agree_more : (one two before after : List ℕ) → ((r : ℕ) → is_among r two ≡ false → is_among r one ≡ false) → AgreeBut one before after
    → AgreeBut two before after
agree_more one two before after fewer agree = record { sized = agree.sized; same = λ r out. agree.same r (fewer r out) }

-- a register that is given is none of those that are free, and not that of the block
pub given_apart : (number : ℕ) → is_given number ≡ true → is_among number free ≡ false
given_apart number given = grind (arith, nat_tests)

given_apart_ten : (number : ℕ) → is_given number ≡ true → (number == 10) ≡ false
given_apart_ten number given = grind (arith, nat_tests)

pub block_apart : (spill : ℕ) (to : Home) → IsHome spill to → is_among 10 (touched_by to) ≡ false
block_apart spill (home.Register number) given = rw (given_apart_ten number given) refl
block_apart spill (home.Spill word) below = refl

-- nor that of another home
pub home_apart : (spill : ℕ) (to : Home) (number : ℕ) → is_given number ≡ true → home.Register number ≢ to
    → is_among number (touched_by to) ≡ false
home_apart spill (home.Register other) number given apart =
    let differs : (other == number) ≡ false = false_from_ne_true (other == number)
    (λ same. apart (ap home.Register (sym (eqb-true other number same)))) in
    rw (differs, given_apart number given) refl
home_apart spill (home.Spill word) number given apart = grind (arith, nat_tests)

pub register_some : (spill scratch : ℕ) (from : Home) → IsHome spill from → 0 < scratch → 0 < register_of scratch from
register_some spill scratch (home.Register number) given some = grind (arith, nat_tests)
register_some spill scratch (home.Spill word) below some = some

pub register_below : (spill scratch : ℕ) (from : Home) → IsHome spill from → scratch ≤ 30 → register_of scratch from < 31
register_below spill scratch (home.Register number) given few = grind (arith, nat_tests)
register_below spill scratch (home.Spill word) below few = omega arith

-- a home that is fetched into x28 or x29 is in neither of two others
pub register_apart : (spill scratch : ℕ) (from : Home) (other : ℕ) → IsHome spill from → scratch ≢ other → 28 ≤ other
    → register_of scratch from ≢ other
register_apart spill scratch (home.Register number) other given apart free = λ same. let e : is_given other ≡ true = rw same at given in
    let f : is_given other ≡ false = grind (arith, nat_tests) in both_ways (is_given other) f e
register_apart spill scratch (home.Spill word) other below apart free = apart

-- what a home holds stays where its register does and the block
pub held_still : (changed : List ℕ) (spill : ℕ) (c d : Config) (other : Home) → IsHome spill other
    → ((number : ℕ) → is_given number ≡ true → other ≡ home.Register number → is_among number changed ≡ false)
    → AgreeBut changed c.registers d.registers → d.block ≡ c.block → held_in d other ≡ held_in c other
held_still changed spill c d (home.Register number) given out agree same = agree.same number (out number given refl)
held_still changed spill c d (home.Spill word) below out agree same = ap (λ (block : List ℕ). value_at w64 block (8 * word)) same

pub block_kept : (changed : List ℕ) (base spill words : ℕ) (c d : Config) → is_among 10 changed ≡ false
    → AgreeBut changed c.registers d.registers → d.block ≡ c.block → HasBlock base spill words c → HasBlock base spill words d
block_kept changed base spill words c d out agree same has = record {
  count = agree.sized ∙ has.count;
  bytes = rw same has.bytes;
  sized = ap length same ∙ has.sized;
  block_at = agree.same 10 out ∙ has.block_at;
}

-- what changes behind lines that change no home but this one and not the block
pub changes_from : (base spill words : ℕ) (to : Home) (value : ℕ) (c d e : Config) → IsHome spill to
    → AgreeBut (touched_by to) c.registers d.registers → d.block ≡ c.block → Changes base spill words to value d e
    → Changes base spill words to value c e
changes_from base spill words to value c d e is agree same changes = record {
  block = changes.block;
  here = changes.here;
  others = λ other there apart. changes.others other there apart
      ∙ held_still (touched_by to) spill c d other there (λ number given k. home_apart spill to number given (λ h. apart (k ∙ h))) agree
      same;
  areas = changes.areas ∙ ap (λ (block : List ℕ). values_at block spill words) same;
}

-- ---- lines in front of the put

-- they give the number in the register from which the home is put
pub record Prepares (lines : List Line) (base spill at : ℕ) (front : List Line) (steady : Bool) (to : Home) (value : ℕ)
    (c : Config) : Type 0 where
  pub steps : ℕ
  pub last : Config
  pub accesses : List Access
  pub leads : Leads lines base steps c last accesses
  pub few : steps ≤ length front
  pub exact : steady ≡ true → steps ≡ length front
  pub behind : last.pc ≡ address_of (at + length front)
  pub in_order : AreInOrder base spill accesses []
  pub here : register_at last.registers (register_of 30 to) ≡ value
  pub others : AgreeBut (touched_by to) c.registers last.registers
  pub block : last.block ≡ c.block

-- then the home of the key is set
module _ (s : MachineLaws) (putting : Putting) (lines : List Line) (plan : Plan) (base at : ℕ) (owed : Owed) (before keys : Keys)
    (state : State) (c : Config) (set : Key) (number : ℤ) (setting : IsSetting plan base (length state.words))
    (there : IsSome (home_of plan.homes set)) (needs : (key : Key) → keys key ≡ true → is_key key set ≡ false → before key ≡ true)
    (apart : SetsApart (home_of plan.homes) (set ∷ []) keys) (shows : Shows plan base owed before state c) (front : List Line)
    (steady : Bool) (prepared : Prepares lines base plan.spill at front steady (home_at plan set)
    (shown plan base (without owed (home_at plan set)) (holding set number state) set (home_at plan set)) c) where
  pub put_behind : StandsAt lines at (front ++ put_lines (home_at plan set))
      → Simulates lines plan base at (straight (front ++ put_lines (home_at plan set))) steady (without owed (home_at plan set)) keys
      state (holding set number state) c
  put_behind stands =
      let to = home_at plan set in
      let words = length state.words in
      let at_home = home-there plan set there in
      let is = setting.homes set to at_home in
      let value = shown plan base (without owed to) (holding set number state) set to in
      let d = prepared.last in
      let block = block_kept (touched_by to) base plan.spill words c d (block_apart plan.spill to is) prepared.others prepared.block
      shows.block in
      let below : register_at d.registers (register_of 30 to) < 2 ^ 64 = rw prepared.here
      (shown-below plan base (without owed to) (holding set number state) set to) in
      let puts = putting lines base plan.spill words (at + length front) to d setting.room block is
      (s.back lines at front (put_lines to) stands) prepared.behind below in
      let e = puts.run.last in
      let put : Changes base plan.spill words to value d e = rw prepared.here at puts.changes in
      let changes = changes_from base plan.spill words to value c d e is prepared.others prepared.block put in
      let count = length-append front (put_lines to) in
      record {
        steps = prepared.steps + length (put_lines to);
        last = e;
        accesses = prepared.accesses ++ puts.run.accesses;
        touches = [];
        leads = s.steps lines base prepared.steps (length (put_lines to)) c d e prepared.accesses puts.run.accesses prepared.leads
            puts.run.leads;
        few = omega (arith, count, prepared.few);
        exact = λ h. let k = prepared.exact h in omega (arith, count, k);
        behind = puts.run.behind ∙ omega (arith, count);
        shows = shows-held plan base owed before keys state c e set to number value setting at_home apart needs shows changes
            refl;
        trace = refl;
        in_order = in-order base plan.spill prepared.accesses puts.run.accesses [] [] prepared.in_order puts.run.in_order;
      }

-- ---- a number

first_apart : (changed : List ℕ) (r other : ℕ) → is_among other (r ∷ changed) ≡ false → other ≢ r
first_apart changed r other out same = both_ways (is_among r (r ∷ changed)) (subst (λ (x : ℕ). is_among x (r ∷ changed) ≡ false) same out)
    (rw (eq-eqb r r refl) refl)

pub constant_prepares : (s : MachineLaws) (lines : List Line) (base spill at : ℕ) (to : Home) (value : ℤ) (c : Config)
    → length c.registers ≡ 32 → IsHome spill to → Fits64 value → StandsAt lines at (constant_lines (register_of 30 to) value)
    → c.pc ≡ address_of at → Prepares lines base spill at (constant_lines (register_of 30 to) value) true to (wrapped value) c
constant_prepares s lines base spill at to value c count is fits stands pc =
    let r = register_of 30 to in
    let some = register_some spill 30 to is (omega arith) in
    let below = register_below spill 30 to is (omega arith) in
    let there : r < length c.registers = omega (arith, count, below) in
    record {
      steps = length (constant_lines r value);
      last = record {
        registers = with_register c.registers r (word_of value);
        pc = address_of (at + length (constant_lines r value));
        block = c.block;
      };
      accesses = [];
      leads = s.constant lines base at r value c stands some there fits pc;
      few = omega arith;
      exact = λ h. refl;
      behind = refl;
      in_order = refl;
      here = s.set c.registers r (word_of value) some there ∙ sym (word_is value fits);
      others = record {
        sized = s.count c.registers r (word_of value);
        same = λ other out. s.unset c.registers r (word_of value) other
            (first_apart free r other out);
      };
      block = refl;
    }

-- ---- operands

-- lines that fetch, each of which is a step
pub record Brings (lines : List Line) (base spill at : ℕ) (front : List Line) (c : Config) : Type 0 where
  pub last : Config
  pub accesses : List Access
  pub leads : Leads lines base (length front) c last accesses
  pub behind : last.pc ≡ address_of (at + length front)
  pub in_order : AreInOrder base spill accesses []
  pub others : AgreeBut free c.registers last.registers
  pub block : last.block ≡ c.block

-- one operand, in x28 or in its own register
pub record BringsOne (lines : List Line) (base spill at : ℕ) (from : Home) (c : Config) : Type 0 where
  pub brings : Brings lines base spill at (fetch_lines 28 from) c
  pub value : register_at brings.last.registers (register_of 28 from) ≡ held_in c from

-- two of them, the second one in x29 or in its own register
pub record BringsTwo (lines : List Line) (base spill at : ℕ) (left right : Home) (c : Config) : Type 0 where
  pub brings : Brings lines base spill at (fetch_lines 28 left ++ fetch_lines 29 right) c
  pub first : register_at brings.last.registers (register_of 28 left) ≡ held_in c left
  pub second : register_at brings.last.registers (register_of 29 right) ≡ held_in c right

free_out : (scratch r : ℕ) → 28 ≤ scratch → scratch ≤ 30 → is_among r free ≡ false → is_among r (scratch ∷ 31 ∷ []) ≡ false
free_out scratch r least most out = grind (arith, nat_tests)

given_out : (number : ℕ) → is_given number ≡ true → is_among number (28 ∷ 31 ∷ []) ≡ false
given_out number given = grind (arith, nat_tests)

left_out : (spill : ℕ) (left : Home) → IsHome spill left → is_among (register_of 28 left) (29 ∷ 31 ∷ []) ≡ false
left_out spill (home.Register number) given = grind (arith, nat_tests)
left_out spill (home.Spill word) below = refl

result_out : (to : Home) (r : ℕ) → is_among r (touched_by to) ≡ false → is_among r (register_of 30 to ∷ 30 ∷ 31 ∷ []) ≡ false
result_out to r out = grind (arith, nat_tests)

free_of : (to : Home) (r : ℕ) → is_among r (touched_by to) ≡ false → is_among r free ≡ false
free_of to r out = grind (arith, nat_tests)

module _ (s : MachineLaws) (fetching : Fetching) (lines : List Line) (base spill words at : ℕ) (c : Config) (room : HasRoom base spill words)
    (has : HasBlock base spill words c) (pc : c.pc ≡ address_of at)
  where
    pub brings_one : (from : Home) → IsHome spill from → StandsAt lines at (fetch_lines 28 from) → BringsOne lines base spill at from c
    brings_one from is stands =
        let fetch = fetching lines base spill words at 28 from c room has is (omega arith) (omega arith) stands pc in
        record {
          brings = record {
            last = fetch.run.last;
            accesses = fetch.run.accesses;
            leads = fetch.run.leads;
            behind = fetch.run.behind;
            in_order = fetch.run.in_order;
            others = agree_more (28 ∷ 31 ∷ []) free c.registers fetch.run.last.registers
                (λ r out. free_out 28 r (omega arith) (omega arith) out) fetch.others;
            block = fetch.block;
          };
          value = fetch.value;
        }

    pub brings_two : (left right : Home) → IsHome spill left → IsHome spill right
        → StandsAt lines at (fetch_lines 28 left ++ fetch_lines 29 right) → BringsTwo lines base spill at left right c
    brings_two left right is_left is_right stands =
        let one = fetch_lines 28 left in
        let two = fetch_lines 29 right in
        let fetch1 = fetching lines base spill words at 28 left c room has is_left (omega arith) (omega arith)
        (s.front lines at one two stands) pc in
        let d = fetch1.run.last in
        let has_d = block_kept (28 ∷ 31 ∷ []) base spill words c d refl fetch1.others fetch1.block has in
        let fetch2 = fetching lines base spill words (at + length one) 29 right d room has_d is_right (omega arith)
        (omega arith) (s.back lines at one two stands) fetch1.run.behind in
        let e = fetch2.run.last in
        let still = held_still (28 ∷ 31 ∷ []) spill c d right is_right (λ number given same. given_out number given) fetch1.others
        fetch1.block in
        let count = length-append one two in
        let all = s.steps lines base (length one) (length two) c d e fetch1.run.accesses fetch2.run.accesses fetch1.run.leads
        fetch2.run.leads in
        record {
          brings = record {
            last = e;
            accesses = fetch1.run.accesses ++ fetch2.run.accesses;
            leads = rw (← count) at all;
            behind = fetch2.run.behind ∙ omega (arith, count);
            in_order = in-order base spill fetch1.run.accesses fetch2.run.accesses [] [] fetch1.run.in_order fetch2.run.in_order;
            others = s.agree_again free c.registers d.registers e.registers
                (agree_more (28 ∷ 31 ∷ []) free c.registers d.registers (λ r out. free_out 28 r (omega arith) (omega arith) out)
                fetch1.others)
                (agree_more (29 ∷ 31 ∷ []) free d.registers e.registers (λ r out. free_out 29 r (omega arith) (omega arith) out)
                fetch2.others);
            block = fetch2.block ∙ fetch1.block;
          };
          first = fetch2.others.same (register_of 28 left) (left_out spill left is_left) ∙ fetch1.value;
          second = fetch2.value ∙ still;
        }

    -- lines that compute behind lines that fetch
    pub computed_behind : (front piece : List Line) (steady : Bool) (to : Home) (value : ℕ) (brings : Brings lines base spill at front c)
        → Computes lines base (at + length front) piece steady (register_of 30 to) value brings.last
        → Prepares lines base spill at (front ++ piece) steady to value c
    computed_behind front piece steady to value brings computes =
        let count = length-append front piece in
        let d = brings.last in
        let e = computes.last in
        record {
          steps = length front + computes.steps;
          last = e;
          accesses = brings.accesses ++ [];
          leads = s.steps lines base (length front) computes.steps c d e brings.accesses [] brings.leads computes.leads;
          few = omega (arith, count, computes.few);
          exact = λ h. let k = computes.exact h in omega (arith, count, k);
          behind = computes.behind ∙ omega (arith, count);
          in_order = in-order base spill brings.accesses [] [] [] brings.in_order refl;
          here = computes.here;
          others = s.agree_again (touched_by to) c.registers d.registers e.registers
              (agree_more free (touched_by to) c.registers d.registers (free_of to) brings.others)
              (agree_more (register_of 30 to ∷ 30 ∷ 31 ∷ []) (touched_by to) d.registers e.registers (result_out to) computes.others);
          block = computes.block ∙ brings.block;
        }

-- ---- steps that set a register without a place

-- what is needed behind the step, but what it sets, is needed before it
pub needs_more : (read kept set : Bool) → kept ≡ true → set ≡ false → (read || (kept && not (set || false))) ≡ true
needs_more true kept set h k = refl
needs_more false kept set h k = rw (h, k) refl

-- so is what it reads
first_read : (name : ℕ) (others : List Key) (rest : Bool) → (among (Register name ∷ others) (Register name) || rest) ≡ true
first_read name others rest = rw (key-same (Register name)) refl

second_read : (key : Key) (name : ℕ) (rest : Bool) → (among (key ∷ Register name ∷ []) (Register name) || rest) ≡ true
second_read key name rest = at_test (is_key (Register name) key)
  where
    at_test : (b : Bool) → ((b || (is_key (Register name) (Register name) || false)) || rest) ≡ true
    at_test true = refl
    at_test false = rw (key-same (Register name)) refl

module _ (s : MachineLaws) (fetching : Fetching) (putting : Putting) where
  pub set_simulates : (to : ℕ) (value : ℤ) → ActionSimulates (Set to value)
  set_simulates to value lines plan base at owed keys state c setting holds fits homes there keys_apart apart shows stands pc touches =
      let key = Register to in
      let home = home_at plan key in
      let is = setting.homes key home (home-there plan key there.0) in
      let front = constant_lines (register_of 30 home) value in
      let prepared = constant_prepares s lines base plan.spill at home value c shows.block.count is fits
      (s.front lines at front (put_lines home) stands) pc in
      let shown = subst (λ (v : ℕ). Prepares lines base plan.spill at front true home v c)
      (shown-number plan base (without owed home) to value state home) prepared in
      put_behind s putting lines plan base at owed (needed (Then (Set to value) End) keys) keys state c key value setting there.0
      (λ other needed apart. needs_more false (keys other) (is_key other key) needed apart) apart shows front true shown stands

  -- one operand
  module _ (lines : List Line) (plan : Plan) (base at : ℕ) (owed : Owed) (before keys : Keys) (state : State) (c : Config) (to from : ℕ)
      (value : ℤ) (compute : ℕ → ℕ → List Line) (setting : IsSetting plan base (length state.words))
      (there_to : IsSome (home_of plan.homes (Register to))) (there_from : IsSome (home_of plan.homes (Register from)))
      (needs : (key : Key) → keys key ≡ true → is_key key (Register to) ≡ false → before key ≡ true)
      (apart : SetsApart (home_of plan.homes) (Register to ∷ []) keys) (shows : Shows plan base owed before state c)
      (read : before (Register from) ≡ true) (pc : c.pc ≡ address_of at)
      (computes : (k r l : ℕ) (d : Config) → length d.registers ≡ 32 → 0 < r → r < 31 → l ≢ 31
      → register_at d.registers l ≡ wrapped (state.held (Register from)) → StandsAt lines k (compute r l) → d.pc ≡ address_of k
      → Computes lines base k (compute r l) true r (wrapped value) d) where
    one_operand : StandsAt lines at (with_one (home_at plan (Register to)) (home_at plan (Register from)) compute)
        → Simulates lines plan base at (straight (with_one (home_at plan (Register to)) (home_at plan (Register from)) compute)) true
        (without owed (home_at plan (Register to))) keys state (holding (Register to) value state) c
    one_operand stands =
        let home = home_at plan (Register to) in
        let source = home_at plan (Register from) in
        let words = length state.words in
        let at_source = home-there plan (Register from) there_from in
        let is = setting.homes (Register to) home (home-there plan (Register to) there_to) in
        let is_source = setting.homes (Register from) source at_source in
        let r = register_of 30 home in
        let l = register_of 28 source in
        let front = fetch_lines 28 source in
        let piece = compute r l in
        let put = put_lines home in
        let brought = brings_one s fetching lines base plan.spill words at c setting.room shows.block pc
        source is_source (s.front lines at front (piece ++ put) stands) in
        let d = brought.brings.last in
        let held = brought.value ∙ shows.held (Register from) source read at_source in
        let behind = s.back lines at front (piece ++ put) stands in
        let computed = computes (at + length front) r l d (brought.brings.others.sized ∙ shows.block.count)
        (register_some plan.spill 30 home is (omega arith)) (register_below plan.spill 30 home is (omega arith))
        (register_apart plan.spill 28 source 31 is_source (λ e. omega arith) (omega arith)) held
        (s.front lines (at + length front) piece put behind) brought.brings.behind in
        let prepared = computed_behind s fetching lines base plan.spill words at c setting.room
        shows.block pc front piece true home (wrapped value) brought.brings computed in
        let shown = subst (λ (v : ℕ). Prepares lines base plan.spill at (front ++ piece) true home v c)
        (shown-number plan base (without owed home) to value state home) prepared in
        let joined : (front ++ piece) ++ put ≡ front ++ (piece ++ put) = append_assoc front piece put in
        let whole = put_behind s putting lines plan base at owed before keys state c (Register to) value setting there_to needs apart
        shows (front ++ piece) true shown (subst (λ (lines_of : List Line). StandsAt lines at lines_of) (sym joined) stands) in
        subst (λ (lines_of : List Line). Simulates lines plan base at (straight lines_of) true (without owed home) keys state
        (holding (Register to) value state) c) joined whole

  pub copy_simulates : (to from : ℕ) → ActionSimulates (Copy to from)
  copy_simulates to from lines plan base at owed keys state c setting holds fits homes there keys_apart apart shows stands pc touches =
      let value = state.held (Register from) in
      one_operand lines plan base at owed (needed (Then (Copy to from) End) keys) keys state c to from value
      (λ to from. Line.Imm Imm.Addi to from (pos 0) ∷ []) setting there.0 there.1.0
      (λ other needed apart. needs_more (among (Register from ∷ []) other) (keys other) (is_key other (Register to)) needed apart) apart
      shows
      (first_read from [] (keys (Register from) && not (among (Register to ∷ []) (Register from)))) pc
      (λ k r l d count some below apart held stands pc. copy_computed s lines base k r l value d count some below held stands pc) stands

  pub one_simulates : (o : Unary) (to from : ℕ) → ActionSimulates (One o to from)
  one_simulates o to from lines plan base at owed keys state c setting holds fits homes there keys_apart apart shows stands pc touches =
      let x = state.held (Register from) in
      one_operand lines plan base at owed (needed (Then (One o to from) End) keys) keys state c to from (apply_unary o x) (one_lines o)
      setting there.0 there.1.0
      (λ other needed apart. needs_more (among (Register from ∷ []) other) (keys other) (is_key other (Register to)) needed apart) apart
      shows
      (first_read from [] (keys (Register from) && not (among (Register to ∷ []) (Register from)))) pc
      (λ k r l d count some below apart held stands pc. one_computed s lines base k r l x d count some below apart (holds.registers from)
      held pc o stands) stands

  pub two_simulates : (o : Op) (to left right : ℕ) → ActionSimulates (Two o to left right)
  two_simulates o to left right lines plan base at owed keys state c setting holds fits homes there keys_apart apart shows stands pc
      touches =
      let before = needed (Then (Two o to left right) End) keys in
      let steady = is_steady_op o in
      let x = state.held (Register left) in
      let y = state.held (Register right) in
      let value = apply o x y in
      let words = length state.words in
      let home = home_at plan (Register to) in
      let one = home_at plan (Register left) in
      let other = home_at plan (Register right) in
      let at_one = home-there plan (Register left) there.1.0 in
      let at_other = home-there plan (Register right) there.1.1.0 in
      let is = setting.homes (Register to) home (home-there plan (Register to) there.0) in
      let is_one = setting.homes (Register left) one at_one in
      let is_other = setting.homes (Register right) other at_other in
      let rest = λ (key : Key). keys key && not (among (Register to ∷ []) key) in
      let r = register_of 30 home in
      let front = fetch_lines 28 one ++ fetch_lines 29 other in
      let k = at + length front in
      let piece = two_lines k o r (register_of 28 one) (register_of 29 other) in
      let put = put_lines home in
      let brought = brings_two s fetching lines base plan.spill words at c setting.room shows.block pc
      one other is_one is_other (s.front lines at front (piece ++ put) stands) in
      let d = brought.brings.last in
      let held_one = brought.first ∙ shows.held (Register left) one (first_read left (Register right ∷ []) (rest (Register left))) at_one in
      let held_other = brought.second ∙ shows.held (Register right) other (second_read (Register left) right (rest (Register right)))
      at_other in
      let behind = s.back lines at front (piece ++ put) stands in
      let computed = two_computed s lines base k r (register_of 28 one) (register_of 29 other) x y d
      (brought.brings.others.sized ∙ shows.block.count) (register_some plan.spill 30 home is (omega arith))
      (register_below plan.spill 30 home is (omega arith)) (holds.registers left) (holds.registers right) held_one held_other
      brought.brings.behind o (s.front lines k piece put behind) in
      let prepared = computed_behind s fetching lines base plan.spill words at c setting.room shows.block
      pc front piece steady home (wrapped value) brought.brings computed in
      let shown = subst (λ (v : ℕ). Prepares lines base plan.spill at (front ++ piece) steady home v c)
      (shown-number plan base (without owed home) to value state home) prepared in
      let joined : (front ++ piece) ++ put ≡ front ++ (piece ++ put) = append_assoc front piece put in
      let whole = put_behind s putting lines plan base at owed before keys state c (Register to) value setting there.0
      (λ key needed apart. needs_more (among (Register left ∷ Register right ∷ []) key) (keys key) (is_key key (Register to)) needed
      apart) apart shows (front ++ piece) steady shown (subst (λ (lines_of : List Line). StandsAt lines at lines_of) (sym joined)
      stands) in
      subst (λ (lines_of : List Line). Simulates lines plan base at (straight lines_of) steady (without owed home) keys state
      (holding (Register to) value state) c) joined whole

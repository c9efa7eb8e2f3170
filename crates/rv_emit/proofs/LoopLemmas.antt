-- The lines of a loop do what the loop does, where those of its body do what the body does.
use Rattle.std.specs.Prelude.{◌≡◌, ℕ, ◌+◌, ◌^◌, ◌<◌, Bool, true, false, pos, negsuc, ◌+ℤ◌, FitsSigned, List, [], ◌∷◌, ◌++◌, length, IsSome, if◌then◌else◌}
use Rattle.std.specs.Int.{w64}
use Rattle.std.specs.List.{AllByRecursion}
use Rattle.std.proofs.Common.{refl, ap, sym, subst, ◌∙◌, arith}
use Rattle.std.proofs.lemmas.Bool.Decides.{nat_tests}
use Rattle.std.proofs.lemmas.Int.{ints}
use Rattle.loop_ir.specs.Needed.{Keys}
use Rattle.loop_ir.specs.Running.{Access as Touch, Key, Register, State, holding, is_key}
use Rattle.register_map.specs.Fits.{SetsApart}
use Rattle.register_map.specs.Homes.{home_of}
use Rattle.rv_line.specs.Fits.{IsImmediate}
use Rattle.rv_line.specs.declared.line.Line.{Line}
use Rattle.rv_line.specs.declared.line.Line.TheVariants.{Imm as ImmLine}
use Rattle.rv_line.specs.declared.line.Imm.TheVariants.{Addi}
use Rattle.rv_steps.specs.Constants.{constant_lines}
use Rattle.rv_steps.specs.Effects.{word_of}
use Rattle.rv_steps.specs.Machine.{Config, address_of, register_at, with_register}
use Rattle.rv_steps.specs.Pieces.{StandsAt}
use Rattle.rv_steps.specs.Registers.{is_among}
use Rattle.rv_steps.specs.Wrapped.{wrapped}
use Rattle.rv_emit.specs.Counting.{begun, gone_on}
use Rattle.rv_emit.specs.Emitting.{Plan, count_by, count_lines, first_count, home_at, last_count, start_lines}
use Rattle.rv_emit.specs.Handling.{Fetching, Putting}
use Rattle.rv_emit.specs.MachineLaws.{MachineLaws}
use Rattle.rv_emit.specs.Moving.{fetch_lines, put_lines, register_of, settle_lines}
use Rattle.rv_emit.specs.Showing.{AreHomes, AreTouches, IsSetting, Shows, held_in, IsTouch}
use Rattle.rv_emit.specs.Simulating.{Settling}
use Rattle.rv_emit.specs.Walks.{Owed}
use Rattle.rv_emit.proofs.CountingLemmas.{Grows}
use Rattle.rv_emit.proofs.JumpLemmas.{shows-idle, zero-is}
use Rattle.rv_emit.proofs.SetLemmas.{counted-on, fetched, fixed, fixed-on, put-behind}
use Rattle.rv_emit.proofs.ShowLemmas.{home-there, shown-number, shows-held}
use Rattle.rv_emit.proofs.SimulateLemmas.{KeepsBut, Ran, Way, home-below, home-some, keeps-from, length-of-four, length-of-three}
use Rattle.rv_emit.proofs.SimulateLemmas.{ran-none, ran-then, way-of, way-ran, way-same, way-then}

-- ---- what is there at each point was there at the end: a trace only grows

all-behind : (P : Touch → Type 0) (more trace : List Touch) → AllByRecursion P (more ++ trace) → AllByRecursion P trace
all-behind P [] trace h = h
all-behind P (access ∷ more) trace h = all-behind P more trace h.1

pub touched-before : (words : ℕ) (before now : State) → Grows before now → AreTouches words now → AreTouches words before
touched-before words before now grown h =
    all-behind (IsTouch words) grown.0 before.trace (subst (AllByRecursion (IsTouch words)) grown.1 h)

-- a setting for as many words
pub setting-for : (plan : Plan) (base words : ℕ) (state : State) → length state.words ≡ words → IsSetting plan base words
    → IsSetting plan base (length state.words)
setting-for plan base words state many setting = subst (IsSetting plan base) (sym many) setting

-- ---- the start of a loop

count-from-fits : (down : Bool) (turns : ℕ) → turns < 2 ^ 63 → FitsSigned w64 (if down then pos turns else pos 0)
count-from-fits true turns few = record { sfits = omega (arith, few) }
count-from-fits false turns few = record { sfits = omega arith }

module _ (laws : MachineLaws) (put : Putting) (settle : Settling) (lines : List Line) (plan : Plan) (base : ℕ) where
  pub start-way : (at counter turns : ℕ) (owed : Owed) (keys head : Keys) (state : State) (c : Config)
      → IsSetting plan base (length state.words) → AreHomes plan.spill owed → IsSome (home_of plan.homes (Register counter))
      → SetsApart (home_of plan.homes) (Register counter ∷ []) head → turns < 2 ^ 63
      → ((key : Key) → head key ≡ true → is_key key (Register counter) ≡ false → keys key ≡ true)
      → Shows plan base owed keys state c → StandsAt lines at (start_lines plan owed counter turns) → c.pc ≡ address_of at
      → Way lines plan base (length (start_lines plan owed counter turns)) (at + length (start_lines plan owed counter turns)) true [] head
      state (begun plan.down counter turns state) c
  start-way at counter turns owed keys head state c setting homes some apart few before shows stands pc =
      let home = home_at plan (Register counter) in
      let there = home-there plan (Register counter) some in
      let is = setting.homes (Register counter) home there in
      let r = register_of 30 home in
      let value = first_count plan counter turns in
      let owing = settle_lines owed in
      let constant = constant_lines r value in
      let puts = put_lines home in
      let rest = laws.back lines at owing (constant ++ puts) stands in
      let middle = at + length owing in
      let next = middle + length constant in
      let first : Way lines plan base (length owing) middle true [] keys state state c =
      way-of lines plan base at (record { lines = owing; steps = length owing }) true [] keys state state c
      (settle lines plan base at owed keys state c setting homes shows (laws.front lines at owing (constant ++ puts) stands) pc) in
      let d = first.last in
      let regs = first.shows.block.count in
      let low = home-below plan.spill 30 home (omega arith) is in
      let inside : r < length d.registers = omega (arith, regs, low) in
      let fix = fixed laws lines base plan.spill middle r value d (laws.front lines middle constant puts rest)
      (home-some plan.spill 30 home (omega arith) is) inside (count-from-fits (plan.down (Register counter)) turns few) first.there in
      let sets = put-behind laws put lines base plan.spill (length state.words) setting.room
      (length constant) next home (wrapped value) d first.shows.block is fix.run fix.keeps fix.holds (laws.below value)
      (laws.back lines middle constant puts rest) in
      let second : Way lines plan base (length constant + length puts) (next + length puts) true [] head state
      (holding (Register counter) value state) d =
      way-ran lines plan base (length constant + length puts) (next + length puts) [] head state (holding (Register counter) value state)
      d sets.run refl
      (shows-held plan base [] keys head state d sets.run.last (Register counter) home value (wrapped value) setting there apart before
      first.shows sets.changes (shown-number plan base [] counter value state home)) in
      let sum : length (start_lines plan owed counter turns) ≡ length owing + (length constant + length puts) =
      length-of-three owing constant puts in
      way-same lines plan base (length owing + (length constant + length puts)) (length (start_lines plan owed counter turns))
      (next + length puts)
      (at + length (start_lines plan owed counter turns)) true [] head state (begun plan.down counter turns state) c (sym sum)
      (omega (arith, sum))
      (way-then laws lines base plan (length owing) (length constant + length puts) middle (next + length puts) true true true [] [] keys
      head
      state state (holding (Register counter) value state) c first second (λ yes. yes) (λ yes. yes))

-- ---- the end of a turn: the counter goes on, and what it is compared with stands in a register

pub record Compared (lines : List Line) (base spill n to turns : ℕ) (down : Bool) (c : Config) : Type 0 where
  pub run : Ran lines base spill n to c
  pub keeps : KeepsBut 31 c run.last
  pub same : (r : ℕ) → r < 31 → register_at run.last.registers r ≡ register_at c.registers r
  pub holds : register_at run.last.registers (if down then 0 else 31) ≡ (if down then 0 else turns)

not-last : (r : ℕ) → r < 31 → is_among r (31 ∷ []) ≡ false
not-last r low = grind (arith, nat_tests)

compared : (laws : MachineLaws) (lines : List Line) (base spill at turns : ℕ) (down : Bool) (c : Config) → length c.registers ≡ 32
    → turns < 2 ^ 63
    → StandsAt lines at (if down then [] else constant_lines 31 (pos turns)) → c.pc ≡ address_of at
    → Compared lines base spill (length (if down then [] else constant_lines 31 (pos turns)))
    (at + length (if down then [] else constant_lines 31 (pos turns))) turns down c
compared laws lines base spill at turns true c regs few stands pc =
    let end : at ≡ at + 0 = omega arith in
    record {
      run = ran-none laws lines base spill (at + 0) c (pc ∙ ap address_of end);
      keeps = record { block = refl; sized = refl; same = λ r low apart. refl };
      same = λ r low. refl;
      holds = zero-is c.registers;
    }
compared laws lines base spill at turns false c regs few stands pc =
    let value = pos turns in
    let n = length (constant_lines 31 value) in
    let word = word_of value in
    let d : Config = record { registers = with_register c.registers 31 word; pc = address_of (at + n); block = c.block } in
    let inside : 31 < length c.registers = omega (arith, regs) in
    let fits : FitsSigned w64 value = record { sfits = omega (arith, few) } in
    let agree = laws.agree_one c.registers 31 word in
    record {
      run = record {
        last = d;
        accesses = [];
        leads = laws.constant lines base at 31 value c stands (omega arith) inside fits pc;
        there = refl;
        in_order = refl;
      };
      keeps = keeps-from 31 (31 ∷ []) c d agree refl (λ r low apart. not-last r (omega (arith, low)));
      same = λ r low. agree.same r (not-last r low);
      holds = laws.set c.registers 31 word (omega arith) inside ∙ laws.signed value fits ∙ laws.natural turns (omega (arith, few));
    }

count-by-small : (down : Bool) → IsImmediate (if down then negsuc 0 else pos 1)
count-by-small true = record { low = omega (arith, ints); high = omega (arith, ints) }
count-by-small false = record { low = omega (arith, ints); high = omega (arith, ints) }

pub record Counted (lines : List Line) (plan : Plan) (base n to counter turns : ℕ) (head : Keys) (state : State) (c : Config) : Type 0 where
  pub run : Ran lines base plan.spill n to c
  pub shows : Shows plan base [] head (gone_on plan.down counter state) run.last
  pub register : register_at run.last.registers (register_of 30 (home_at plan (Register counter))) ≡ wrapped
      (state.held (Register counter) +ℤ count_by plan counter)
  pub target : register_at run.last.registers (last_count plan counter) ≡ (if plan.down (Register counter) then 0 else turns)

module _ (laws : MachineLaws) (fetch : Fetching) (put : Putting) (lines : List Line) (plan : Plan) (base : ℕ) where
  pub count-on : (at counter turns : ℕ) (head : Keys) (state : State) (c : Config)
      → IsSetting plan base (length state.words) → IsSome (home_of plan.homes (Register counter))
      → SetsApart (home_of plan.homes) (Register counter ∷ []) head → head (Register counter) ≡ true → turns < 2 ^ 63
      → Shows plan base [] head state c → StandsAt lines at (count_lines plan counter turns) → c.pc ≡ address_of at
      → Counted lines plan base (length (count_lines plan counter turns)) (at + length (count_lines plan counter turns)) counter turns
      head state c
  count-on at counter turns head state c setting some apart known few shows stands pc =
      let home = home_at plan (Register counter) in
      let there = home-there plan (Register counter) some in
      let is = setting.homes (Register counter) home there in
      let r = register_of 30 home in
      let by = count_by plan counter in
      let held = state.held (Register counter) in
      let down = plan.down (Register counter) in
      let fetches = fetch_lines 30 home in
      let add : List Line = ImmLine Addi r r by ∷ [] in
      let puts = put_lines home in
      let compare = if down then [] else constant_lines 31 (pos turns) in
      let rest = laws.back lines at fetches (add ++ (puts ++ compare)) stands in
      let a = at + length fetches in
      let rest2 = laws.back lines a add (puts ++ compare) rest in
      let rest3 = laws.back lines (a + 1) puts compare rest2 in
      let f = fetched fetch lines base plan.spill (length state.words) at home c setting.room shows.block is
      (laws.front lines at fetches (add ++ (puts ++ compare)) stands) pc in
      let d = f.run.last in
      let low = home-below plan.spill 30 home (omega arith) is in
      let regs = shows.block.count in
      let sized = f.keeps.sized in
      let inside : r < length d.registers = omega (arith, regs, low, sized) in
      let g = counted-on laws lines base plan.spill a r held by d (laws.front lines a add (puts ++ compare) rest)
      (home-some plan.spill 30 home (omega arith) is) inside (count-by-small down)
      (f.holds ∙ shows.held (Register counter) home known there) f.run.there in
      let both = fixed-on laws lines base plan.spill (length fetches) 1 a (a + 1) r (held_in c home) (wrapped (held +ℤ by)) c f g in
      let sets = put-behind laws put lines base plan.spill (length state.words) setting.room
      (length fetches + 1) (a + 1) home (wrapped (held +ℤ by)) c shows.block is both.run both.keeps both.holds
      (laws.below (held +ℤ by)) (laws.front lines (a + 1) puts compare rest2) in
      let e = sets.run.last in
      let next = gone_on plan.down counter state in
      let shown = shows-held plan base [] head head state c e (Register counter) home (held +ℤ by) (wrapped (held +ℤ by)) setting there apart
      (λ key need other. need) shows sets.changes (shown-number plan base [] counter (held +ℤ by) state home) in
      let b = a + 1 + length puts in
      let last = compared laws lines base plan.spill b turns down e shown.block.count few rest3 sets.run.there in
      let n = length fetches + 1 + length puts + length compare in
      let sum : length (count_lines plan counter turns) ≡ length fetches + (1 + (length puts + length compare)) =
      length-of-four fetches add puts compare in
      let count : n ≡ length (count_lines plan counter turns) = omega (arith, sum) in
      let end : b + length compare ≡ at + length (count_lines plan counter turns) = omega (arith, sum) in
      let result : Counted lines plan base n (b + length compare) counter turns head state c = record {
        run = ran-then laws lines base plan.spill (length fetches + 1 + length puts) (length compare) b (b + length compare) c sets.run
            last.run;
        shows = shows-idle plan base 31 [] head next e last.run.last setting (omega arith) last.keeps shown;
        register = last.same r low ∙ sets.register;
        target = last.holds;
      } in
      subst (λ to. Counted lines plan base (length (count_lines plan counter turns)) to counter turns head state c) end
      (subst (λ n. Counted lines plan base n (b + length compare) counter turns head state c) count result)

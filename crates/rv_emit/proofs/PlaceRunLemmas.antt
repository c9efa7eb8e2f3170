-- Chains of lines within one step, and what they leave as it was.
use Rattle.std.specs.Prelude.{◌≡◌, ◌≢◌, ℕ, ◌+◌, ◌<◌, ◌≤◌, Bool, true, false, not, ℤ, List, [], ◌∷◌, ◌++◌}
use Rattle.std.specs.Prelude.{length, filter, Some, slice_get, FitsSigned}
use Rattle.std.specs.Int.{w64}
use Rattle.std.proofs.Common.{refl, sym, ap, ◌∙◌, arith, append-nil, length-append}
use Rattle.std.proofs.lemmas.Bool.Decides.{nat_tests}
use Rattle.loop_ir.specs.Needed.{Keys}
use Rattle.loop_ir.specs.Running.{Access as Touch, Key, State, is_key}
use Rattle.register_map.specs.declared.home.Home.{Home}
use Rattle.register_map.specs.declared.home.Home.TheVariants as home
use Rattle.register_map.specs.Homes.{IsHome, home_of, is_given}
use Rattle.rv_line.specs.declared.line.Line.{Line}
use Rattle.rv_steps.specs.Accesses.{Leads, touched}
use Rattle.rv_steps.specs.Constants.{constant_lines}
use Rattle.rv_steps.specs.Effects.{word_of}
use Rattle.rv_steps.specs.Good.{values_at}
use Rattle.rv_steps.specs.Machine.{Access, Config, Goes, IsAt, access_of, address_of, next_step, register_at}
use Rattle.rv_steps.specs.Machine.{with_register, with_result}
use Rattle.rv_steps.specs.Pieces.{StandsAt}
use Rattle.rv_steps.specs.Registers.{AgreeBut, is_among}
use Rattle.rv_emit.specs.Emitting.{Plan, straight}
use Rattle.rv_emit.specs.Handling.{Changes, Putting, Runs}
use Rattle.rv_emit.specs.MachineLaws.{MachineLaws}
use Rattle.rv_emit.specs.Moving.{put_lines, register_of}
use Rattle.rv_emit.specs.Showing.{AreInOrder, IsSetting, Shows, is_spill, shown}
use Rattle.rv_emit.specs.Simulating.{Simulates}
use Rattle.rv_emit.specs.Walks.{Owed, without}
use Rattle.rv_emit.proofs.ShowLemmas.{shown-below, shows-changed}
use Rattle.rv_emit.proofs.SimulateLemmas.{KeepsBut, block-kept, held-kept, in-order}

-- ---- chains

-- each line of a piece once, with the loads and stores of these accesses
pub record Made (lines : List Line) (base spill at : ℕ) (piece : List Line) (touches : List Touch) (c d : Config) : Type 0 where
  pub accesses : List Access
  pub leads : Leads lines base (length piece) c d accesses
  pub behind : d.pc ≡ address_of (at + length piece)
  pub in_order : AreInOrder base spill accesses touches

module _ (laws : MachineLaws) (lines : List Line) (base spill : ℕ) where
  pub made-none : (at : ℕ) (c : Config) → c.pc ≡ address_of at → Made lines base spill at [] [] c c
  made-none at c pc = record { accesses = []; leads = laws.none lines base c; behind = pc ∙ omega arith; in_order = refl }

  pub made-runs : (at : ℕ) (piece : List Line) (c : Config) (run : Runs lines base spill at piece c)
      → Made lines base spill at piece [] c run.last
  made-runs at piece c run = record { accesses = run.accesses; leads = run.leads; behind = run.behind; in_order = run.in_order }

  pub made-then : (at : ℕ) (one two : List Line) (first second : List Touch) (c d e : Config) → Made lines base spill at one first c d
      → Made lines base spill (at + length one) two second d e → Made lines base spill at (one ++ two) (second ++ first) c e
  made-then at one two first second c d e front back =
      let sized = length-append one two in
      record {
        accesses = front.accesses ++ back.accesses;
        leads = rw sized (laws.steps lines base (length one) (length two) c d e front.accesses back.accesses front.leads back.leads);
        behind = back.behind ∙ omega (arith, sized);
        in_order = in-order base spill front.accesses back.accesses first second front.in_order back.in_order;
      }

  -- one line
  pub made-line : (at : ℕ) (line : Line) (touches : List Touch) (c d : Config) → IsAt lines at line c → next_step lines base c ≡ Goes d
      → d.pc ≡ address_of (at + 1) → AreInOrder base spill (touched (access_of line c.registers)) touches
      → Made lines base spill at (line ∷ []) touches c d
  made-line at line touches c d is goes pc order = record {
    accesses = touched (access_of line c.registers) ++ [];
    leads = laws.line lines base at 0 line c d d [] is goes (laws.none lines base d);
    behind = pc;
    in_order = rw (append-nil (touched (access_of line c.registers))) order;
  }

  pub is-at : (at : ℕ) (line : Line) (rest : List Line) (c : Config) → StandsAt lines at (line ∷ rest) → c.pc ≡ address_of at
      → IsAt lines at line c
  is-at at line rest c stands pc =
      let here : at + 0 ≡ at = omega arith in
      record { at = pc; there = ap (λ k. slice_get lines k) (sym here) ∙ laws.there lines at (line ∷ rest) 0 stands (omega arith) }

  -- a line that gives a register a result, and loads and stores nothing
  pub made-result : (at : ℕ) (line : Line) (rest : List Line) (to value : ℕ) (c : Config) → StandsAt lines at (line ∷ rest)
      → c.pc ≡ address_of at
      → (IsAt lines at line c → next_step lines base c ≡ Goes (with_result c to value)) → touched (access_of line c.registers) ≡ []
      → Made lines base spill at (line ∷ []) [] c (with_result c to value)
  made-result at line rest to value c stands pc goes quiet =
      let is = is-at at line rest c stands pc in
      made-line at line [] c (with_result c to value) is (goes is) (omega (arith, pc))
      (ap (filter (λ access. not (is_spill base spill access))) quiet)

  -- a constant
  abbrev pub with_constant : ℕ → ℕ → ℤ → Config → Config
  with_constant at to value c = record {
    registers = with_register c.registers to (word_of value);
    pc = address_of (at + length (constant_lines to value));
    block = c.block;
  }

  pub made-constant : (at to : ℕ) (value : ℤ) (rest : List Line) (c : Config) → StandsAt lines at (constant_lines to value ++ rest) → 0 < to
      → to < length c.registers → FitsSigned w64 value → c.pc ≡ address_of at
      → Made lines base spill at (constant_lines to value) [] c (with_constant at to value c)
  made-constant at to value rest c stands some within fits pc = record {
    accesses = [];
    leads = laws.constant lines base at to value c (laws.front lines at (constant_lines to value) rest stands) some within fits pc;
    behind = refl;
    in_order = refl;
  }

-- a piece that leads to a configuration that shows a state
pub record Did (lines : List Line) (plan : Plan) (base at : ℕ) (piece : List Line) (touches : List Touch) (owed : Owed) (keys : Keys)
    (after : State) (c : Config) : Type 0 where
  pub last : Config
  pub made : Made lines base plan.spill at piece touches c last
  pub shows : Shows plan base owed keys after last

module _ (laws : MachineLaws) (lines : List Line) (plan : Plan) (base : ℕ) (owed : Owed) (keys : Keys) (after : State) where
  pub did-before : (at : ℕ) (one two : List Line) (first second : List Touch) (c d : Config) → Made lines base plan.spill at one first c d
      → Did lines plan base (at + length one) two second owed keys after d
      → Did lines plan base at (one ++ two) (second ++ first) owed keys after c
  did-before at one two first second c d front back = record {
    last = back.last;
    made = made-then laws lines base plan.spill at one two first second c d back.last front back.made;
    shows = back.shows;
  }

  pub did-simulates : (at : ℕ) (piece : List Line) (touches : List Touch) (steady : Bool) (before : State) (c : Config)
      → after.trace ≡ touches ++ before.trace → Did lines plan base at piece touches owed keys after c
      → Simulates lines plan base at (straight piece) steady owed keys before after c
  did-simulates at piece touches steady before c trace did = record {
    steps = length piece;
    last = did.last;
    accesses = did.made.accesses;
    touches = touches;
    leads = did.made.leads;
    few = omega arith;
    exact = λ is. refl;
    behind = did.made.behind;
    shows = did.shows;
    trace = trace;
    in_order = did.made.in_order;
  }

-- ---- what lines leave as it was

-- where a register was written
pub still-written : (laws : MachineLaws) (r to value pc : ℕ) (c : Config) → ((n : ℕ) → n ≢ r → n < 28 → n ≢ to)
    → KeepsBut r c (record { registers = with_register c.registers to value; pc = pc; block = c.block })
still-written laws r to value pc c out = record {
  block = refl;
  sized = laws.count c.registers to value;
  same = λ n below apart. laws.unset c.registers to value n (out n apart below);
}

-- where scratch registers were
pub still-agrees : (r scratch : ℕ) (c d : Config) → 28 ≤ scratch → AgreeBut (scratch ∷ 31 ∷ []) c.registers d.registers
    → d.block ≡ c.block → KeepsBut r c d
still-agrees r scratch c d high agrees block = record {
  block = block;
  sized = agrees.sized;
  same = λ n below apart. agrees.same n (out n below);
}
  where
    out : (n : ℕ) → n < 28 → is_among n (scratch ∷ 31 ∷ []) ≡ false
    out n below = grind (arith, nat_tests)

pub given-range : (n : ℕ) → is_given n ≡ true → (5 ≤ n) × (n ≤ 17) × (n ≢ 10)
given-range n given = grind (arith, nat_tests)

-- the register of a home
pub record IsOwn (scratch r : ℕ) : Type 0 where
  pub some : 0 < r
  pub below : r < 32
  pub ten : r ≢ 10
  pub most : r ≤ scratch

pub own-register : (spill scratch : ℕ) (home : Home) → IsHome spill home → 28 ≤ scratch → scratch ≤ 30
    → IsOwn scratch (register_of scratch home)
own-register spill scratch (home.Register n) is high low =
    let range = given-range n is in record {
      some = omega (arith, range);
      below = omega (arith, range);
      ten = range.2;
      most =
          omega (arith, range);
    }
own-register spill scratch (home.Spill word) is high low =
    record { some = omega arith; below = omega arith; ten = λ e. omega (arith, e); most = omega arith }

-- ---- a home is set

module _ (laws : MachineLaws) (put : Putting) (lines : List Line) (plan : Plan) (base : ℕ) (owed : Owed) (early keys : Keys)
    (before after : State) (c d : Config) (key : Key) (place : Home)
    (setting : IsSetting plan base (length before.words)) (there : home_of plan.homes key ≡ Some place)
    (apart : (other : Key) → keys other ≡ true → home_of plan.homes key ≡ home_of plan.homes other → key ≡ other)
    (wanted : (other : Key) → keys other ≡ true → is_key other key ≡ false → early other ≡ true)
    (same : (other : Key) → is_key other key ≡ false → after.held other ≡ before.held other)
    (words : after.words ≡ before.words) (shows : Shows plan base owed early before c) (still : KeepsBut (register_of 30 place) c d)
    (right : register_at d.registers (register_of 30 place) ≡ shown plan base (without owed place) after key place) where
  pub did-put : (at : ℕ) → StandsAt lines at (put_lines place) → d.pc ≡ address_of at
      → Did lines plan base at (put_lines place) [] (without owed place) keys after d
  did-put at stands pc =
      let own = own-register plan.spill 30 place (setting.homes key place there) (omega arith) (omega arith) in
      let block = block-kept base plan.spill (length before.words) (register_of 30 place) c d own.ten still shows.block in
      let puts = put lines base plan.spill (length before.words) at place d setting.room block
      (setting.homes key place there) stands pc
      (rw right (shown-below plan base (without owed place) after key place)) in
      let changes : Changes base plan.spill (length before.words) place (register_at d.registers (register_of 30 place)) c puts.run.last =
      record {
        block = puts.changes.block;
        here = puts.changes.here;
        others = λ other is far. puts.changes.others other is far ∙ held-kept plan.spill place other c d still is far;
        areas = puts.changes.areas ∙ ap (λ block. values_at block plan.spill (length before.words)) still.block;
      } in
      record {
        last = puts.run.last;
        made = made-runs laws lines base plan.spill at (put_lines place) d puts.run;
        shows = shows-changed plan base owed early keys before after c puts.run.last key place
            (register_at d.registers (register_of 30 place))
            setting there apart wanted same words shows changes right;
      }

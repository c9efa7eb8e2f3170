-- Lines between homes and registers: what they do.
use Rattle.std.specs.Prelude.{◌≡◌, ◌≢◌, ℕ, ◌+◌, ◌*◌, ◌%◌, ◌^◌, ◌<◌, ◌≤◌, true, false, pos, FitsSigned}
use Rattle.std.specs.Prelude.{List, [], ◌∷◌, ◌++◌, length, nat_lt}
use Rattle.std.specs.Int.{w64}
use Rattle.std.proofs.Common.{refl, inl, inr, sym, ap, ◌∙◌, arith, length-append}
use Rattle.std.proofs.lemmas.Bool.{cases_lt}
use Rattle.std.proofs.lemmas.Bool.Decides.{nat_tests}
use Rattle.std.proofs.lemmas.Int.{ints, fits_signed_from_abs}
use Rattle.register_map.specs.declared.home.Home.{Home}
use Rattle.register_map.specs.declared.home.Home.TheVariants as home
use Rattle.register_map.specs.Homes.{IsHome, is_given}
use Rattle.rv_line.specs.declared.line.Line.{Line}
use Rattle.rv_line.specs.declared.line.Line.TheVariants.{Three as ThreeLine, Load as LoadLine, Store as StoreLine}
use Rattle.rv_line.specs.declared.line.Three.TheVariants.{Add}
use Rattle.rv_line.specs.declared.line.Load.TheVariants.{Ld}
use Rattle.rv_line.specs.declared.line.Store.TheVariants.{Sd}
use Rattle.rv_steps.specs.Accesses.{Leads}
use Rattle.rv_steps.specs.Constants.{constant_lines}
use Rattle.rv_steps.specs.Good.{values_at}
use Rattle.rv_steps.specs.Machine.{Config, Goes, IsAt, Loads, Stores, address, address_of, next_step}
use Rattle.rv_steps.specs.Machine.{register_at, value_at, with_register, with_result, with_value}
use Rattle.rv_steps.specs.Pieces.{StandsAt}
use Rattle.rv_steps.specs.Registers.{AgreeBut, is_among}
use Rattle.rv_steps.specs.Wrapped.{wrapped}
use Rattle.rv_emit.specs.Handling.{Fetches, Puts}
use Rattle.rv_emit.specs.MachineLaws.{MachineLaws}
use Rattle.rv_emit.specs.Moving.{fetch_lines, put_lines, reach_lines, reach_offset, reach_register, register_of}
use Rattle.rv_emit.specs.Showing.{HasBlock, HasRoom, held_in, is_whole}

-- ---- registers that are not among a few

pub apart_from : (r a : ℕ) → r ≢ a → is_among r (a ∷ []) ≡ false
apart_from r a h = grind (arith, nat_tests)

pub apart_from_two : (r a b : ℕ) → r ≢ a → r ≢ b → is_among r (a ∷ b ∷ []) ≡ false
apart_from_two r a b h k = grind (arith, nat_tests)

pub two_apart : (r a b : ℕ) → is_among r (a ∷ b ∷ []) ≡ false → (r ≢ a) × (r ≢ b)
two_apart r a b h = (grind (arith, nat_tests), grind (arith, nat_tests))

pub given_apart : (number scratch : ℕ) → is_given number ≡ true → 18 ≤ scratch → number ≢ scratch
given_apart number scratch h k = grind (arith, nat_tests)

pub given_most : (number : ℕ) → is_given number ≡ true → (0 < number) × (number < 31)
given_most number h = (grind (arith, nat_tests), grind (arith, nat_tests))

-- ---- a spill word in reach

pub record Reaching (lines : List Line) (base at word : ℕ) (c : Config) : Type 0 where
  pub last : Config
  pub leads : Leads lines base (length (reach_lines word)) c last []
  pub behind : last.pc ≡ address_of (at + length (reach_lines word))
  pub place : address last.registers (reach_register word) (reach_offset word) ≡ base + 8 * word
  pub others : AgreeBut (31 ∷ []) c.registers last.registers
  pub block : last.block ≡ c.block

module _ (laws : MachineLaws) (lines : List Line) (base spill words : ℕ) (room : HasRoom base spill words) where
  reach-near : (at word : ℕ) (c : Config) → HasBlock base spill words c → word < spill → nat_lt word 256 ≡ true → word < 256
      → c.pc ≡ address_of at → Reaching lines base at word c
  reach-near at word c block within near less pc =
      let bound = room.within in
      let holds : register_at c.registers 10 ≡ wrapped (pos base) = block.block_at ∙ sym (laws.natural base (omega arith)) in
      let points : address c.registers 10 (pos (8 * word)) ≡ base + 8 * word =
      laws.place c.registers 10 (pos base) (pos (8 * word)) base (8 * word) holds
      (record { low = omega (arith, ints); high = omega (arith, ints) }) (omega (arith, ints)) (omega arith) in
      record {
        last = c;
        leads = rw near (laws.none lines base c);
        behind = rw near (omega arith);
        place = rw near points;
        others = laws.agree (31 ∷ []) c.registers;
        block = refl;
      }

  reach-far : (at word : ℕ) (c : Config) → HasBlock base spill words c → word < spill → nat_lt word 256 ≡ false
      → StandsAt lines at (constant_lines 31 (pos (8 * word)) ++ ThreeLine Add 31 31 10 ∷ []) → c.pc ≡ address_of at
      → Reaching lines base at word c
  reach-far at word c block within far stands pc =
      let bound = room.within in
      let few = room.few in
      let constant = constant_lines 31 (pos (8 * word)) in
      let n = length constant in
      let add : Line = ThreeLine Add 31 31 10 in
      let d : Config = record { registers = with_register c.registers 31 (8 * word); pc = address_of (at + n); block = c.block } in
      let fits : FitsSigned w64 (pos (8 * word)) = fits_signed_from_abs w64 (pos (8 * word)) (omega arith) in
      let regs = block.count in
      let first = laws.constant lines base at 31 (pos (8 * word)) c (laws.front lines at constant (add ∷ []) stands)
      (omega arith) (omega arith) fits pc in
      let at1 : IsAt lines (at + n + 0) add d =
      record {
        at = omega arith;
        there = laws.there lines (at + n) (add ∷ []) 0 (laws.back lines at constant (add ∷ []) stands) (omega arith);
      } in
      let left : register_at d.registers 31 ≡ 8 * word = laws.set c.registers 31 (8 * word) (omega arith) (omega arith) in
      let right : register_at d.registers 10 ≡ base = laws.unset c.registers 31 (8 * word) 10 (omega arith) ∙ block.block_at in
      let sum : (8 * word + base) % 2 ^ 64 ≡ base + 8 * word = omega arith in
      let e = with_result d 31 (base + 8 * word) in
      let goes : next_step lines base d ≡ Goes e = laws.goes lines base (at + n + 0) d add at1 ∙ rw (left, right, sum) refl in
      let second = laws.line lines base (at + n + 0) 0 add d e e [] at1 goes (laws.none lines base e) in
      let whole = laws.steps lines base n 1 c d e [] [] first second in
      let len : length (constant ++ add ∷ []) ≡ n + 1 = length-append constant (add ∷ []) in
      let held : register_at e.registers 31 ≡ wrapped (pos (base + 8 * word)) =
      laws.set d.registers 31 (base + 8 * word) (omega arith) (omega (arith, laws.count c.registers 31 (8 * word)))
      ∙ sym (laws.natural (base + 8 * word) (omega arith)) in
      let points : address e.registers 31 (pos 0) ≡ base + 8 * word =
      laws.place e.registers 31 (pos (base + 8 * word)) (pos 0) base (8 * word) held
      (record { low = omega (arith, ints); high = omega (arith, ints) }) (omega (arith, ints)) (omega arith) in
      let on : address_of (at + n) + 4 ≡ address_of (at + (n + 1)) = omega arith in
      record {
        last = e;
        leads = rw (far, len) whole;
        behind = rw (far, len) on;
        place = rw far points;
        others = laws.agree_again (31 ∷ []) c.registers d.registers e.registers (laws.agree_one c.registers 31 (8 * word))
            (laws.agree_one d.registers 31 (base + 8 * word));
        block = refl;
      }

  pub reach : (at word : ℕ) (c : Config) → HasBlock base spill words c → word < spill → StandsAt lines at (reach_lines word)
      → c.pc ≡ address_of at → Reaching lines base at word c
  reach at word c block within stands pc =
      elim (cases_lt word 256) [
        | inl less ↦ let e : nat_lt word 256 ≡ true = grind (arith, nat_tests) in reach-near at word c block within e less pc
        | inr past ↦ let e : nat_lt word 256 ≡ false = grind (arith, nat_tests) in reach-far at word c block within e (rw e at stands) pc
      ]

  -- the load or store of a spill word
  spill-whole : (word : ℕ) → word < spill → is_whole base spill (base + 8 * word) 8 ≡ true
  spill-whole word within = let eights = room.aligned in let bound = room.within in grind (arith, nat_tests)

  -- ---- a home is fetched

  fetch-none : (at scratch number : ℕ) (c : Config) → c.pc ≡ address_of at → Fetches lines base spill at scratch (home.Register number) c
  fetch-none at scratch number c pc =
      record {
        run = record { last = c; accesses = []; leads = laws.none lines base c; behind = omega arith; in_order = refl };
        value = refl;
        others = laws.agree (scratch ∷ 31 ∷ []) c.registers;
        block = refl;
      }

  fetch-word : (at scratch word : ℕ) (c : Config) → HasBlock base spill words c → word < spill → 28 ≤ scratch → scratch ≤ 30
      → StandsAt lines at (fetch_lines scratch (home.Spill word)) → c.pc ≡ address_of at
      → Fetches lines base spill at scratch (home.Spill word) c
  fetch-word at scratch word c block within low high stands pc =
      let m = length (reach_lines word) in
      let load : Line = LoadLine Ld scratch (reach_offset word) (reach_register word) in
      let near = reach at word c block within (laws.front lines at (reach_lines word) (load ∷ []) stands) pc in
      let d = near.last in
      let at1 : IsAt lines (at + m + 0) load d =
      record {
        at = omega (arith, near.behind);
        there = laws.there lines (at + m) (load ∷ []) 0 (laws.back lines at (reach_lines word) (load ∷ []) stands) (omega arith);
      } in
      let inside : 8 * word + 8 ≤ length d.block = rw near.block (omega (arith, block.sized)) in
      let e = with_result d scratch (value_at w64 d.block (8 * word)) in
      let goes : next_step lines base d ≡ Goes e =
      laws.load lines base (at + m + 0) d scratch (reach_offset word) (reach_register word) word at1 room.aligned near.place inside in
      let chain = laws.line lines base (at + m + 0) 0 load d e e [] at1 goes (laws.none lines base e) in
      let access : Leads lines base 1 d e (Loads (base + 8 * word) 8 ∷ []) = rw near.place at chain in
      let whole = laws.steps lines base m 1 c d e [] (Loads (base + 8 * word) 8 ∷ []) near.leads access in
      let len : length (reach_lines word ++ load ∷ []) ≡ m + 1 = length-append (reach_lines word) (load ∷ []) in
      let regs : scratch < length d.registers = omega (arith, near.others.sized, block.count) in
      record {
        run = record {
          last = e;
          accesses = Loads (base + 8 * word) 8 ∷ [];
          leads = rw len whole;
          behind = rw len (omega (arith, near.behind));
          in_order = rw (spill-whole word within) refl;
        };
        value =
            laws.set d.registers scratch (value_at w64 d.block (8 * word)) (omega arith) regs
            ∙ ap (λ bytes. value_at w64 bytes (8 * word)) near.block;
        others = record {
          sized = laws.count d.registers scratch (value_at w64 d.block (8 * word)) ∙ near.others.sized;
          same = λ r out.
              let both = two_apart r scratch 31 out in
              laws.unset d.registers scratch (value_at w64 d.block (8 * word)) r both.0 ∙ near.others.same r (apart_from r 31 both.1);
        };
        block = near.block;
      }

  pub fetch : (at scratch : ℕ) (home : Home) (c : Config) → HasBlock base spill words c → IsHome spill home → 28 ≤ scratch → scratch ≤ 30
      → StandsAt lines at (fetch_lines scratch home) → c.pc ≡ address_of at → Fetches lines base spill at scratch home c
  fetch at scratch (home.Register number) c block within low high stands pc = fetch-none at scratch number c pc
  fetch at scratch (home.Spill word) c block within low high stands pc = fetch-word at scratch word c block within low high stands pc

  -- ---- a home is put

  stored-others : (word v : ℕ) (c d : Config) → AgreeBut (31 ∷ []) c.registers d.registers → d.block ≡ c.block
      → 8 * word + 8 ≤ length d.block → (other : Home) → IsHome spill other → other ≢ home.Spill word
      → held_in (record { registers = d.registers; pc = d.pc + 4; block = with_value w64 d.block (8 * word) v }) other ≡ held_in c other
  stored-others word v c d agree same inside (home.Register number) there apart =
      agree.same number (apart_from number 31 (given_apart number 31 there (omega arith)))
  stored-others word v c d agree same inside (home.Spill other) there apart =
      laws.other_word d.block word other v inside (λ e. apart (ap home.Spill (sym e))) ∙ ap (λ bytes. value_at w64 bytes (8 * other)) same

  put-none : (at number : ℕ) (c : Config) → HasBlock base spill words c → c.pc ≡ address_of at
      → Puts lines base spill words at (home.Register number) c
  put-none at number c block pc =
      record {
        run = record { last = c; accesses = []; leads = laws.none lines base c; behind = omega arith; in_order = refl };
        changes = record { block = block; here = refl; others = λ other there apart. refl; areas = refl };
        others = laws.agree (31 ∷ []) c.registers;
      }

  put-word : (at word : ℕ) (c : Config) → HasBlock base spill words c → word < spill → StandsAt lines at (put_lines (home.Spill word))
      → c.pc ≡ address_of at → register_at c.registers 30 < 2 ^ 64 → Puts lines base spill words at (home.Spill word) c
  put-word at word c block within stands pc small =
      let m = length (reach_lines word) in
      let store : Line = StoreLine Sd 30 (reach_offset word) (reach_register word) in
      let near = reach at word c block within (laws.front lines at (reach_lines word) (store ∷ []) stands) pc in
      let d = near.last in
      let v = register_at d.registers 30 in
      let at1 : IsAt lines (at + m + 0) store d =
      record {
        at = omega (arith, near.behind);
        there = laws.there lines (at + m) (store ∷ []) 0 (laws.back lines at (reach_lines word) (store ∷ []) stands) (omega arith);
      } in
      let inside : 8 * word + 8 ≤ length d.block = rw near.block (omega (arith, block.sized)) in
      let e : Config = record { registers = d.registers; pc = d.pc + 4; block = with_value w64 d.block (8 * word) v } in
      let goes : next_step lines base d ≡ Goes e =
      laws.store lines base (at + m + 0) d 30 (reach_offset word) (reach_register word) word at1 room.aligned near.place inside in
      let chain = laws.line lines base (at + m + 0) 0 store d e e [] at1 goes (laws.none lines base e) in
      let access : Leads lines base 1 d e (Stores (base + 8 * word) 8 ∷ []) = rw near.place at chain in
      let whole = laws.steps lines base m 1 c d e [] (Stores (base + 8 * word) 8 ∷ []) near.leads access in
      let len : length (reach_lines word ++ store ∷ []) ≡ m + 1 = length-append (reach_lines word) (store ∷ []) in
      let kept : v ≡ register_at c.registers 30 = near.others.same 30 refl in
      record {
        run = record {
          last = e;
          accesses = Stores (base + 8 * word) 8 ∷ [];
          leads = rw len whole;
          behind = rw len (omega (arith, near.behind));
          in_order = rw (spill-whole word within) refl;
        };
        changes = record {
          block = record {
            count = near.others.sized ∙ block.count;
            bytes = laws.bytes w64 d.block (8 * word) v (rw near.block block.bytes);
            sized = laws.sized w64 d.block (8 * word) v inside ∙ ap length near.block ∙ block.sized;
            block_at = near.others.same 10 refl ∙ block.block_at;
          };
          here = laws.word d.block (8 * word) v inside (rw kept small) ∙ kept;
          others = stored-others word v c d near.others near.block inside;
          areas = laws.outside d.block spill words word v inside (inl within) ∙ ap (λ bytes. values_at bytes spill words) near.block;
        };
        others = near.others;
      }

  pub put : (at : ℕ) (to : Home) (c : Config) → HasBlock base spill words c → IsHome spill to → StandsAt lines at (put_lines to)
      → c.pc ≡ address_of at → register_at c.registers (register_of 30 to) < 2 ^ 64 → Puts lines base spill words at to c
  put at (home.Register number) c block within stands pc small = put-none at number c block pc
  put at (home.Spill word) c block within stands pc small = put-word at word c block within stands pc small

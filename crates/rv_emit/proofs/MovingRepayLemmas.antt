-- What homes owe is repaid.
use Rattle.std.specs.Prelude.{◌≡◌, ◌≢◌, ℕ, ◌+◌, ◌*◌, ◌%◌, ◌^◌, ◌<◌, ◌≤◌, Bool, true, false, ℤ, pos, ◌+ℤ◌, ◌*ℤ◌, FitsSigned}
use Rattle.std.specs.Prelude.{List, [], ◌∷◌, ◌++◌, length}
use Rattle.std.specs.Int.{w64}
use Rattle.std.specs.Ordering.{int_eq}
use Rattle.std.proofs.Common.{refl, sym, ap, ◌∙◌, arith, length-append}
use Rattle.std.proofs.lemmas.Bool.Decides.{nat_tests}
use Rattle.std.proofs.lemmas.Int.{ints}
use Rattle.register_map.specs.declared.home.Home.{Home}
use Rattle.register_map.specs.declared.home.Home.TheVariants as home
use Rattle.register_map.specs.Homes.{IsHome}
use Rattle.rv_line.specs.declared.line.Line.{Line}
use Rattle.rv_line.specs.declared.line.Line.TheVariants.{Three as ThreeLine, Imm as ImmLine}
use Rattle.rv_line.specs.declared.line.Three.TheVariants.{Add}
use Rattle.rv_line.specs.declared.line.Imm.TheVariants.{Addi}
use Rattle.rv_steps.specs.Accesses.{Leads}
use Rattle.rv_steps.specs.Constants.{constant_lines, is_signed_below}
use Rattle.rv_steps.specs.Effects.{word_of}
use Rattle.rv_steps.specs.Good.{values_at}
use Rattle.rv_steps.specs.Machine.{Access, Config, Goes, IsAt, address_of, next_step, register_at, value_at, with_register, with_result}
use Rattle.rv_steps.specs.Pieces.{StandsAt}
use Rattle.rv_steps.specs.Registers.{AgreeBut}
use Rattle.rv_steps.specs.Wrapped.{wrapped}
use Rattle.rv_emit.specs.Handling.{Runs}
use Rattle.rv_emit.specs.MachineLaws.{MachineLaws}
use Rattle.rv_emit.specs.Moving.{advance_lines, fetch_lines, put_lines, register_of, repay_lines}
use Rattle.rv_emit.specs.Showing.{HasBlock, HasRoom, held_in}
use Rattle.rv_emit.specs.Walks.{bytes}
use Rattle.rv_emit.proofs.MovingLemmas.{apart_from_two, fetch, given_apart, given_most, put, two_apart}
use Rattle.rv_emit.proofs.PlaceNumberLemmas.{bytes-fit, wrapped-bytes}
use Rattle.rv_emit.proofs.SimulateLemmas.{in-order}

-- ---- numbers of bytes

-- the word of so many bytes
bytes-word : (laws : MachineLaws) (words : ℤ) → word_of (bytes words) ≡ wrapped (pos 8 *ℤ words)
bytes-word laws words = laws.signed (bytes words) (bytes-fit words) ∙ wrapped-bytes words

-- a word that goes on by so many bytes
advanced : (laws : MachineLaws) (held words : ℤ) (before now : ℕ) → before ≡ wrapped held → now ≡ (before + word_of (bytes words)) % 2 ^ 64
    → now ≡ wrapped (held +ℤ pos 8 *ℤ words)
advanced laws held words before now from same =
    let by = bytes-word laws words in
    let sum : (before + word_of (bytes words)) % 2 ^ 64 ≡ (wrapped held + wrapped (pos 8 *ℤ words)) % 2 ^ 64 = rw (from, by) refl in
    same ∙ sum ∙ laws.sum held (pos 8 *ℤ words)

-- ---- homes beside those registers

number_in : Home → ℕ
number_in (home.Register number) = number
number_in (home.Spill word) = 0

pub no_register : (spill number : ℕ) (other : Home) → IsHome spill other → 18 ≤ number → other ≢ home.Register number
unfolding number_in
no_register spill number (home.Register given) there most e = given_apart given number there most (ap number_in e)
no_register spill number (home.Spill word) there most e = let same : 0 ≡ number = ap number_in e in omega (arith, same)

beside : (spill : ℕ) (to other : Home) → IsHome spill other → other ≢ to → other ≢ home.Register (register_of 30 to)
beside spill (home.Register number) other there apart = apart
beside spill (home.Spill word) other there apart = no_register spill 30 other there (omega arith)

register-most : (spill : ℕ) (to : Home) → IsHome spill to → (0 < register_of 30 to) × (register_of 30 to < 31)
register-most spill (home.Register number) there = given_most number there
register-most spill (home.Spill word) there = (omega arith, omega arith)

kept : (spill r : ℕ) (c d : Config) → AgreeBut (r ∷ 31 ∷ []) c.registers d.registers → d.block ≡ c.block → (other : Home)
    → IsHome spill other → other ≢ home.Register r → held_in d other ≡ held_in c other
kept spill r c d agree same (home.Register number) there apart =
    agree.same number (apart_from_two number r 31 (λ e. apart (ap home.Register e)) (given_apart number 31 there (omega arith)))
kept spill r c d agree same (home.Spill word) there apart = ap (λ block. value_at w64 block (8 * word)) same

block-kept : (base spill words r : ℕ) (c d : Config) → r ≢ 10 → HasBlock base spill words c → AgreeBut (r ∷ 31 ∷ []) c.registers d.registers
    → d.block ≡ c.block → HasBlock base spill words d
block-kept base spill words r c d apart block agree same =
    record {
      count = agree.sized ∙ block.count;
      bytes = rw same block.bytes;
      sized = ap length same ∙ block.sized;
      block_at = agree.same 10 (apart_from_two 10 r 31 (λ e. apart (sym e)) (omega arith)) ∙ block.block_at;
    }

-- ---- a register goes on by so many bytes

pub record Advancing (lines : List Line) (base at register : ℕ) (count : ℤ) (c : Config) : Type 0 where
  pub last : Config
  pub leads : Leads lines base (length (advance_lines register count)) c last []
  pub behind : last.pc ≡ address_of (at + length (advance_lines register count))
  pub here : register_at last.registers register ≡ (register_at c.registers register + word_of count) % 2 ^ 64
  pub others : AgreeBut (register ∷ 31 ∷ []) c.registers last.registers
  pub block : last.block ≡ c.block

module _ (laws : MachineLaws) (lines : List Line) (base : ℕ) where
  advance-near : (at register : ℕ) (count : ℤ) (c : Config) → is_signed_below 2048 count ≡ true → 0 < register → register < 31
      → length c.registers ≡ 32 → StandsAt lines at (ImmLine Addi register register count ∷ []) → c.pc ≡ address_of at
      → Advancing lines base at register count c
  advance-near at register count c near some most regs stands pc =
      let add : Line = ImmLine Addi register register count in
      let v = (register_at c.registers register + word_of count) % 2 ^ 64 in
      let e = with_result c register v in
      let at1 : IsAt lines (at + 0) add c = record { at = omega arith; there = laws.there lines at (add ∷ []) 0 stands (omega arith) } in
      let goes : next_step lines base c ≡ Goes e = laws.goes lines base (at + 0) c add at1 in
      let chain = laws.line lines base (at + 0) 0 add c e e [] at1 goes (laws.none lines base e) in
      record {
        last = e;
        leads = rw near chain;
        behind = rw near (omega arith);
        here = laws.set c.registers register v some (omega arith);
        others = record {
          sized = laws.count c.registers register v;
          same = λ r out. laws.unset c.registers register v r (two_apart r register 31 out).0;
        };
        block = refl;
      }

  advance-far : (at register : ℕ) (count : ℤ) (c : Config) → is_signed_below 2048 count ≡ false → 0 < register → register < 31
      → length c.registers ≡ 32 → FitsSigned w64 count
      → StandsAt lines at (constant_lines 31 count ++ ThreeLine Add register register 31 ∷ []) → c.pc ≡ address_of at
      → Advancing lines base at register count c
  advance-far at register count c far some most regs fits stands pc =
      let constant = constant_lines 31 count in
      let n = length constant in
      let add : Line = ThreeLine Add register register 31 in
      let d : Config = record { registers = with_register c.registers 31 (word_of count); pc = address_of (at + n); block = c.block } in
      let first = laws.constant lines base at 31 count c (laws.front lines at constant (add ∷ []) stands) (omega arith) (omega arith)
      fits pc in
      let at1 : IsAt lines (at + n + 0) add d =
      record {
        at = omega arith;
        there = laws.there lines (at + n) (add ∷ []) 0 (laws.back lines at constant (add ∷ []) stands) (omega arith);
      } in
      let v = (register_at c.registers register + word_of count) % 2 ^ 64 in
      let left : register_at d.registers register ≡ register_at c.registers register =
      laws.unset c.registers 31 (word_of count) register (omega arith) in
      let right : register_at d.registers 31 ≡ word_of count = laws.set c.registers 31 (word_of count) (omega arith) (omega arith) in
      let e = with_result d register v in
      let goes : next_step lines base d ≡ Goes e = laws.goes lines base (at + n + 0) d add at1 ∙ rw (left, right) refl in
      let second = laws.line lines base (at + n + 0) 0 add d e e [] at1 goes (laws.none lines base e) in
      let whole = laws.steps lines base n 1 c d e [] [] first second in
      let len : length (constant ++ add ∷ []) ≡ n + 1 = length-append constant (add ∷ []) in
      let sized = laws.count c.registers 31 (word_of count) in
      let on : address_of (at + n) + 4 ≡ address_of (at + (n + 1)) = omega arith in
      record {
        last = e;
        leads = rw (far, len) whole;
        behind = rw (far, len) on;
        here = laws.set d.registers register v some (omega (arith, sized));
        others = record {
          sized = laws.count d.registers register v ∙ sized;
          same = λ r out.
              let both = two_apart r register 31 out in
              laws.unset d.registers register v r both.0 ∙ laws.unset c.registers 31 (word_of count) r both.1;
        };
        block = refl;
      }

  advance-by : (b : Bool) (at register : ℕ) (count : ℤ) (c : Config) → is_signed_below 2048 count ≡ b → 0 < register → register < 31
      → length c.registers ≡ 32 → FitsSigned w64 count → StandsAt lines at (advance_lines register count) → c.pc ≡ address_of at
      → Advancing lines base at register count c
  advance-by true at register count c e some most regs fits stands pc =
      advance-near at register count c e some most regs (rw e at stands) pc
  advance-by false at register count c e some most regs fits stands pc =
      advance-far at register count c e some most regs fits (rw e at stands) pc

  pub advance : (at register : ℕ) (count : ℤ) (c : Config) → 0 < register → register < 31
      → length c.registers ≡ 32 → FitsSigned w64 count → StandsAt lines at (advance_lines register count) → c.pc ≡ address_of at
      → Advancing lines base at register count c
  advance at register count c = advance-by (is_signed_below 2048 count) at register count c refl

-- ---- pieces one behind another

pub leads-then : (laws : MachineLaws) (lines : List Line) (base : ℕ) (one two : List Line) (c d e : Config) (xs ys : List Access)
    → Leads lines base (length one) c d xs → Leads lines base (length two) d e ys → Leads lines base (length (one ++ two)) c e (xs ++ ys)
leads-then laws lines base one two c d e xs ys first second =
    let len = length-append one two in
    rw len (laws.steps lines base (length one) (length two) c d e xs ys first second)

-- ---- a home repays

pub record Repaid (lines : List Line) (base spill words at : ℕ) (to : Home) (owed : ℤ) (c : Config) : Type 0 where
  pub run : Runs lines base spill at (repay_lines to owed) c
  pub block : HasBlock base spill words run.last
  pub here : (held : ℤ) → held_in c to ≡ wrapped held → held_in run.last to ≡ wrapped (held +ℤ pos 8 *ℤ owed)
  pub others : (other : Home) → IsHome spill other → other ≢ to → held_in run.last other ≡ held_in c other
  pub areas : values_at run.last.block spill words ≡ values_at c.block spill words

int-eq-zero : (z : ℤ) → int_eq z (pos 0) ≡ true → z ≡ pos 0
int-eq-zero z h = grind (arith, ints)

module _ (laws : MachineLaws) (lines : List Line) (base spill words : ℕ) (room : HasRoom base spill words) where
  repay-none : (at : ℕ) (to : Home) (owed : ℤ) (c : Config) → HasBlock base spill words c → int_eq owed (pos 0) ≡ true
      → c.pc ≡ address_of at → Repaid lines base spill words at to owed c
  repay-none at to owed c block e pc =
      let zero : owed ≡ pos 0 = int-eq-zero owed e in
      record {
        run = record { last = c; accesses = []; leads = rw e (laws.none lines base c); behind = rw e (omega arith); in_order = refl };
        block = block;
        here = λ held h. let same : held +ℤ pos 8 *ℤ owed ≡ held = omega (arith, ints, zero) in h ∙ ap wrapped (sym same);
        others = λ other there apart. refl;
        areas = refl;
      }

  repay-some : (at : ℕ) (to : Home) (owed : ℤ) (c : Config) → HasBlock base spill words c → IsHome spill to → int_eq owed (pos 0) ≡ false
      → StandsAt lines at (fetch_lines 30 to ++ (advance_lines (register_of 30 to) (bytes owed) ++ put_lines to)) → c.pc ≡ address_of at
      → Repaid lines base spill words at to owed c
  repay-some at to owed c block there e stands pc =
      let r = register_of 30 to in
      let most = register-most spill to there in
      let one = fetch_lines 30 to in
      let two = advance_lines r (bytes owed) in
      let three = put_lines to in
      let behind = laws.back lines at one (two ++ three) stands in
      let f = fetch laws lines base spill words room at 30 to c block there (omega arith) (omega arith)
      (laws.front lines at one (two ++ three) stands) pc in
      let d1 = f.run.last in
      let block1 = block-kept base spill words 30 c d1 (omega arith) block f.others f.block in
      let a = advance laws lines base (at + length one) r (bytes owed) d1 most.0 most.1 block1.count (bytes-fit owed)
      (laws.front lines (at + length one) two three behind) f.run.behind in
      let d2 = a.last in
      let apart10 : r ≢ 10 = register-block spill to there in
      let block2 = block-kept base spill words r d1 d2 apart10 block1 a.others a.block in
      let small : register_at d2.registers r < 2 ^ 64 = rw a.here (omega arith) in
      let p = put laws lines base spill words room (at + length one + length two) to d2 block2 there
      (laws.back lines (at + length one) two three behind) a.behind small in
      let d3 = p.run.last in
      let chain = leads-then laws lines base one (two ++ three) c d1 d3 f.run.accesses p.run.accesses f.run.leads
      (leads-then laws lines base two three d1 d2 d3 [] p.run.accesses a.leads p.run.leads) in
      let len : length (one ++ (two ++ three)) ≡ length one + (length two + length three) =
      length-append one (two ++ three) ∙ ap (λ m. length one + m) (length-append two three) in
      let on : d3.pc ≡ address_of (at + (length one + (length two + length three))) = omega (arith, p.run.behind) in
      record {
        run = record {
          last = d3;
          accesses = f.run.accesses ++ p.run.accesses;
          leads = rw e chain;
          behind = rw (e, len) on;
          in_order = in-order base spill f.run.accesses p.run.accesses [] [] f.run.in_order p.run.in_order;
        };
        block = p.changes.block;
        here = λ held h.
            let from : register_at d1.registers r ≡ wrapped held = f.value ∙ h in
            p.changes.here ∙ advanced laws held owed (register_at d1.registers r) (register_at d2.registers r) from a.here;
        others = λ other given apart.
            p.changes.others other given apart ∙ kept spill r d1 d2 a.others a.block other given (beside spill to other given apart)
            ∙ kept spill 30 c d1 f.others f.block other given (no_register spill 30 other given (omega arith));
        areas = p.changes.areas ∙ ap (λ block. values_at block spill words) (a.block ∙ f.block);
      }
    where
      register-block : (spill : ℕ) (to : Home) → IsHome spill to → register_of 30 to ≢ 10
      register-block spill (home.Register number) there e = grind (arith, nat_tests)
      register-block spill (home.Spill word) there e = omega (arith, e)

  repay-by : (b : Bool) (at : ℕ) (to : Home) (owed : ℤ) (c : Config) → int_eq owed (pos 0) ≡ b → HasBlock base spill words c
      → IsHome spill to → StandsAt lines at (repay_lines to owed) → c.pc ≡ address_of at → Repaid lines base spill words at to owed c
  repay-by true at to owed c e block there stands pc = repay-none at to owed c block e pc
  repay-by false at to owed c e block there stands pc = repay-some at to owed c block there e (rw e at stands) pc

  pub repay : (at : ℕ) (to : Home) (owed : ℤ) (c : Config) → HasBlock base spill words c → IsHome spill to
      → StandsAt lines at (repay_lines to owed) → c.pc ≡ address_of at → Repaid lines base spill words at to owed c
  repay at to owed c = repay-by (int_eq owed (pos 0)) at to owed c refl

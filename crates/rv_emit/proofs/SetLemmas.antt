-- Lines that set the home of a register to a number: at the start of a loop, and behind each turn.
use Rattle.std.specs.Prelude.{◌≡◌, ℕ, ◌+◌, ◌^◌, ◌<◌, false, ℤ, ◌+ℤ◌, FitsSigned, List, [], ◌∷◌, length}
use Rattle.std.specs.Int.{w64}
use Rattle.std.proofs.Common.{refl, ap, sym, subst, ◌∙◌, arith}
use Rattle.std.proofs.lemmas.Bool.Decides.{nat_tests}
use Rattle.register_map.specs.declared.home.Home.{Home}
use Rattle.register_map.specs.Homes.{IsHome}
use Rattle.rv_line.specs.Fits.{IsImmediate}
use Rattle.rv_line.specs.declared.line.Line.{Line}
use Rattle.rv_line.specs.declared.line.Line.TheVariants.{Imm as ImmLine}
use Rattle.rv_line.specs.declared.line.Imm.TheVariants.{Addi}
use Rattle.rv_steps.specs.Constants.{constant_lines}
use Rattle.rv_steps.specs.Effects.{word_of}
use Rattle.rv_steps.specs.Good.{values_at}
use Rattle.rv_steps.specs.Machine.{Config, Goes, IsAt, address_of, next_step, register_at, with_register, with_result}
use Rattle.rv_steps.specs.Pieces.{StandsAt}
use Rattle.rv_steps.specs.Registers.{is_among}
use Rattle.rv_steps.specs.Wrapped.{wrapped}
use Rattle.rv_emit.specs.Handling.{Changes, Fetching, Putting}
use Rattle.rv_emit.specs.MachineLaws.{MachineLaws}
use Rattle.rv_emit.specs.Moving.{fetch_lines, put_lines, register_of}
use Rattle.rv_emit.specs.Showing.{HasBlock, HasRoom, held_in}
use Rattle.rv_emit.proofs.SimulateLemmas.{KeepsBut, Ran, among-but, among-two, block-kept, held-kept, home-apart, home-below}
use Rattle.rv_emit.proofs.SimulateLemmas.{keeps-from, keeps-on, ran, ran-then}

-- ---- a home is put behind lines that leave the others alone

pub record Sets (lines : List Line) (base spill words n to : ℕ) (home : Home) (value : ℕ) (c : Config) : Type 0 where
  pub run : Ran lines base spill n to c
  pub changes : Changes base spill words home value c run.last
  pub register : register_at run.last.registers (register_of 30 home) ≡ value

module _ (laws : MachineLaws) (put : Putting) (lines : List Line) (base spill words : ℕ) (room : HasRoom base spill words) where
  pub put-behind : (n at : ℕ) (home : Home) (value : ℕ) (c : Config) → HasBlock base spill words c → IsHome spill home
      → (first : Ran lines base spill n at c) → KeepsBut (register_of 30 home) c first.last
      → register_at first.last.registers (register_of 30 home) ≡ value → value < 2 ^ 64
      → StandsAt lines at (put_lines home)
      → Sets lines base spill words (n + length (put_lines home)) (at + length (put_lines home)) home value c
  put-behind n at home value c has is first keeps holds small stands =
      let middle = first.last in
      let still : HasBlock base spill words middle =
      block-kept base spill words (register_of 30 home) c middle (home-apart spill 30 home (omega arith) is) keeps has in
      let puts = put lines base spill words at home middle room still is stands first.there
      (subst (λ n. n < 2 ^ 64) (sym holds) small) in
      let last = puts.run.last in
      let below = home-below spill 30 home (omega arith) is in
      record {
        run = ran-then laws lines base spill n (length (put_lines home)) at (at + length (put_lines home)) c first
            (ran lines base spill at (put_lines home) middle puts.run);
        changes = record {
          block = puts.changes.block;
          here = puts.changes.here ∙ holds;
          others = λ other there apart. puts.changes.others other there apart ∙ held-kept spill home other c middle keeps there apart;
          areas = puts.changes.areas ∙ ap (λ block. values_at block spill words) keeps.block;
        };
        register = puts.others.same (register_of 30 home) (beside (register_of 30 home) below) ∙ holds;
      }
    where
      beside : (r : ℕ) → r < 31 → is_among r (31 ∷ []) ≡ false
      beside r low = grind (arith, nat_tests)

-- ---- constants

pub record Fixed (lines : List Line) (base spill n to r value : ℕ) (c : Config) : Type 0 where
  pub run : Ran lines base spill n to c
  pub keeps : KeepsBut r c run.last
  pub holds : register_at run.last.registers r ≡ value

pub fixed : (laws : MachineLaws) (lines : List Line) (base spill at r : ℕ) (value : ℤ) (c : Config)
    → StandsAt lines at (constant_lines r value) → 0 < r → r < length c.registers → FitsSigned w64 value → c.pc ≡ address_of at
    → Fixed lines base spill (length (constant_lines r value)) (at + length (constant_lines r value)) r (wrapped value) c
fixed laws lines base spill at r value c stands some below fits pc =
    let n = length (constant_lines r value) in
    let d : Config = record { registers = with_register c.registers r (word_of value); pc = address_of (at + n); block = c.block } in
    record {
      run = record {
        last = d;
        accesses = [];
        leads = laws.constant lines base at r value c stands some below fits pc;
        there = refl;
        in_order = refl;
      };
      keeps = keeps-from r (r ∷ []) c d (laws.agree_one c.registers r (word_of value)) refl (λ s low apart. among-but s r low apart);
      holds = laws.set c.registers r (word_of value) some below ∙ laws.signed value fits;
    }

-- ---- a register that counts

pub counted-on : (laws : MachineLaws) (lines : List Line) (base spill at r : ℕ) (value by : ℤ) (c : Config)
    → StandsAt lines at (ImmLine Addi r r by ∷ []) → 0 < r → r < length c.registers → IsImmediate by
    → register_at c.registers r ≡ wrapped value
    → c.pc ≡ address_of at → Fixed lines base spill 1 (at + 1) r (wrapped (value +ℤ by)) c
counted-on laws lines base spill at r value by c stands some below small holds pc =
    let line : Line = ImmLine Addi r r by in
    let d = with_result c r (wrapped (value +ℤ by)) in
    let is : IsAt lines (at + 0) line c =
    record { at = pc ∙ omega arith; there = laws.there lines at (line ∷ []) 0 stands (omega arith) } in
    let goes : next_step lines base c ≡ Goes d = laws.addi lines base (at + 0) r c r value by is holds small in
    let end : c.pc + 4 ≡ address_of (at + 1) = omega (arith, pc) in
    record {
      run = record {
        last = d;
        accesses = [];
        leads = laws.line lines base (at + 0) 0 line c d d [] is goes (laws.none lines base d);
        there = end;
        in_order = refl;
      };
      keeps = keeps-from r (r ∷ []) c d (laws.agree_one c.registers r (wrapped (value +ℤ by))) refl
          (λ s low apart. among-but s r low apart);
      holds = laws.set c.registers r (wrapped (value +ℤ by)) some below;
    }

-- ---- what is fetched, from a home to its register

pub fetched : (fetch : Fetching) (lines : List Line) (base spill words at : ℕ) (home : Home) (c : Config)
    → HasRoom base spill words → HasBlock base spill words c → IsHome spill home
    → StandsAt lines at (fetch_lines 30 home) → c.pc ≡ address_of at
    → Fixed lines base spill (length (fetch_lines 30 home)) (at + length (fetch_lines 30 home)) (register_of 30 home) (held_in c home) c
fetched fetch lines base spill words at home c room has is stands pc =
    let f = fetch lines base spill words at 30 home c room has is (omega arith) (omega arith) stands pc in
    record {
      run = ran lines base spill at (fetch_lines 30 home) c f.run;
      keeps = keeps-from (register_of 30 home) (30 ∷ 31 ∷ []) c f.run.last f.others f.block
          (λ s low apart. among-two s 30 31 (register_of 30 home) low apart (omega arith) (omega arith));
      holds = f.value;
    }

-- two runs that fix the same register
pub fixed-on : (laws : MachineLaws) (lines : List Line) (base spill m n middle to r one value : ℕ) (c : Config)
    → (first : Fixed lines base spill m middle r one c) → Fixed lines base spill n to r value first.run.last
    → Fixed lines base spill (m + n) to r value c
fixed-on laws lines base spill m n middle to r one value c first second = record {
  run = ran-then laws lines base spill m n middle to c first.run second.run;
  keeps = keeps-on r c first.run.last second.run.last first.keeps second.keeps;
  holds = second.holds;
}

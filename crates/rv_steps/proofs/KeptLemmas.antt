-- What every step keeps: how many registers and bytes there are, and that they hold words and bytes.
use Rattle.std.proofs.Common.{◌≡◌, ℕ, zero, suc, ◌+◌, ◌-◌, ◌^◌, ◌<◌, List, length, Some, ℤ, refl, sym, ap, ◌∙◌, arith}
use Rattle.std.proofs.Math.Nat.{mod-lt}
use Rattle.std.proofs.lemmas.Option.{slice_get_within}
use Rattle.std.specs.Prelude.{All, slice_get, FitsSigned}
use Rattle.std.specs.Int.{w32}
use Rattle.rv_line.specs.declared.line.Line.{Line}
use Rattle.rv_line.specs.declared.line.Imm.{Imm}
use Rattle.rv_steps.specs.Effects.{upper_value, load_width, store_width}
use Rattle.rv_steps.specs.Machine.{Config, IsValid, IsAt, access_of, AccessAllowed, address, Goes, effect, next_step, register_at}
use Rattle.rv_steps.specs.Stops.{Reaches}
use Rattle.rv_steps.proofs.MemoryLemmas.{length-with_register, length-with_value, register_at-below, with_register-words, bytes_stay, value-below}
use Rattle.rv_steps.proofs.WordLemmas.{three_value-below, immediate_value-below, upper_value-below, load_value-below}
use Rattle.rv_steps.proofs.StepLemmas.{next_step-goes}
use Rattle.rv_steps.proofs.RunLemmas.{first_step, reaches_zero}

effect-registers : (base : ℕ) (line : Line) (c : Config) → length (effect base line c).registers ≡ length c.registers
effect-registers base (Line.Three code to left right) c = length-with_register c.registers to _
effect-registers base (Line.Imm code to from imm) c = length-with_register c.registers to _
effect-registers base (Line.Load code to imm pointer) c = length-with_register c.registers to _
effect-registers base (Line.Lui to imm) c = length-with_register c.registers to _
effect-registers base (Line.Auipc to imm) c = length-with_register c.registers to _
effect-registers base (Line.Jal to target) c = length-with_register c.registers to _
effect-registers base (Line.Jalr to imm pointer) c = length-with_register c.registers to _
effect-registers base line c = refl

effect-block : (base : ℕ) (line : Line) (c : Config) → AccessAllowed base (length c.block) (access_of line c.registers) → length (effect base line c).block ≡ length c.block
effect-block base (Line.Store code from imm pointer) c h =
    length-with_value (store_width code) c.block (address c.registers pointer imm - base) (register_at c.registers from) (let a = h.above in let b = h.below in omega arith)
effect-block base line c h = refl

module _ (lines : List Line) (base : ℕ) where
  pub step-lengths : (c d : Config) → next_step lines base c ≡ Goes d → (length d.registers ≡ length c.registers) × (length d.block ≡ length c.block)
  step-lengths c d h =
      let g = next_step-goes lines base c d h in
      (ap (λ (e : Config). length e.registers) g.4 ∙ effect-registers base g.1 c, ap (λ (e : Config). length e.block) g.4 ∙ effect-block base g.1 c g.3)

  pub chain-lengths : (n : ℕ) (c d : Config) → Reaches lines base n c d → (length d.registers ≡ length c.registers) × (length d.block ≡ length c.block)
  chain-lengths zero c d r = let e = reaches_zero lines base c d r in (ap (λ (x : Config). length x.registers) (sym e), ap (λ (x : Config). length x.block) (sym e))
  chain-lengths (suc n) c d r =
      let s = first_step lines base n c d r in
      let one = step-lengths c s.0 s.1 in
      let more = chain-lengths n s.0 d s.2 in
      (more.0 ∙ one.0, more.1 ∙ one.1)

module _ (lines : List Line) (base k : ℕ) (c : Config) (small : length lines < 2 ^ 32) (fit : (k : ℕ) (code : Imm) (to from : ℕ) (imm : ℤ) → slice_get lines k ≡ Some (Line.Imm code to from imm) → FitsSigned w32 imm) (words : All (λ value. value < 2 ^ 64) c.registers) (bytes : All (λ byte. byte < 256) c.block) where
  after_line : (line : Line) → IsAt lines k line c → c.pc + 4 < 2 ^ 64
  after_line line at = let p = at.at in let w = slice_get_within lines k line at.there in omega arith

  effect-words : (line : Line) → IsAt lines k line c → All (λ value. value < 2 ^ 64) (effect base line c).registers
  effect-words (Line.Three code to left right) at = with_register-words c.registers to _ (three_value-below code _ _ (register_at-below c.registers left words) (register_at-below c.registers right words)) words
  effect-words (Line.Imm code to from imm) at = with_register-words c.registers to _ (immediate_value-below code _ imm (register_at-below c.registers from words) (fit k code to from imm at.there)) words
  effect-words (Line.Load code to imm pointer) at = with_register-words c.registers to _ (load_value-below code _ (value-below (load_width code) c.block (address c.registers pointer imm - base) bytes)) words
  effect-words (Line.Lui to imm) at = with_register-words c.registers to _ (upper_value-below imm) words
  effect-words (Line.Auipc to imm) at = with_register-words c.registers to _ (mod-lt (c.pc + upper_value imm) (omega arith)) words
  effect-words (Line.Jal to target) at = with_register-words c.registers to _ (after_line (Line.Jal to target) at) words
  effect-words (Line.Jalr to imm pointer) at = with_register-words c.registers to _ (after_line (Line.Jalr to imm pointer) at) words
  effect-words line at = words

  effect-bytes : (line : Line) → All (λ byte. byte < 256) (effect base line c).block
  effect-bytes (Line.Store code from imm pointer) = bytes_stay (store_width code) c.block (address c.registers pointer imm - base) (register_at c.registers from) bytes
  effect-bytes line = bytes

pub step-valid : (lines : List Line) (base : ℕ) (c d : Config) → length lines < 2 ^ 32 → ((k : ℕ) (code : Imm) (to from : ℕ) (imm : ℤ) → slice_get lines k ≡ Some (Line.Imm code to from imm) → FitsSigned w32 imm) → next_step lines base c ≡ Goes d → IsValid c → IsValid d
step-valid lines base c d small fit h valid =
    let g = next_step-goes lines base c d h in
    let moved : IsValid (effect base g.1 c) = record {
      count = effect-registers base g.1 c ∙ valid.count;
      words = effect-words lines base g.0 c small fit valid.words valid.bytes g.1 g.2;
      bytes = effect-bytes lines base g.0 c small fit valid.words valid.bytes g.1;
    } in
    rw g.4 moved

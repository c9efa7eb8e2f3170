-- Pointers: the steps that make them, and the addresses that they give.
use Rattle.std.proofs.Common.{◌≡◌, ◌≢◌, ℕ, ◌+◌, ◌%◌, ◌^◌, ◌<◌, List, [], ◌∷◌, ◌++◌, length, ℤ, pos, ◌+ℤ◌, ◌*ℤ◌, refl, ap, ◌∙◌, arith}
use Rattle.std.proofs.lemmas.Int.{ints, fits_signed_from_abs}
use Rattle.std.specs.Prelude.{FitsSigned}
use Rattle.std.specs.Int.{w64}
use Rattle.rv_line.specs.Fits.{IsImmediate}
use Rattle.rv_line.specs.declared.line.Imm.{Imm}
use Rattle.rv_line.specs.declared.line.Line.{Line}
use Rattle.rv_line.specs.declared.line.Three.{Three}
use Rattle.rv_steps.specs.Accesses.{Leads}
use Rattle.rv_steps.specs.Constants.{constant_lines}
use Rattle.rv_steps.specs.Effects.{word_of}
use Rattle.rv_steps.specs.Machine.{Config, Goes, IsAt, address, address_of, next_step, register_at, with_register, with_result}
use Rattle.rv_steps.specs.Pieces.{StandsAt}
use Rattle.rv_steps.specs.Wrapped.{wrapped}
use Rattle.rv_steps.proofs.AccessLemmas.{leads-quiet, leads-none, leads-more}
use Rattle.rv_steps.proofs.ConstantLemmas.{constant-leads}
use Rattle.rv_steps.proofs.MemoryLemmas.{register_at-with_register_other, register_at-with_register_same}
use Rattle.rv_steps.proofs.PieceLemmas.{piece-back, piece-first, piece-front}
use Rattle.rv_steps.proofs.StepLemmas.{next_step-at_line}
use Rattle.rv_steps.proofs.WrappedLemmas.{word_of-wrapped, wrapped-multiple, wrapped-natural, wrapped-sum}

-- an immediate as a word
small-wrapped : (imm : ℤ) → IsImmediate imm → word_of imm ≡ wrapped imm
small-wrapped imm small = let low = small.low in let high = small.high in word_of-wrapped imm (fits_signed_from_abs w64 imm (omega (arith, ints)))

module _ (registers : List ℕ) (r : ℕ) (z imm : ℤ) (holds : register_at registers r ≡ wrapped z) (small : IsImmediate imm) where
  pub address-wrapped : address registers r imm ≡ wrapped (z +ℤ imm)
  address-wrapped = rw (holds, small-wrapped imm small) (wrapped-sum z imm)

  pub address-place : (base place : ℕ) → z +ℤ imm ≡ pos (base + place) → base + place < 2 ^ 64 → address registers r imm ≡ base + place
  address-place base place same below = address-wrapped ∙ ap wrapped same ∙ wrapped-natural (base + place) below

module _ (lines : List Line) (base k to : ℕ) (c : Config) where
  pub step-addi : (from : ℕ) (z imm : ℤ) → IsAt lines k (Line.Imm Imm.Addi to from imm) c → register_at c.registers from ≡ wrapped z → IsImmediate imm → next_step lines base c ≡ Goes (with_result c to (wrapped (z +ℤ imm)))
  step-addi from z imm at holds small =
      next_step-at_line lines base k c _ at ∙ ap (λ (word : ℕ). Goes (with_result c to word)) (address-wrapped c.registers from z imm holds small)

  pub step-add : (left right : ℕ) (x y : ℤ) → IsAt lines k (Line.Three Three.Add to left right) c → register_at c.registers left ≡ wrapped x → register_at c.registers right ≡ wrapped y → next_step lines base c ≡ Goes (with_result c to (wrapped (x +ℤ y)))
  step-add left right x y at first second =
      let sum = wrapped-sum x y in next_step-at_line lines base k c _ at ∙ rw (first, second, sum) refl

  pub step-slli : (from amount : ℕ) (x : ℤ) → IsAt lines k (Line.Imm Imm.Slli to from (pos amount)) c → amount < 64 → register_at c.registers from ≡ wrapped x → next_step lines base c ≡ Goes (with_result c to (wrapped (pos (2 ^ amount) *ℤ x)))
  step-slli from amount x at few holds =
      let same : amount % 64 ≡ amount = omega arith in
      let times = wrapped-multiple (2 ^ amount) x in
      next_step-at_line lines base k c _ at ∙ rw (holds, same, times) refl

-- a stride of any size, which a second register holds
pub leads-stride : (lines : List Line) (base k scratch to from : ℕ) (z stride : ℤ) (c : Config) → StandsAt lines k (constant_lines scratch stride ++ Line.Three Three.Add to from scratch ∷ []) → 0 < scratch → scratch < length c.registers → from ≢ scratch → FitsSigned w64 stride → register_at c.registers from ≡ wrapped z → c.pc ≡ address_of k → Leads lines base (length (constant_lines scratch stride) + 1) c (record { registers = with_register (with_register c.registers scratch (word_of stride)) to (wrapped (z +ℤ stride)); pc = address_of (k + length (constant_lines scratch stride) + 1); block = c.block }) []
leads-stride lines base k scratch to from z stride c stands some there apart fits holds pc =
    let n = length (constant_lines scratch stride) in
    let add : Line = Line.Three Three.Add to from scratch in
    let held = with_register c.registers scratch (word_of stride) in
    let d : Config = record { registers = held; pc = address_of (k + n); block = c.block } in
    let e : Config = record { registers = with_register held to (wrapped (z +ℤ stride)); pc = address_of (k + n + 1); block = c.block } in
    let first = constant-leads lines base k scratch stride c (piece-front lines k (constant_lines scratch stride) (add ∷ []) stands) some there fits pc in
    let left : register_at held from ≡ wrapped z = register_at-with_register_other c.registers scratch (word_of stride) from apart ∙ holds in
    let right : register_at held scratch ≡ wrapped stride = register_at-with_register_same c.registers scratch (word_of stride) some there ∙ word_of-wrapped stride fits in
    let sum = wrapped-sum z stride in
    let on : address_of (k + n) + 4 ≡ address_of (k + n + 1) = omega arith in
    let at : IsAt lines (k + n) add d = record { at = refl; there = piece-first lines (k + n) add [] (piece-back lines k (constant_lines scratch stride) (add ∷ []) stands) } in
    leads-more lines base n 1 c d e [] [] first (leads-quiet lines base 0 (k + n) add d e e [] at refl (rw (left, right, sum, on) refl) (leads-none lines base e))

-- Pointers that walk.
use Rattle.std.proofs.Common.{◌≡◌, ℕ, ◌+◌, ◌%◌, ◌^◌, ◌<◌, pos, List, refl, ◌∙◌, arith}
use Rattle.rv_line.specs.declared.line.Line.{Line}
use Rattle.rv_line.specs.declared.line.Imm.{Imm}
use Rattle.rv_steps.specs.Machine.{Config, Goes, IsAt, next_step, register_at, with_result}
use Rattle.rv_steps.proofs.StepLemmas.{next_step-at_line}

pub walk-within : (lines : List Line) (base k : ℕ) (c : Config) (r stride address next : ℕ) → IsAt lines k (Line.Imm Imm.Addi r r (pos stride)) c → register_at c.registers r ≡ address → address + stride ≡ next → next < 2 ^ 64 → next_step lines base c ≡ Goes (with_result c r next)
walk-within lines base k c r stride address next at holds on below =
    let same : (address + stride) % 2 ^ 64 ≡ next = omega arith in
    next_step-at_line lines base k c _ at ∙ rw (holds, same) refl

pub walk-wrapping : (lines : List Line) (base k : ℕ) (c : Config) (r stride address next : ℕ) → IsAt lines k (Line.Imm Imm.Addi r r (pos stride)) c → register_at c.registers r ≡ address % 2 ^ 64 → address + stride ≡ next → next_step lines base c ≡ Goes (with_result c r (next % 2 ^ 64))
walk-wrapping lines base k c r stride address next at holds on =
    let same : (address % 2 ^ 64 + stride) % 2 ^ 64 ≡ next % 2 ^ 64 = omega arith in
    next_step-at_line lines base k c _ at ∙ rw (holds, same) refl

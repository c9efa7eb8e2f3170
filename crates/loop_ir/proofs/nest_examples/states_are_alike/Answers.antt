use Rattle.std.specs.Prelude.{◌≡◌, unsigned_abs}
use Rattle.std.proofs.Common.{ap, arith, refl}
use Rattle.loop_ir.specs.Running.{Pointer, Register}
use Rattle.loop_ir.proofs.nest_examples.states_are_alike.Goals as goal

pub returns-clause-needed_register : goal.returns-clause-needed_register
returns-clause-needed_register c = λ alike. let e : 10 ≡ 7 = ap unsigned_abs (alike.held (Register 1) refl) in omega (arith, e)

pub returns-clause-needed_place : goal.returns-clause-needed_place
returns-clause-needed_place c = λ alike. let e : 2 ≡ 7 = ap unsigned_abs (alike.held (Pointer 2) refl) in omega (arith, e)

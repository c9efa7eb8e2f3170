use Rattle.std.specs.Prelude.{◌^◌, ◌<◌}
use Rattle.std.proofs.Common.{arith}
use Rattle.loop_ir.proofs.nest_examples.numbers_fit.Goals as goal

pub returns-clause-register : goal.returns-clause-register
returns-clause-register c = λ fit. let below : 2 ^ 63 < 2 ^ 63 = (fit.registers 1).sfits in omega (arith, below)

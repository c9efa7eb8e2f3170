use Rattle.rv_steps.proofs.MemoryLemmas.{register_at-zero, register_at-with_register_same, register_at-with_register_other, register_at-with_register, length-with_register}
use Rattle.rv_steps.proofs.machine_laws.registers_are_kept.Goals as goal

pub returns : goal.returns
returns c = record { zero = register_at-zero; same = register_at-with_register_same; other = register_at-with_register_other; any = register_at-with_register; len = length-with_register }

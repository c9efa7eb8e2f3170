use Rattle.rv_steps.proofs.FrameLemmas.{run-agrees, run-byte, run-value, run-values}
use Rattle.rv_steps.proofs.frame_laws.runs_keep_the_rest.Goals as goal

pub returns : goal.returns
returns c = record { registers = run-agrees; byte = run-byte; value = run-value; values = run-values }

use Rattle.rv_steps.proofs.FrameLemmas.{step-agrees, step-block, step-byte}
use Rattle.rv_steps.proofs.frame_laws.steps_keep_the_rest.Goals as goal

pub returns : goal.returns
returns c = record { registers = step-agrees; block = step-block; byte = step-byte }

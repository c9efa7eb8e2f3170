use Rattle.rv_steps.proofs.FrameLemmas.{free-keeps}
use Rattle.rv_steps.proofs.frame_laws.free_lines_keep.Goals as goal

pub returns : goal.returns
returns c = record { kept = free-keeps }

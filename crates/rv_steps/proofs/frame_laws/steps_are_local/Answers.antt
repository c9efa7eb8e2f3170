use Rattle.rv_steps.proofs.FrameLemmas.{step-local}
use Rattle.rv_steps.proofs.frame_laws.steps_are_local.Goals as goal

pub returns : goal.returns
returns c = record { local = λ lines base k d e line block at goes sized agree. step-local lines base k d e line at goes block sized agree }

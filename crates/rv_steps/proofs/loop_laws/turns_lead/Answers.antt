use Rattle.rv_steps.specs.Accesses.{Leads, LeadsWithin}
use Rattle.rv_steps.proofs.AccessLemmas.{leads-more, leads-none, within-more, within-none}
use Rattle.rv_steps.proofs.LoopLemmas.{turns-chain}
use Rattle.rv_steps.proofs.loop_laws.turns_lead.Goals as goal

pub returns : goal.returns
returns g c = record {
  exact = λ given lines base size. turns-chain (Leads lines base) (leads-none lines base) (leads-more lines base) (g.I.Invariant.holds given) size;
  within = λ given lines base most. turns-chain (LeadsWithin lines base) (within-none lines base) (within-more lines base) (g.I.Invariant.holds given) most;
}

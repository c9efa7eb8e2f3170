use Rattle.std.proofs.Common.{arith}
use Rattle.rv_line.specs.declared.line.Line.{Line}
use Rattle.rv_emit.proofs.FillLemmas.{one_more}
use Rattle.rv_emit.proofs.few.Few.push.Goals as goal

pub invariant_of-self : goal.invariant_of-self
invariant_of-self c = one_more Line.Fence 8 c.self.inside.places c.self.inside.count c.args.line c.self.invariant (grind arith)

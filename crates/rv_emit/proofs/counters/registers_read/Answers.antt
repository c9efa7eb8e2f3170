use Rattle.std.specs.Prelude.{[]}
use Rattle.std.proofs.Common.{subst}
use Rattle.loop_ir.specs.Pool.{tree}
use Rattle.rv_emit.specs.Programs.{Takes, read_by}
use Rattle.rv_emit.proofs.ReadLemmas.{taken-are-read}
use Rattle.rv_emit.proofs.counters.registers_read.Goals as goal

pub returns : goal.returns
returns c = λ number.
    let new = c.read_list.new.registers.keys in
    let steps = tree c.args.nest.now in
    let taken : Takes (read_by steps) [] new = subst (λ old. Takes (read_by steps) old new) c.new-registers.ensures.empty
    c.in_ok-read_list.ensures in
    taken-are-read steps new taken number

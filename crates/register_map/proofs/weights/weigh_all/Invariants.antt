use Rattle.std.proofs.Common.{take}
use Rattle.register_map.specs.Codes.{Weighs}
use Rattle.register_map.proofs.weights.weigh_all.Given as goal

abbrev pub invariant-loop-code : goal.invariant-loop-code
invariant-loop-code l = Weighs (take l.code-index l.codes) l.fn.weights.entries l.weights.entries

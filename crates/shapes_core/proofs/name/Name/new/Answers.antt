use Rattle.std.proofs.Common.{subst, sym, arith}
use Rattle.shapes_core.specs.Name.{IsName}
use Rattle.shapes_core.proofs.NameLemmas.{length-IsName}
use Rattle.shapes_core.proofs.PaddedLemmas.{filled, filled_front}
use Rattle.shapes_core.proofs.name.Name.new.Goals as goal

pub invariant_of-result : goal.invariant_of-result
invariant_of-result c =
    let bytes = c.args.bytes.now in
    let copied = c.copy_from_slice.new.self in
    let name : IsName bytes = grind arith in (
      filled 0 64 bytes copied c.copy_from_slice.ensures.after (length-IsName bytes name),
      subst (λ list. IsName list) (sym (filled_front bytes copied _ c.copy_from_slice.ensures.after)) name,
    )

use Rattle.std.proofs.Common.{◌<◌, ap, subst, sym, length}
use Rattle.std.specs.List.{AllByRecursion}
use Rattle.shapes_core.specs.Limits.{most_items}
use Rattle.stride_form.specs.Pool.{op_operands}
use Rattle.stride_form.specs.Writing.{IsOpPool, Written}
use Rattle.stride_form.proofs.OpPoolLemmas.{pool-grown}
use Rattle.stride_form.proofs.writer.Writer.push.Goals as goal

pub invariant_of-self-2 : goal.invariant_of-self-2
invariant_of-self-2 c =
    let terms = c.self.inside.terms.items in
    let same = ap (λ (w : Written). w.terms) (sym c.self.view_is) in
    subst IsOpPool (sym c.in_ok-push_term.ensures.added)
    (pool-grown terms c.args.term c.self.invariant
    (subst (λ list. length list < most_items) same c.requires.room)
    (subst (λ list. AllByRecursion (λ operand. operand < length list) (op_operands c.args.term)) same c.requires.below))

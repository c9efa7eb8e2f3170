use Rattle.std.proofs.Common.{◌≤◌}
use Rattle.normal_form.specs.Pool.{form_at, forms}
use Rattle.stride_form.specs.Chains.{IsDown}
use Rattle.stride_form.proofs.writing.open_chain.Given as goal

abbrev pub invariant-loop-binding : goal.invariant-loop-binding
invariant-loop-binding l =
    (l.number ≤ l.fn.number)
    × IsDown (form_at (forms l.normal.terms) l.fn.number) (form_at (forms l.normal.terms) l.number) l.pile.items l.fn.writer l.writer

abbrev pub decreases-loop-binding : goal.decreases-loop-binding
decreases-loop-binding l = l.number

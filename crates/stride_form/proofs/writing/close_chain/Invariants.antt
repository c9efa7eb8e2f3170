use Rattle.std.proofs.Common.{◌≡◌, ◌≤◌, ◌+◌, ℕ, List, length}
use Rattle.shapes_core.specs.Limits.{most_items}
use Rattle.stride_form.specs.declared.op_term.OpTerm.{OpTerm}
use Rattle.stride_form.specs.Chains.{AreOpen, AreSmall}
use Rattle.stride_form.specs.Facts.{Facts}
use Rattle.stride_form.specs.Operational.{Operational}
use Rattle.stride_form.specs.Small.{Flags}
use Rattle.stride_form.proofs.writing.close_chain.Given as goal

abbrev pub invariant-loop-bound : goal.invariant-loop-bound
invariant-loop-bound l =
    AreSmall l.pile.items × ((1 + l.number ≡ length l.writer.terms) × ((length l.writer.terms + length l.pile.items ≤ most_items)
    × ((facts : Facts) → (flags : Flags) → (whole : Operational) → (first : List OpTerm) → (most : ℕ)
    → AreOpen facts flags l.fn.pile.items whole first most l.fn.writer l.fn.number
    → AreOpen facts flags l.pile.items whole first most l.writer l.number)))

abbrev pub decreases-loop-bound : goal.decreases-loop-bound
decreases-loop-bound l = length l.pile.items

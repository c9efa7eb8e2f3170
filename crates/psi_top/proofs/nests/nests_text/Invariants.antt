use Rattle.std.proofs.Common.{◌≡◌}
use Rattle.shape_check.specs.Judged.{items_in}
use Rattle.psi_top.specs.Shown.{nest_first}
use Rattle.psi_top.proofs.nests.nests_text.Given as goal

-- the jobs so far
abbrev pub invariant-loop-number : goal.invariant-loop-number
invariant-loop-number l = l.text.items ≡ nest_first (items_in l.checked.pools) l.number

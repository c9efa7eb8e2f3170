use Rattle.std.proofs.Common.{◌≡◌, ◌++◌, drop, take}
use Rattle.rv_emit.specs.Walks.{with_walk}
use Rattle.rv_emit.proofs.owed.walk.Given as goal

abbrev pub invariant-loop-place : goal.invariant-loop-place
invariant-loop-place l =
    (l.owed ≡ l.fn.owed)
    × (take l.place l.fn.owed.items ++ with_walk (drop l.place l.fn.owed.items) l.fn.home l.fn.words
    ≡ with_walk l.fn.owed.items l.fn.home l.fn.words)

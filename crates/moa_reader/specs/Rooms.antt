-- How much may still be built: each node, number and statement takes a lexeme of the text. This project's own.
use Rattle.std.specs.Prelude.{ℕ, ◌+◌, ◌<◌, ◌≤◌, length}
use Rattle.shapes_core.specs.Limits.{most_items}
use Rattle.moa_tree.specs.Pools.{Pools}
use Rattle.moa_reader.specs.declared.heads.Head.{Head}
use Rattle.moa_reader.specs.declared.heads.Head.TheVariants as head
use Rattle.moa_reader.specs.Sources.{Ahead}

-- how many nodes, numbers and statements there are
unfoldable pub built : Pools → ℕ
built pools = length pools.nodes + length pools.numbers + length pools.statements

-- how many nodes are still to come of what an expression begins with, besides those of its operands
abbrev pub begun : Head → ℕ
begun (head.Whole number) = 0
begun (head.Begun frame) = 1

-- what is built, what more is to come of lexemes that were read, and one thing for each lexeme that is left, are few
abbrev pub HasRoom : ℕ → Ahead → Pools → Type 0
HasRoom more here pools = more + built pools + length here.behind < most_items

-- they are no more than they were
abbrev pub Spends : ℕ → Ahead → Pools → ℕ → Ahead → Pools → Type 0
Spends more old before still new behind =
    still + built behind + length new.behind ≤ more + built before + length old.behind

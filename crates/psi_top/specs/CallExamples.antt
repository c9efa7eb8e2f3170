-- Shelves, sinks and a program, for examples. This project's own.
use Rattle.std.specs.Prelude.{ℕ, List, [], ◌∷◌, pos, Some, None}
use Rattle.std.specs.FinMap.{empty}
use Rattle.moa_tree.specs.Examples.{program}
use Rattle.moa_tree.specs.Expr.{Tree, Two}
use Rattle.moa_tree.specs.declared.operator.Op.TheVariants as op
use Rattle.psi_rules.specs.RuleExamples.{a, b, in_a, in_b, out_c}
use Rattle.psi_top.specs.Views.{ShelfView, SinkView}

-- a sink that holds nothing, and what becomes of it where these bytes were put, and where a put failed behind them
abbrev pub idle : SinkView
idle = record { held = Some []; faults = 0 }

abbrev pub full : List ℕ → SinkView
full bytes = record { held = Some bytes; faults = 0 }

abbrev pub cut : List ℕ → SinkView
cut bytes = record { held = Some bytes; faults = 1 }

-- a shelf that tells no files, and one that tells that it has none, after so many failed reads, the last of this name, and so many bytes
abbrev pub untold : ℕ → List ℕ → ℕ → ShelfView
untold faults name given = record { files = None; faults = faults; failed_name = name; given = given }

abbrev pub told : ℕ → List ℕ → ℕ → ShelfView
told faults name given = record { files = Some empty; faults = faults; failed_name = name; given = given }

-- the sum of two lists of three elements
abbrev pub added : Tree
added = program (in_a (pos 3 ∷ []) ∷ in_b (pos 3 ∷ []) ∷ out_c (Two op.Add a b) ∷ [])

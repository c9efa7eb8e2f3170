use Rattle.std.proofs.Common.{◌≡◌, ℕ, List, [], ◌∷◌, refl, ap, arith, codes}
use Rattle.std.specs.Prelude.{slice_index_or}
use Rattle.std.specs.FinMap.{empty, get-empty}
use Rattle.psi_top.specs.Line.{cannot_read_line}
use Rattle.psi_top.specs.Outcome.{IsOutcome, Outcome, line_of}
use Rattle.psi_top.specs.Outcome.IsOutcome.{usage, missing}
use Rattle.psi_top.specs.Outcome.Outcome.{Refuses}
use Rattle.psi_top.specs.declared.command.Task.TheVariants as task
use Rattle.psi_top.proofs.ExampleLemmas.{misuse}
use Rattle.psi_top.proofs.call_examples.outcomes_are_told.Goals as goal

-- a byte of the line of an outcome
abbrev byte_of : ℕ → Outcome → ℕ
byte_of place outcome = slice_index_or (line_of outcome) place 0

missing_a : IsOutcome (codes "check" ∷ codes "a" ∷ []) empty empty (Refuses 2 (cannot_read_line (codes "a"))) 0
missing_a = missing {task = task.Check} (record { form = refl; short = omega arith }) (get-empty _ _)

pub returns-clause-usage : goal.returns-clause-usage
returns-clause-usage c = λ files later. usage misuse

pub returns-clause-other_line : goal.returns-clause-other_line
returns-clause-other_line c = λ files later other.
    omega (arith, ap (byte_of 0) (c.one_outcome.ensures [] files later _ _ _ _ (usage misuse) other).0)

pub returns-clause-read : goal.returns-clause-read
returns-clause-read c = λ files later other.
    omega (arith, (c.one_outcome.ensures [] files later _ _ _ _ (usage misuse) other).1)

pub returns-clause-missing : goal.returns-clause-missing
returns-clause-missing c = missing_a

pub returns-clause-other_name : goal.returns-clause-other_name
returns-clause-other_name c = λ other.
    omega (arith, ap (byte_of 18) (c.one_outcome.ensures _ empty empty _ _ _ _ (missing_a) other).0)

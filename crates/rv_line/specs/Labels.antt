-- Which instructions have a label, as a list with a truth value for each of them and one for the end. This project's own.
use Rattle.std.specs.Prelude.{ℕ, ◌+◌, ◌≤◌, ◌≡◌, Bool, false, List, [], ◌∷◌, length, IfSome, slice_index_or}
use Rattle.rv_line.specs.Emitted.{is_labelled, target_of}
use Rattle.rv_line.specs.declared.line.Line.{Line}

-- every target is an instruction or the end
abbrev pub TargetsWithin : ℕ → List Line → Type 0
TargetsWithin count [] = Unit {0}
TargetsWithin count (line ∷ lines) = IfSome (target_of line) (λ target. target ≤ count) × TargetsWithin count lines

-- for each instruction, and for the end, whether it has a label
pub record AreLabels (lines : List Line) (labelled : List Bool) : Type 0 where
  pub sized : length labelled ≡ length lines + 1
  pub each : (number : ℕ) → number ≤ length lines → slice_index_or labelled number false ≡ is_labelled lines number

-- Lines that come behind others, with the steps that they make.
use Rattle.std.specs.Prelude.{◌≡◌, ℕ, ◌+◌, List, ◌++◌, length}
use Rattle.std.proofs.Common.{ap, ◌∙◌, append_assoc, length-append}
use Rattle.rv_line.specs.declared.line.Line.{Line}
use Rattle.rv_emit.specs.Emitting.{Piece, behind}
use Rattle.rv_emit.specs.Programs.{Emits}

-- one piece behind another
pub emits-behind : (first next : ℕ → Piece) (old mid new : List Line) (steps more : ℕ) → Emits first old mid steps → Emits next mid new more
    → Emits (λ at. behind at (first at) next) old new (steps + more)
emits-behind first next old mid new steps more one two =
    let lines = (first (length old)).lines in
    let at : length mid ≡ length old + length lines = ap length one.0 ∙ length-append old lines in
    let further : next (length mid) ≡ next (length old + length lines) = ap next at in (
      two.0
          ∙ ap (λ (piece : Piece). mid ++ piece.lines) further
          ∙ ap (λ list. list ++ (next (length old + length lines)).lines) one.0
          ∙ append_assoc old lines (next (length old + length lines)).lines,
      ap (λ (n : ℕ). n + more) one.1 ∙ ap (λ (n : ℕ). (first (length old)).steps + n) two.1
          ∙ ap (λ (piece : Piece). (first (length old)).steps + piece.steps) further,
    )

use Rattle.std.proofs.Common.{◌≤◌, ℕ, List, [], length}
use Rattle.std.specs.declared.option.Option.TheVariants.{Some}
use Rattle.shapes_core.specs.declared.area.Declared.{Declared}
use Rattle.array_text.specs.Outcome.{Came, Outcome, Want}
use Rattle.array_text.specs.Sources.{Passes}
use Rattle.array_text.proofs.head.read_extents.Given as goal

abbrev pub invariant-line : goal.invariant-line
invariant-line l = record {
  passes : (declared : List Declared) (came : Came) (name : List ℕ) → Passes declared (Outcome.Goes came (Want.AnExtent l.first name (Some []))) l.initial.source
      (Outcome.Goes came (Want.AnExtent l.first name l.extents)) l.source;
  fewer : length l.source.behind ≤ length l.initial.source.behind;
}

abbrev pub decreases-line : goal.decreases-line
decreases-line l = length l.source.behind

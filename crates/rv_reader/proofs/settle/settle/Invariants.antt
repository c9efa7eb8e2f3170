use Rattle.std.proofs.Common.{◌≡◌, drop, take}
use Rattle.std.specs.Prelude.{map}
use Rattle.rv_reader.specs.Refusals.{settled, targets_refusal}
use Rattle.rv_reader.specs.Views.{drafted}
use Rattle.rv_reader.proofs.settle.settle.Given as goal

abbrev pub invariant-loop-at : goal.invariant-loop-at
invariant-loop-at l = record {
  left : targets_refusal l.body.labels l.at (map drafted (drop l.at l.body.drafts.items)) (drop l.at l.body.places.items) ≡ targets_refusal l.body.labels 0 (map drafted l.body.drafts.items) l.body.places.items;
  done : l.lines.items ≡ map (settled l.body.labels) (map drafted (take l.at l.body.drafts.items));
}

use Rattle.std.proofs.Common.{◌≡◌, ◌≤◌, take}
use Rattle.rv_reader.specs.Cuts.{without_trail}
use Rattle.rv_reader.proofs.cuts.without_trail.Given as goal

abbrev pub invariant-loop-place : goal.invariant-loop-place
invariant-loop-place l = record {
  within : l.len ≤ l.place;
  kept : without_trail (take l.place l.text) ≡ take l.len l.text;
}

use Rattle.std.proofs.Common.{◌≡◌, ◌≤◌, ◌+◌, ◌*◌, ◌++◌, ℕ, take, drop}
use Rattle.shapes_core.specs.Limits.{greatest_extent}
use Rattle.rv_line.specs.Emitted.{areas_text}
use Rattle.rv_line.specs.Fits.{ArePacked}
use Rattle.rv_line.proofs.emitted.push_areas.Given as goal

-- `start` is what `offset` has beyond the spill words
abbrev pub invariant-loop-area : goal.invariant-loop-area
invariant-loop-area l =
    (l.out.items ≡ l.initial.out.items ++ areas_text l.spill (take l.area-index l.areas))
    × ((start : ℕ) × (l.offset ≡ l.spill + start) × (start ≤ greatest_extent * l.area-index) × ArePacked start (drop l.area-index l.areas))

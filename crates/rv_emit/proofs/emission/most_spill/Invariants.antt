use Rattle.std.proofs.Common.{◌≡◌, max, drop, take}
use Rattle.std.specs.List.{AllByRecursion}
use Rattle.register_map.specs.Homes.{IsGiven}
use Rattle.rv_emit.specs.Programs.{most_spill}
use Rattle.rv_emit.proofs.emission.most_spill.Given as goal

abbrev pub invariant-loop-given : goal.invariant-loop-given
invariant-loop-given l =
    (max l.most (most_spill (drop l.given-index l.homes)) ≡ most_spill l.homes) × AllByRecursion IsGiven (take l.given-index l.homes)

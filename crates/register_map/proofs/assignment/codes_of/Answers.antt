use Rattle.std.specs.Prelude.{◌≡◌}
use Rattle.std.specs.BTreeMap.{keys}
use Rattle.std.proofs.Common.{rules, subst, sym}
use Rattle.register_map.specs.Codes.{IsRising}
use Rattle.register_map.proofs.CodeLemmas.{all-from-zero, rising-from-sorted}
use Rattle.register_map.proofs.assignment.codes_of.Goals as goal

pub returns-clause-rising : goal.returns-clause-rising
returns-clause-rising c =
    let same : c.in_ok-codes.codes.items ≡ keys c.args.weights.now = search rules in
    subst (IsRising 0) (sym same) (rising-from-sorted 0 (keys c.args.weights.now) (all-from-zero (keys c.args.weights.now)) c.keys.ensures.ordered)

use Rattle.std.specs.Prelude.{◌≡◌, ◌≤◌, ℕ, Some}
use Rattle.std.proofs.Common.{sym, subst}
use Rattle.std.proofs.lemmas.Result.{IfOk-weaker}
use Rattle.loop_ir.specs.Pool.{tree}
use Rattle.loop_ir.specs.Running.{Key}
use Rattle.register_map.specs.Assigned.{given_to}
use Rattle.register_map.specs.declared.home.Home.TheVariants as home
use Rattle.register_map.specs.Fits.{IsFit, IsRanked}
use Rattle.register_map.specs.Homes.{code, home_of}
use Rattle.register_map.proofs.HomesLemmas.{codes-low, homed, homes-fit, homes-low, homes-ranked, weighed-codes}
use Rattle.register_map.proofs.assignment.assign.Goals as goal

pub homes_of-requires : goal.homes_of-requires
homes_of-requires c =
    let steps = tree c.args.nest.now in
    let codes = c.deref.result.now in
    let are = weighed-codes steps c.in_ok-weights.weights.entries codes _ c.deref.ensures.value c.in_ok-codes.ensures.rising
    c.in_ok-codes.ensures.all c.in_ok-weights.ensures in
    record { rising = are.rising; low = codes-low steps c.deref-2.result.now codes are c.requires }

pub returns-clause-fits : goal.returns-clause-fits
returns-clause-fits c =
    let steps = tree c.args.nest.now in
    let marked = c.deref-2.result.now in
    let codes = c.deref.result.now in
    let are = weighed-codes steps c.in_ok-weights.weights.entries codes _ c.deref.ensures.value c.in_ok-codes.ensures.rising
    c.in_ok-codes.ensures.all c.in_ok-weights.ensures in
    IfOk-weaker c.homes_of.result (λ homes. homes ≡ given_to marked codes) (IsFit steps)
    (λ homes e. subst (IsFit steps) (sym e) (homes-fit steps marked codes are (c.needed_is_named.ensures (homed (given_to marked codes)))))
    c.homes_of.ensures

pub returns-clause-ranked : goal.returns-clause-ranked
returns-clause-ranked c = λ others each.
    let steps = tree c.args.nest.now in
    let marked = c.deref-2.result.now in
    let codes = c.deref.result.now in
    let are = weighed-codes steps c.in_ok-weights.weights.entries codes _ c.deref.ensures.value c.in_ok-codes.ensures.rising
    c.in_ok-codes.ensures.all c.in_ok-weights.ensures in
    IfOk-weaker c.homes_of.result (λ homes. homes ≡ given_to marked codes) (IsRanked others)
    (λ homes e. subst (IsRanked others) (sym e) (homes-ranked steps marked codes are others each))
    c.homes_of.ensures

pub returns-clause-words : goal.returns-clause-words
returns-clause-words c =
    let steps = tree c.args.nest.now in
    let marked = c.deref-2.result.now in
    let codes = c.deref.result.now in
    let are = weighed-codes steps c.in_ok-weights.weights.entries codes _ c.deref.ensures.value c.in_ok-codes.ensures.rising
    c.in_ok-codes.ensures.all c.in_ok-weights.ensures in
    IfOk-weaker c.homes_of.result (λ homes. homes ≡ given_to marked codes)
    (λ homes. (key : Key) (word : ℕ) → home_of homes key ≡ Some (home.Spill word) → word ≤ code key)
    (λ homes e. subst (λ given. (key : Key) (word : ℕ) → home_of given key ≡ Some (home.Spill word) → word ≤ code key) (sym e)
    (homes-low steps marked codes are))
    c.homes_of.ensures

use Rattle.std.proofs.Common.{◌∷◌, [], length, arith, refl, subst, length-append, ap}
use Rattle.stride_form.specs.Chains.{AreOpen, AreSmall}
use Rattle.stride_form.specs.Pool.{op_form_at, op_forms}
use Rattle.stride_form.proofs.ChainLemmas.{closes, last-small, none-left}
use Rattle.stride_form.proofs.writing.close_chain.Goals as goal

pub loop-bound-init : goal.loop-bound-init
loop-bound-init c = (c.requires.small, (c.requires.last, (c.requires.room, λ facts flags whole first most are. are)))

pub close-requires-clause-small : goal.close-requires-clause-small
close-requires-clause-small c =
    let popped = c.in-Some.ensures in
    let all = last-small c.pop.new.self.items c.in-Some.bound (subst AreSmall popped.items c.loop-bound.invariant.0) in
    all.1

pub close-requires-clause-below : goal.close-requires-clause-below
close-requires-clause-below c = omega (arith, c.loop-bound.invariant.1.0)

pub close-requires-clause-room : goal.close-requires-clause-room
close-requires-clause-room c =
    let popped = c.in-Some.ensures in
    omega (arith, c.loop-bound.invariant.1.1.0, ap length popped.items, length-append c.pop.new.self.items (c.in-Some.bound ∷ []))

pub loop-bound-smaller : goal.loop-bound-smaller
loop-bound-smaller c =
    let popped = c.in-Some.ensures in
    omega (arith, ap length popped.items, length-append c.pop.new.self.items (c.in-Some.bound ∷ []))

pub loop-bound-preserved : goal.loop-bound-preserved
loop-bound-preserved c =
    let popped = c.in-Some.ensures in
    let all = last-small c.pop.new.self.items c.in-Some.bound (subst AreSmall popped.items c.loop-bound.invariant.0) in
    let one = c.in_ok-number.ensures (op_form_at (op_forms c.loop-bound.writer.terms) c.loop-bound.number)
    (record { there = omega (arith, c.loop-bound.invariant.1.0); same = refl }) c.loop-bound.invariant.1.0 in (
      all.0,
      (
        one.last,
        (
          omega (arith, one.few, c.loop-bound.invariant.1.1.0, ap length popped.items, length-append c.pop.new.self.items (c.in-Some.bound ∷ [])),
          λ facts flags whole first most are. closes facts flags c.loop-bound.pile.items c.pop.new.self.items c.in-Some.bound whole first most
              c.loop-bound.writer c.close.new.writer c.loop-bound.number c.in_ok-number.number popped.items c.in_ok-number.ensures
              (c.loop-bound.invariant.1.1.1 facts flags whole first most are),
        ),
      ),
    )

pub returns : goal.returns
returns c facts flags whole first most are =
    let popped = c.in_default.ensures in
    subst (λ pile. AreOpen facts flags pile whole first most c.loop-bound.writer c.loop-bound.number)
    (none-left c.loop-bound.pile.items (omega (arith, popped.cases.0)))
    (c.loop-bound.invariant.1.1.1 facts flags whole first most are)

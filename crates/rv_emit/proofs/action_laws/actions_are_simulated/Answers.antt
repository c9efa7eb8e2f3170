use Rattle.loop_ir.specs.Steps.{Action, Copy, One, Place, Read, Set, Spot, Two, Walk, Write}
use Rattle.rv_emit.specs.Simulating.{ActionSimulates}
use Rattle.rv_emit.proofs.action_laws.actions_are_simulated.Goals as goal

pub returns : goal.returns
returns c = each
  where
    each : (action : Action) → ActionSimulates action
    each (Set to value) = c.registers_are_set.ensures.set to value
    each (Copy to from) = c.registers_are_set.ensures.copy to from
    each (One op to from) = c.registers_are_set.ensures.one op to from
    each (Two op to left right) = c.registers_are_set.ensures.two op to left right
    each (Place to word) = c.places_are_set.ensures.place to word
    each (Spot to word by) = c.places_are_set.ensures.spot to word by
    each (Walk place words) = c.places_are_set.ensures.walk place words
    each (Read to area place) = c.words_are_moved.ensures.read to area place
    each (Write area place from) = c.words_are_moved.ensures.write area place from

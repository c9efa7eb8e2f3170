-- What the code's own values stand for: axes, places and steps. This project's own.
use Rattle.std.specs.Prelude.{ℕ, suc, ℤ, pos, ◌+ℤ◌, List, [], ◌∷◌, map}
use Rattle.shapes_core.specs.declared.area.Area.{Area}
use Rattle.shapes_core.specs.Shape.{total}
use Rattle.stride_form.specs.declared.access.Access.{Access}
use Rattle.stride_form.specs.Accesses.{walked}
use Rattle.loop_ir.specs.declared.step.Step.{Step}
use Rattle.loop_ir.specs.declared.step.Step.TheVariants as step
use Rattle.loop_ir.specs.Steps.{Action, Set, Copy, One, Two, Place, Spot, Walk, Read, Write}
use Rattle.nest_build.specs.declared.axes.Axis.{Axis}
use Rattle.nest_build.specs.declared.places.Stand.{Stand}
use Rattle.nest_build.specs.Nests.{Spot as ASpot, start_of}
use Rattle.nest_build.specs.Parts.{Loop, low_of}

abbrev pub loop_of : Axis → Loop
loop_of axis = record { counter = axis.counter; var = axis.var; turns = axis.turns }

abbrev pub loops_of : List Axis → List Loop
loops_of axes = map loop_of axes

abbrev pub spot_of : Stand → ASpot
spot_of stand = record { place = stand.place; word = stand.word; strides = stand.strides }

abbrev pub spots_of : List Stand → List ASpot
spots_of stands = map spot_of stands

-- a step that does no list
abbrev pub step_of : Action → Step
step_of (Set to value) = step.Set to value
step_of (Copy to from) = step.Copy to from
step_of (One op to from) = step.One op to from
step_of (Two op to left right) = step.Two op to left right
step_of (Place to word) = step.Place to word
step_of (Spot to word by) = step.Spot to word by
step_of (Walk place words) = step.Walk place words
step_of (Read to area place) = step.Read to area place
step_of (Write area place from) = step.Write area place from

abbrev pub plain : List Action → List Step
plain actions = map step_of actions

-- the weights of the axes of a shape, as strides of variables from this one on
abbrev pub weights_from : ℕ → List ℕ → List (ℕ × ℤ)
weights_from var [] = []
weights_from var (n ∷ shape) = (var, pos (total shape)) ∷ weights_from (suc var) shape

-- the first word of an access in a region
abbrev pub word_of : List Area → List (ℕ × ℕ) → Access → ℤ
word_of areas region access = pos (start_of areas access.area) +ℤ (access.start +ℤ walked (low_of region) access.strides)

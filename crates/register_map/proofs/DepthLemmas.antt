-- How many lists are behind those that a step names: what falls as a nest is walked.
use Rattle.std.specs.Prelude.{ℕ, suc, ◌*◌, ◌-◌, ◌<◌, max}
use Rattle.std.specs.List.{AllByRecursion}
use Rattle.std.proofs.Common.{arith}
use Rattle.loop_ir.specs.declared.step.Step.{Step}
use Rattle.loop_ir.specs.declared.step.Step.TheVariants as step
use Rattle.loop_ir.specs.Pool.{inner_lists}

abbrev pub ahead : ℕ → Step → ℕ
ahead count (step.For counter turns body) = count - body
ahead count (step.If left below one other) = max (count - one) (count - other)
ahead count _ = 0

pub ahead-falls : (number count : ℕ) (of : Step) → number < count → AllByRecursion (λ inner. (number < inner) × (inner < count)) (inner_lists of)
    → suc (2 * ahead count of) < 2 * (count - number)
ahead-falls number count (step.Set to value) below h = omega arith
ahead-falls number count (step.Copy to from) below h = omega arith
ahead-falls number count (step.One op to from) below h = omega arith
ahead-falls number count (step.Two op to left right) below h = omega arith
ahead-falls number count (step.Place to word) below h = omega arith
ahead-falls number count (step.Spot to word by) below h = omega arith
ahead-falls number count (step.Walk place words) below h = omega arith
ahead-falls number count (step.Read to area place) below h = omega arith
ahead-falls number count (step.Write area place from) below h = omega arith
ahead-falls number count (step.For counter turns body) below h = omega (arith, h.0.0)
ahead-falls number count (step.If left low one other) below h = omega (arith, h.0.0, h.1.0.0)

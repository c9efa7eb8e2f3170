-- What nests cost, where homes are as nests have them.
use Rattle.std.specs.Prelude.{◌≡◌, ℕ, ◌+◌, ◌≤◌, List, [], ◌∷◌, length, Option, None, Some}
use Rattle.std.specs.Option.{unwrap_or}
use Rattle.std.proofs.Common.{refl, arith, length-append}
use Rattle.std.proofs.lemmas.List.Sums.{sum_by-cons}
use Rattle.loop_ir.specs.Costs.{cost, time}
use Rattle.loop_ir.specs.Running.{Key}
use Rattle.loop_ir.specs.Steps.{Steps}
use Rattle.register_map.specs.declared.home.Home.{Home}
use Rattle.register_map.specs.declared.home.Home.TheVariants as home
use Rattle.register_map.specs.Homes.{Given, IsHome, home_of}
use Rattle.rv_emit.specs.Emitting.{Plan, emitted, home_at, plan_of, program}
use Rattle.rv_emit.specs.Pricing.{prices_of, total_cost, total_time}
use Rattle.rv_emit.specs.Simulating.{AreHomed}
use Rattle.rv_emit.proofs.RepayLemmas.{IsClose}
use Rattle.rv_emit.proofs.SiteLemmas.{home-lies}
use Rattle.rv_emit.proofs.SizeLemmas.{steps_lines, steps_time}

found_close : (least spill : ℕ) (found : Option Home) → least ≤ spill → spill ≤ 8192 → ((own : Home) → found ≡ Some own → IsHome least own)
    → IsClose (unwrap_or found (home.Spill 0))
found_close least spill None within few each = omega arith
found_close least spill (Some (home.Register number)) within few each = tt
found_close least spill (Some (home.Spill word)) within few each =
    let below = each (home.Spill word) refl in omega (arith, below, within, few)

-- homes below so many spill words are close
pub homes_close : (plan : Plan) (least : ℕ) → least ≤ plan.spill → plan.spill ≤ 8192
    → ((key : Key) (own : Home) → home_of plan.homes key ≡ Some own → IsHome least own) → (key : Key) → IsClose (home_at plan key)
homes_close plan least within few each key = found_close least plan.spill (home_of plan.homes key) within few (each key)

pub program_lines : (nests : List (Steps × Given)) (spill at : ℕ) → AreHomed spill nests → spill ≤ 8192
    → length (program spill nests at).lines ≤ total_cost nests
program_lines [] spill at ready few = omega arith
program_lines (nest ∷ nests) spill at ready few =
    let plan = plan_of spill nest in
    let close = homes_close plan nest.1.spill ready.0.within few (home-lies nest.0 nest.1 ready.0.given ready.0.fit) in
    let first = emitted plan [] nest.0 at in
    let one = steps_lines plan few close nest.0 ready.0.fit.there [] at in
    let others = program_lines nests spill (at + length first.lines) ready.1 few in
    let lines = length-append first.lines (program spill nests (at + length first.lines)).lines in
    omega (arith, one, others, lines, sum_by-cons (λ (nest : Steps × Given). cost (prices_of nest.1) nest.0) nest nests)

pub program_steps : (nests : List (Steps × Given)) (spill at : ℕ) → AreHomed spill nests → spill ≤ 8192
    → (program spill nests at).steps ≤ total_time nests
program_steps [] spill at ready few = omega arith
program_steps (nest ∷ nests) spill at ready few =
    let plan = plan_of spill nest in
    let close = homes_close plan nest.1.spill ready.0.within few (home-lies nest.0 nest.1 ready.0.given ready.0.fit) in
    let first = emitted plan [] nest.0 at in
    let one = steps_time plan few close nest.0 ready.0.fit.there [] at in
    let others = program_steps nests spill (at + length first.lines) ready.1 few in
    omega (arith, one, others, sum_by-cons (λ (nest : Steps × Given). time (prices_of nest.1) nest.0) nest nests)

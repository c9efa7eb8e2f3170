-- What holds of each home that owes, and of each home of a plan, holds of those that owe behind steps.
use Rattle.std.specs.Prelude.{Bool, true, false, ℤ, ◌+ℤ◌, [], ◌∷◌, if◌then◌else◌}
use Rattle.std.specs.Int.{int_wrap, w64}
use Rattle.std.specs.List.{AllByRecursion}
use Rattle.loop_ir.specs.Running.{Key, Register, Pointer}
use Rattle.loop_ir.specs.Steps.{Action, Set, Copy, One, Two, Place, Spot, Walk, Read, Write, Steps, End, Then, For, If}
use Rattle.register_map.specs.declared.home.Home.{Home}
use Rattle.rv_emit.specs.Emitting.{Plan, home_at, is_offset, near_owed, owed_after, owed_by}
use Rattle.rv_emit.specs.Walks.{Owed, is_home, owed_at, with_walk, without}

abbrev pub EachOwes : (Home → Type 0) → Owed → Type 0
EachOwes G owed = AllByRecursion (λ entry. G entry.0) owed

either_owes : (G : Home → Type 0) (test : Bool) (one other : Owed) → EachOwes G one → EachOwes G other
    → EachOwes G (if test then one else other)
either_owes G true one other p q = p
either_owes G false one other p q = q

pub without_keeps : (G : Home → Type 0) (owed : Owed) (of : Home) → EachOwes G owed → EachOwes G (without owed of)
without_keeps G [] of good = tt
without_keeps G (entry ∷ owed) of good =
    let rest = without_keeps G owed of good.1 in
    either_owes G (is_home entry.0 of) (without owed of) (entry ∷ without owed of) rest (good.0, rest)

pub walk_keeps : (G : Home → Type 0) (owed : Owed) (of : Home) (words : ℤ) → G of → EachOwes G owed → EachOwes G (with_walk owed of words)
walk_keeps G [] of words own good = (own, tt)
walk_keeps G (entry ∷ owed) of words own good =
    either_owes G (is_home entry.0 of) ((entry.0, int_wrap w64 (entry.1 +ℤ words)) ∷ owed) (entry ∷ with_walk owed of words)
    (good.0, good.1) (good.0, walk_keeps G owed of words own good.1)

pub near_keeps : (G : Home → Type 0) (owed : Owed) (of : Home) → EachOwes G owed → EachOwes G (near_owed owed of)
near_keeps G owed of good =
    either_owes G (is_offset (owed_at owed of)) owed (without owed of) good (without_keeps G owed of good)

pub action_keeps : (G : Home → Type 0) (plan : Plan) → ((key : Key) → G (home_at plan key)) → (owed : Owed) (action : Action)
    → EachOwes G owed → EachOwes G (owed_by plan owed action)
action_keeps G plan homes owed (Set to value) good = without_keeps G owed (home_at plan (Register to)) good
action_keeps G plan homes owed (Copy to from) good = without_keeps G owed (home_at plan (Register to)) good
action_keeps G plan homes owed (One code to from) good = without_keeps G owed (home_at plan (Register to)) good
action_keeps G plan homes owed (Two code to left right) good = without_keeps G owed (home_at plan (Register to)) good
action_keeps G plan homes owed (Place to word) good = without_keeps G owed (home_at plan (Pointer to)) good
action_keeps G plan homes owed (Spot to word by) good = without_keeps G owed (home_at plan (Pointer to)) good
action_keeps G plan homes owed (Walk place words) good =
    walk_keeps G owed (home_at plan (Pointer place)) words (homes (Pointer place)) good
action_keeps G plan homes owed (Read to area place) good =
    without_keeps G (near_owed owed (home_at plan (Pointer place))) (home_at plan (Register to))
    (near_keeps G owed (home_at plan (Pointer place)) good)
action_keeps G plan homes owed (Write area place from) good = near_keeps G owed (home_at plan (Pointer place)) good

pub steps_keep : (G : Home → Type 0) (plan : Plan) → ((key : Key) → G (home_at plan key)) → (owed : Owed) (steps : Steps)
    → EachOwes G owed → EachOwes G (owed_after plan owed steps)
steps_keep G plan homes owed End good = good
steps_keep G plan homes owed (Then action rest) good =
    steps_keep G plan homes (owed_by plan owed action) rest (action_keeps G plan homes owed action good)
steps_keep G plan homes owed (For counter turns body rest) good = steps_keep G plan homes [] rest tt
steps_keep G plan homes owed (If left below one other rest) good = steps_keep G plan homes [] rest tt

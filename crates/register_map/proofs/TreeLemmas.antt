-- What holds of each item of lists, and of the lists that the steps of a list name.
use Rattle.std.specs.Prelude.{ℕ, zero, suc, ◌<◌, List, [], ◌∷◌, ◌++◌, length}
use Rattle.std.specs.List.{AllByRecursion, flat_map}
use Rattle.std.proofs.Common.{arith, get_or}
use Rattle.loop_ir.specs.declared.step.Step.{Step}
use Rattle.loop_ir.specs.Pool.{inner_lists}

pub all-weaker : {X : Type 0} {P Q : X → Type 0} → ((x : X) → P x → Q x) → (xs : List X) → AllByRecursion P xs → AllByRecursion Q xs
all-weaker f [] h = tt
all-weaker f (x ∷ xs) h = (f x h.0, all-weaker f xs h.1)

pub all-split : {X : Type 0} (P : X → Type 0) (xs ys : List X) → AllByRecursion P (xs ++ ys) → AllByRecursion P xs × AllByRecursion P ys
all-split P [] ys h = (tt, h)
all-split P (x ∷ xs) ys h = let rest = all-split P xs ys h.1 in ((h.0, rest.0), rest.1)

-- what a step names is named by its list
pub inner-at : (P : ℕ → Type 0) (list : List Step) (i : ℕ) (d : Step) → i < length list → AllByRecursion P (flat_map inner_lists list)
    → AllByRecursion P (inner_lists (get_or list i d))
inner-at P [] i d below h = absurd (omega (arith, below))
inner-at P (one ∷ list) zero d below h = (all-split P (inner_lists one) (flat_map inner_lists list) h).0
inner-at P (one ∷ list) (suc i) d below h =
    inner-at P list i d (omega (arith, below)) (all-split P (inner_lists one) (flat_map inner_lists list) h).1

-- How the names and the areas that come next go on from statement to statement.
use Rattle.std.specs.Prelude.{◌≡◌, ℕ, zero, suc, List, [], ◌∷◌, take, slice_get, Some}
use Rattle.std.specs.List.{fold}
use Rattle.std.proofs.Common.{refl, ap, sym, ◌∙◌}
use Rattle.std.proofs.lemmas.Option.{none-some, same_Some}
use Rattle.moa_tree.specs.Denotation.{Store as Lists, env_after}
use Rattle.moa_tree.specs.Expr.{Item, Input, Let, Output}
use Rattle.moa_tree.specs.Values.{Env, shapes_of as env_shapes}
use Rattle.shape_check.specs.Layout.{shapes_after}
use Rattle.psi_rules.specs.Jobs.{Next, first, named}
use Rattle.psi_rules.specs.Rules.{Names, shapes_of}
use Rattle.psi_rules.specs.Scopes.{Scope, names_at, scope_after, scope_at}

-- a fold over one item more
pub fold-more : {X Y : Type 0} (f : Y → X → Y) (y : Y) (xs : List X) (number : ℕ) (x : X) → slice_get xs number ≡ Some x
    → fold f y (take (suc number) xs) ≡ f (fold f y (take number xs)) x
fold-more f y [] number x e = absurd (none-some x e)
fold-more f y (front ∷ others) zero x e = ap (f y) (same_Some front x e)
fold-more f y (front ∷ others) (suc number) x e = fold-more f (f y front) others number x e

pub scope-step : (items : List Item) (number : ℕ) (item : Item) → slice_get items number ≡ Some item
    → scope_at items (suc number) ≡ scope_after (scope_at items number) item
scope-step items number item e = fold-more scope_after (record { names = []; next = first items }) items number item e

-- ---- shapes

-- the shapes of the names go on as those of the statements do
pub names-shapes : (names : Names) (next : Next) (item : Item) → shapes_of (named names next item ∷ names) ≡ shapes_after (shapes_of names) item
names-shapes names next (Input name extents) = refl
names-shapes names next (Let name of) = refl
names-shapes names next (Output name of) = refl

-- and so do those of the arrays
env-shapes : (inputs : Lists) (env : Env) (item : Item) → env_shapes (env_after inputs env item) ≡ shapes_after (env_shapes env) item
env-shapes inputs env (Input name extents) = refl
env-shapes inputs env (Let name of) = refl
env-shapes inputs env (Output name of) = refl

pub shapes-alike : (inputs : Lists) (env : Env) (names : Names) (next : Next) (item : Item) → env_shapes env ≡ shapes_of names
    → env_shapes (env_after inputs env item) ≡ shapes_of (named names next item ∷ names)
shapes-alike inputs env names next item same =
    env-shapes inputs env item ∙ ap (λ shapes. shapes_after shapes item) same ∙ sym (names-shapes names next item)

shapes-fold : (scope : Scope) (items : List Item) → shapes_of (fold scope_after scope items).names ≡ fold shapes_after (shapes_of scope.names) items
shapes-fold scope [] = refl
shapes-fold scope (item ∷ items) =
    shapes-fold (scope_after scope item) items ∙ ap (λ shapes. fold shapes_after shapes items) (names-shapes scope.names scope.next item)

pub shapes-at : (items : List Item) (number : ℕ) → shapes_of (names_at items number) ≡ fold shapes_after [] (take number items)
shapes-at items number = shapes-fold (record { names = []; next = first items }) (take number items)

-- Where areas begin, and the strides of a job's own array.
use Rattle.std.specs.Prelude.{◌≡◌, ℕ, zero, suc, ◌==◌, nat_lt, ℤ, pos, ◌+ℤ◌, ◌*ℤ◌, List, [], ◌∷◌, length, map, true, false, slice_index_or, ◌<◌, ◌≤◌}
use Rattle.std.specs.List.{range_with_len}
use Rattle.std.proofs.Common.{refl, ap, sym, ◌∙◌, arith, rules, add-one}
use Rattle.std.proofs.lemmas.Int.{ints}
use Rattle.shapes_core.specs.declared.area.Area.{Area}
use Rattle.shapes_core.specs.Shape.{total}
use Rattle.normal_form.specs.Moves.{variable, variables}
use Rattle.stride_form.specs.declared.access.Access.{Access}
use Rattle.stride_form.specs.declared.walk.Walk.{Walk}
use Rattle.stride_form.specs.Accesses.{walk_of, with_entry, with_stride}
use Rattle.nest_build.specs.Coding.{weights_from}
use Rattle.nest_build.specs.Nests.{own_access, start_of}

pub start-there : (areas : List Area) (number : ℕ) (other : Area) → number < length areas
    → (slice_index_or areas number other).start ≡ start_of areas number
start-there [] number other within = absurd (omega arith)
start-there (first ∷ others) zero other within = refl
start-there (first ∷ others) (suc number) other within = start-there others number other (omega arith)

pub start-none : (areas : List Area) (number : ℕ) → length areas ≤ number → 0 ≡ start_of areas number
start-none [] number beyond = refl
start-none (first ∷ others) zero beyond = absurd (omega arith)
start-none (first ∷ others) (suc number) beyond = start-none others number (omega arith)

-- a stride of a variable before all others
in-front : (var : ℕ) (stride : ℤ) (shape : List ℕ) → with_stride var stride (weights_from (suc var) shape) ≡ (var, stride) ∷ weights_from (suc var) shape
in-front var stride [] = refl
in-front var stride (n ∷ shape) =
    let other : (var == suc var) ≡ false = search (rules) in
    let below : nat_lt var (suc var) ≡ true = search (rules) in
    rw (other, below) refl

walk-as : (start other : ℤ) (strides more : List (ℕ × ℤ)) → start ≡ other → strides ≡ more
    → ◌≡◌ {A = Walk} (record { start = start; strides = strides }) (record { start = other; strides = more })
walk-as start other strides more e f = rw (e, f) refl

access-as : (area : ℕ) (start other : ℤ) (strides more : List (ℕ × ℤ)) → start ≡ other → strides ≡ more
    → ◌≡◌ {A = Access} (record { area = area; start = start; strides = strides }) (record { area = area; start = other; strides = more })
access-as area start other strides more e f = rw (e, f) refl

weights-walk : (var : ℕ) (shape : List ℕ)
    → walk_of (map variable (range_with_len var (length shape))) shape ≡ record { start = pos 0; strides = weights_from var shape }
weights-walk var [] = refl
weights-walk var (n ∷ shape) =
    let none : (pos 0 +ℤ pos (total shape) *ℤ pos 0) ≡ pos 0 = omega (arith, ints) in
    ap (λ more. with_entry (pos (total shape)) (variable var) (walk_of (map variable (range_with_len more (length shape))) shape)) (add-one var)
    ∙ ap (with_entry (pos (total shape)) (variable var)) (weights-walk (suc var) shape)
    ∙ walk-as (pos 0 +ℤ pos (total shape) *ℤ pos 0) (pos 0) (with_stride var (pos (total shape)) (weights_from (suc var) shape))
    (weights_from var (n ∷ shape)) none (in-front var (pos (total shape)) shape)

pub own-made : (area : ℕ) (shape : List ℕ) (strides : List (ℕ × ℤ)) → strides ≡ weights_from 0 shape
    → record { area = area; start = pos 0; strides = strides } ≡ own_access area shape
own-made area shape strides e =
    let walk = weights-walk 0 shape in
    access-as area (pos 0) (walk_of (variables (length shape)) shape).start strides (walk_of (variables (length shape)) shape).strides
    (sym (ap (λ w. w.start) walk)) (e ∙ sym (ap (λ w. w.strides) walk))

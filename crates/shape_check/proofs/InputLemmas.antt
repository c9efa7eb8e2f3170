-- The limits of a shape are the same at the name of an input as at a node.
use Rattle.std.proofs.Common.{◌≡◌, ℕ, Bool, true, false, cond, List, [], ◌∷◌, ◌++◌, refl, ap, sym, ◌∙◌, length, map, min, ◌-◌, ◌^◌}
use Rattle.std.specs.Prelude.{nat_lt, Some, Result, Ok, Err}
use Rattle.std.specs.List.{flat_map}
use Rattle.std.proofs.lemmas.List.{map-append}
use Rattle.shapes_core.specs.Limits.{greatest_extent}
use Rattle.shapes_core.specs.Shape.{span}
use Rattle.shape_check.specs.declared.broken.Broken.{Broken}
use Rattle.shape_check.specs.declared.broken.Broken.TheVariants as broken
use Rattle.shape_check.specs.Broken.{IsShaped, located}
use Rattle.shape_check.specs.Progress.{named_verdict}
use Rattle.shape_check.specs.Rules.{Failure, Place, limit, shape_limits}
use Rattle.shape_check.specs.Verdict.{judged}

abbrev moved : Place → Failure → Failure
moved place (Failure.Rule other rule) = Failure.Rule place rule
moved place (Failure.Limit other which value) = Failure.Limit (Some place) which value

abbrev moved_in : {A : Type 0} → Place → Result A Failure → Result A Failure
moved_in place (Ok a) = Ok a
moved_in place (Err failure) = Err (moved place failure)

if-moved : (place other : Place) (which value : ℕ) (b : Bool)
    → cond b (Failure.Limit (Some place) which value ∷ []) [] ≡ map (moved place) (cond b (Failure.Limit (Some other) which value ∷ []) [])
if-moved place other which value true = refl
if-moved place other which value false = refl

limit-moved : (place other : Place) (which greatest value : ℕ) → limit (Some place) which greatest value ≡ map (moved place) (limit (Some other) which greatest value)
limit-moved place other which greatest value = if-moved place other which (min value (2 ^ 64 - 1)) (nat_lt greatest value)

each-moved : (place other : Place) (shape : List ℕ) → flat_map (limit (Some place) 3 greatest_extent) shape ≡ map (moved place) (flat_map (limit (Some other) 3 greatest_extent) shape)
each-moved place other [] = refl
each-moved place other (extent ∷ shape) =
    ap (λ l. l ++ flat_map (limit (Some place) 3 greatest_extent) shape) (limit-moved place other 3 greatest_extent extent)
    ∙ ap (λ l. map (moved place) (limit (Some other) 3 greatest_extent extent) ++ l) (each-moved place other shape)
    ∙ sym (map-append (moved place) (limit (Some other) 3 greatest_extent extent) (flat_map (limit (Some other) 3 greatest_extent) shape))

limits-moved : (place other : Place) (shape : List ℕ) → shape_limits place shape ≡ map (moved place) (shape_limits other shape)
limits-moved place other shape =
    let a = limit (Some other) 2 6 (length shape) in
    let b = flat_map (limit (Some other) 3 greatest_extent) shape in
    let c = limit (Some other) 4 greatest_extent (span shape) in
    ap (λ l. (l ++ flat_map (limit (Some place) 3 greatest_extent) shape) ++ limit (Some place) 4 greatest_extent (span shape)) (limit-moved place other 2 6 (length shape))
    ∙ ap (λ l. (map (moved place) a ++ l) ++ limit (Some place) 4 greatest_extent (span shape)) (each-moved place other shape)
    ∙ ap (λ l. (map (moved place) a ++ map (moved place) b) ++ l) (limit-moved place other 4 greatest_extent (span shape))
    ∙ ap (λ l. l ++ map (moved place) c) (sym (map-append (moved place) a b))
    ∙ sym (map-append (moved place) (a ++ b) c)

judged-moved : {A : Type 0} (place : Place) (failures : List Failure) (a : A) → judged (map (moved place) failures) a ≡ moved_in place (judged failures a)
judged-moved place [] a = refl
judged-moved place (first ∷ others) a = refl

named-located : {A : Type 0} (statement : ℕ) (r : Result A Broken) → named_verdict statement r ≡ moved_in (Place.Name statement) (located 0 r)
named-located statement (Ok a) = refl
named-located statement (Err (broken.Rule rule)) = refl
named-located statement (Err (broken.Limit which value)) = refl

pub limited_named : (extents : List ℕ) (r : Result (List ℕ) Broken) → IsShaped (λ at. []) extents r
    → (statement : ℕ) → named_verdict statement r ≡ judged (shape_limits (Place.Name statement) extents) extents
limited_named extents r h statement =
    named-located statement r ∙ ap (moved_in (Place.Name statement)) (h 0)
    ∙ sym (judged-moved (Place.Name statement) (shape_limits (Place.Node 0) extents) extents)
    ∙ ap (λ l. judged l extents) (sym (limits-moved (Place.Name statement) (Place.Node 0) extents))

-- What passes the tests of areas is inside them.
use Rattle.std.specs.Prelude.{◌≡◌, ℕ, ◌+◌, true, nat_le, ℤ, pos, negsuc, List, [], ◌∷◌, slice_get}
use Rattle.std.specs.List.{AllByRecursion, list_all}
use Rattle.std.specs.declared.option.Option.{Option}
use Rattle.std.specs.declared.option.Option.TheVariants.{None, Some}
use Rattle.std.proofs.Common.{refl}
use Rattle.std.proofs.lemmas.Bool.{and_parts, false≢true, leb-true, ltb-true}
use Rattle.shapes_core.specs.declared.area.Area.{Area}
use Rattle.shapes_core.specs.Shape.{total}
use Rattle.loop_ir.specs.Inside.{IsInside, IsWordOf, allows, has_place, has_word}
use Rattle.loop_ir.specs.Running.{Access, ReadsWord, WritesWord}

has_place_is_word : (areas : List Area) (number place : ℕ) (found : Option Area) → slice_get areas number ≡ found → has_place found place ≡ true
    → IsWordOf areas number (pos place)
has_place_is_word areas number place None there h = absurd (false≢true h)
has_place_is_word areas number place (Some area) there h =
    let parts = and_parts (nat_le area.start place) _ h in
    record {
      area = area;
      there = there;
      place = place;
      same = refl;
      begun = leb-true area.start place parts.0;
      within = ltb-true place (area.start + total area.shape) parts.1;
    }

pub has_word_is_word : (areas : List Area) (number : ℕ) (word : ℤ) → has_word areas number word ≡ true → IsWordOf areas number word
has_word_is_word areas number (pos place) h = has_place_is_word areas number place (slice_get areas number) refl h
has_word_is_word areas number (negsuc place) h = absurd (false≢true h)

allows_is_inside : (areas : List Area) (access : Access) → allows areas access ≡ true → IsInside areas access
allows_is_inside areas (ReadsWord area word) h = has_word_is_word areas area word h
allows_is_inside areas (WritesWord area word) h = has_word_is_word areas area word h

-- where each access passes the test, the trace is inside
pub allowed_is_inside : (areas : List Area) (trace : List Access) → list_all (allows areas) trace ≡ true → AllByRecursion (IsInside areas) trace
allowed_is_inside areas [] h = tt
allowed_is_inside areas (access ∷ trace) h =
    let parts = and_parts (allows areas access) _ h in (allows_is_inside areas access parts.0, allowed_is_inside areas trace parts.1)

-- The places of declared arrays by their names, one array after the other.
use Rattle.std.proofs.Common.{◌≡◌, ◌≢◌, ℕ, ◌+◌, ◌<◌, ◌≤◌, Bool, true, false, List, [], ◌∷◌, ◌++◌, length, map, get_or, take, cond, refl, sym, ap, ◌∙◌, arith, add-one}
use Rattle.std.proofs.Math.Seq.{take-suc}
use Rattle.std.proofs.lemmas.Iterator.Adapters.{position_from-zero}
use Rattle.std.proofs.lemmas.List.{get_or-take, get_or_default, length-take-le}
use Rattle.std.proofs.lemmas.List.Quantifiers.{position-Some}
use Rattle.std.specs.Prelude.{AllPairs, IfSome}
use Rattle.std.specs.List.{position_from}
use Rattle.std.specs.Str.{bytes_eq}
use Rattle.std.specs.declared.option.Option.{Option}
use Rattle.std.specs.declared.option.Option.TheVariants.{None, Some}
use Rattle.shapes_core.specs.declared.area.Declared.{Declared}
use Rattle.array_text.specs.Outcome.{place_of}
use Rattle.array_text.proofs.BytesLemmas.{bytes_found}
use Rattle.array_text.proofs.FileLemmas.{place_found}
use Rattle.array_text.proofs.PlaceLemmas.{Distinct, distinct, nameless}

from_past : {X : Type 0} (test : X → Bool) (place : ℕ) (those : List X) (last : X) → test last ≡ false
    → position_from test place (those ++ last ∷ []) ≡ position_from test place those
from_past test place [] last h = ap (λ b. cond b (Some place) None) h
from_past test place (first ∷ others) last h = ap (λ o. cond (test first) (Some place) o) (from_past test (place + 1) others last h)

place_past : (those : List Declared) (last : Declared) (name : List ℕ) → bytes_eq last.name name ≡ false → place_of (those ++ last ∷ []) name ≡ place_of those name
place_past those last name h =
    let test = λ (array : Declared). bytes_eq array.name name in
    position_from-zero test (those ++ last ∷ []) ∙ from_past test 0 those last h ∙ sym (position_from-zero test those)

distinct_front : (declared : List Declared) (count : ℕ) → count ≤ length declared → Distinct declared → Distinct (take count declared)
distinct_front declared count within differ one other here there same =
    let short : length (take count declared) ≡ count = length-take-le count declared within in
    differ one other (omega (arith, here, short, within)) (omega (arith, there, short, within))
    (ap (λ d. d.name) (sym (get_or-take count declared one nameless (omega (arith, here, short)))) ∙ same
    ∙ ap (λ d. d.name) (get_or-take count declared other nameless (omega (arith, there, short))))

-- the map with one name more
pub index_more : (declared : List Declared) (place : ℕ) (array : Declared) (key name : List ℕ)
    → AllPairs (λ one other. one ≢ other) (map (λ d. d.name) declared) → place < length declared → array ≡ get_or declared place array → key ≡ array.name
    → cond (bytes_eq key name) (Some place) (place_of (take place declared) name) ≡ place_of (take (place + 1) declared) name
index_more declared place array key name differ within e same = by (bytes_eq key name) refl
  where
    longer : take (place + 1) declared ≡ take place declared ++ array ∷ []
    longer = ap (λ n. take n declared) (add-one place) ∙ take-suc declared place array within ∙ ap (λ d. take place declared ++ d ∷ []) (sym e)

    here : get_or (take (place + 1) declared) place nameless ≡ array
    here = get_or-take (place + 1) declared place nameless (omega arith) ∙ get_or_default declared place nameless array within ∙ sym e

    by : (test : Bool) → bytes_eq key name ≡ test → cond (bytes_eq key name) (Some place) (place_of (take place declared) name) ≡ place_of (take (place + 1) declared) name
    by true h =
        ap (λ b. cond b (Some place) (place_of (take place declared) name)) h
        ∙ sym (ap (place_of (take (place + 1) declared)) (sym (bytes_found key name h) ∙ same)
        ∙ place_found (take (place + 1) declared) array place (distinct_front declared (place + 1) (omega (arith, within)) (distinct declared differ))
        (omega (arith, within, length-take-le (place + 1) declared (omega (arith, within)))) here)
    by false h =
        ap (λ b. cond b (Some place) (place_of (take place declared) name)) h
        ∙ sym (ap (λ those. place_of those name) longer ∙ place_past (take place declared) array name (ap (λ n. bytes_eq n name) (sym same) ∙ h))

-- a place that is found is one of the declared arrays
pub place_within : (declared : List Declared) (name : List ℕ) (found : Option ℕ) → found ≡ place_of declared name → IfSome found (λ place. place < length declared)
place_within declared name None e = tt
place_within declared name (Some place) e = (position-Some (λ array. bytes_eq array.name name) declared place nameless (sym e)).0

-- What the arrays that came and those that are still found make together.
use Rattle.std.proofs.Common.{◌≡◌, ◌≢◌, ℕ, zero, suc, ◌<◌, ℤ, Bool, true, false, List, [], ◌∷◌, length, map, get_or, set, refl, sym, subst, ap, ◌∙◌, arith}
use Rattle.std.proofs.lemmas.Bool.{cases_eq, ltb-false, ltb-true}
use Rattle.std.proofs.lemmas.List.{get_or-map, get_or-set_other, get_or-set_same, get_or_default, length-map, length-set}
use Rattle.std.specs.Prelude.{◌⊎◌, nat_lt, option_map, Contains, AllPairs}
use Rattle.std.proofs.Common.{inl, inr}
use Rattle.std.specs.List.{AllByRecursion}
use Rattle.std.specs.declared.option.Option.{Option}
use Rattle.std.specs.declared.option.Option.TheVariants.{None, Some}
use Rattle.shapes_core.specs.declared.area.Declared.{Declared}
use Rattle.array_text.specs.Files.{Differ, NoneNamed, Stands, Valued}
use Rattle.array_text.specs.Outcome.{Came, all_of}

abbrev pub nameless : Declared
nameless = record { name = []; shape = [] }

-- where the names differ, a place is known by its name
abbrev pub Distinct : List Declared → Type 0
Distinct declared = (one other : ℕ) → one < length declared → other < length declared
    → (get_or declared one nameless).name ≡ (get_or declared other nameless).name → one ≡ other

pub distinct : (declared : List Declared) → AllPairs (λ one other. one ≢ other) (map (λ array. array.name) declared) → Distinct declared
distinct declared differ one other here there same = by_order (nat_lt one other) (nat_lt other one) refl refl
  where
    name_at : (place : ℕ) → place < length declared → get_or (map (λ array. array.name) declared) place [] ≡ (get_or declared place nameless).name
    name_at place within = get_or-map (λ array. array.name) declared place nameless [] within

    by_order : (before after : Bool) → nat_lt one other ≡ before → nat_lt other one ≡ after → one ≡ other
    by_order true after e g = absurd (differ one other [] (ltb-true one other e) (omega (arith, there, length-map declared (λ array. array.name)))
        (name_at one here ∙ same ∙ sym (name_at other there)))
    by_order false true e g = absurd (differ other one [] (ltb-true other one g) (omega (arith, here, length-map declared (λ array. array.name)))
        (name_at other there ∙ sym same ∙ sym (name_at one here)))
    by_order false false e g = omega (arith, ltb-false one other e, ltb-false other one g)

-- an array that came has its values and stands no more among those that are found; one that did not come stands there
abbrev pub Placed : Option (List ℤ) → Declared → List ℤ → List Valued → Type 0
Placed None array values found = Stands (array, values) found
Placed (Some held) array values found = (held ≡ values) × NoneNamed array.name found

pub record Holds (declared : List Declared) (arrays : List (List ℤ)) (came : Came) (found : List Valued) : Type 0 where
  pub counted : length arrays ≡ length declared
  pub held : length came ≡ length declared
  pub places : (place : ℕ) → place < length declared → Placed (get_or came place None) (get_or declared place nameless) (get_or arrays place []) found
  pub given : AllByRecursion (λ array. Contains declared array.0) found
  pub once : Differ found

stands_named : (array : Valued) (found : List Valued) (name : List ℕ) → Stands array found → NoneNamed name found → array.0.name ≡ name → ⊥
stands_named array [] name stands none same = stands
stands_named array (first ∷ others) name stands none same =
    elim stands [ inl e ↦ none.0 (ap (λ a. a.0.name) e ∙ same) | inr further ↦ stands_named array others name further none.1 same ]

none_named : (one other : List ℕ) (found : List Valued) → one ≡ other → NoneNamed one found → NoneNamed other found
none_named one other found e none = let P : List ℕ → Type 0 = λ name. NoneNamed name found in subst P e none

pub placed_at : (one other : Option (List ℤ)) (array : Declared) (values : List ℤ) (found : List Valued) → one ≡ other
    → Placed one array values found → Placed other array values found
placed_at one other array values found e placed = let P : Option (List ℤ) → Type 0 = λ o. Placed o array values found in subst P e placed

-- what is placed before one array more is found
placed_more : (came : Option (List ℤ)) (array : Declared) (values : List ℤ) (first : Valued) (found : List Valued)
    → first.0.name ≢ array.name → Placed came array values found → Placed came array values (first ∷ found)
placed_more None array values first found other placed = inr placed
placed_more (Some held) array values first found other placed = (placed.0, (other, placed.1))

-- what is placed behind another array
placed_less : (came : Option (List ℤ)) (array : Declared) (values : List ℤ) (first : Valued) (found : List Valued)
    → first.0.name ≢ array.name → Placed came array values (first ∷ found) → Placed came array values found
placed_less None array values first found other placed =
    elim placed [ inl e ↦ absurd (other (ap (λ a. a.0.name) e)) | inr further ↦ further ]
placed_less (Some held) array values first found other placed = (placed.0, placed.1.1)

is_none_at : (here : Option (List ℤ)) (array other : Declared) (values own : List ℤ) (found : List Valued)
    → Placed here other own ((array, values) ∷ found) → other.name ≡ array.name → here ≡ None
is_none_at None array other values own found placed same = refl
is_none_at (Some held) array other values own found placed same = absurd (placed.1.0 (sym same))

here_taken : (array other : Declared) (values own : List ℤ) (found : List Valued) → other ≡ array → NoneNamed array.name found
    → Stands (other, own) ((array, values) ∷ found) → (values ≡ own) × NoneNamed other.name found
here_taken array other values own found e none stands =
    elim stands [
      | inl same ↦ (ap (λ a. a.1) same, none_named array.name other.name found (sym (ap (λ d. d.name) e)) none)
      | inr further ↦ absurd (stands_named (other, own) found array.name further none (ap (λ d. d.name) e))
    ]

-- one array more came
taken_at : (declared : List Declared) (arrays : List (List ℤ)) (came : Came) (array : Declared) (values : List ℤ) (found : List Valued) (place : ℕ)
    → Distinct declared → place < length declared → get_or declared place nameless ≡ array → get_or came place None ≡ None
    → Holds declared arrays came ((array, values) ∷ found) → Holds declared arrays (set came place (Some values)) found
taken_at declared arrays came array values found place differ within e none holds = record {
  counted = holds.counted;
  held = length-set came place (Some values) ∙ holds.held;
  places = λ other there. by other there (cases_eq other place);
  given = holds.given.1;
  once = holds.once.1;
}
  where
    by : (other : ℕ) → other < length declared → (other ≡ place) ⊎ (other ≡ place → ⊥)
        → Placed (get_or (set came place (Some values)) other None) (get_or declared other nameless) (get_or arrays other []) found
    by other there (inl same) =
        let P : ℕ → Type 0 = λ n. Placed (get_or (set came place (Some values)) n None) (get_or declared n nameless) (get_or arrays n []) found in
        subst P (sym same) (placed_at (Some values) (get_or (set came place (Some values)) place None) (get_or declared place nameless) (get_or arrays place []) found
        (sym (get_or-set_same came place (Some values) None (let h : place < length came = omega (arith, holds.held, within) in h)))
        (here_taken array (get_or declared place nameless) values (get_or arrays place []) found e holds.once.0
        (placed_at (get_or came place None) None (get_or declared place nameless) (get_or arrays place []) ((array, values) ∷ found) none (holds.places place within))))
    by other there (inr differs) =
        placed_at (get_or came other None) (get_or (set came place (Some values)) other None) (get_or declared other nameless) (get_or arrays other []) found
        (sym (get_or-set_other came place other (Some values) None differs))
        (placed_less (get_or came other None) (get_or declared other nameless) (get_or arrays other []) (array, values) found
        (λ same. differs (differ other place there within (sym same ∙ sym (ap (λ d. d.name) e)))) (holds.places other there))

-- the array that is found first is declared at a place, where none came yet
pub taken_in : (declared : List Declared) (arrays : List (List ℤ)) (came : Came) (array : Declared) (values : List ℤ) (found : List Valued)
    → Distinct declared → Holds declared arrays came ((array, values) ∷ found)
    → (place : ℕ) × (place < length declared) × (get_or declared place nameless ≡ array) × (get_or came place None ≡ None)
    × Holds declared arrays (set came place (Some values)) found
taken_in declared arrays came array values found differ holds =
    let contained = holds.given.0 in
    let e : get_or declared contained.0 nameless ≡ array = get_or_default declared contained.0 nameless array contained.1 ∙ contained.2 in
    let none : get_or came contained.0 None ≡ None =
    is_none_at (get_or came contained.0 None) array (get_or declared contained.0 nameless) values (get_or arrays contained.0 []) found
    (holds.places contained.0 contained.1) (ap (λ d. d.name) e) in
    (contained.0, contained.1, e, none, taken_at declared arrays came array values found contained.0 differ contained.1 e none holds)

-- one array less came
pub put_back : (declared : List Declared) (arrays : List (List ℤ)) (came : Came) (array : Declared) (values : List ℤ) (found : List Valued) (place : ℕ)
    → Distinct declared → length came ≡ length declared → place < length declared → get_or declared place nameless ≡ array → get_or came place None ≡ None
    → Holds declared arrays (set came place (Some values)) found → Holds declared arrays came ((array, values) ∷ found)
put_back declared arrays came array values found place differ counted within e none holds = record {
  counted = holds.counted;
  held = counted;
  places = λ other there. by other there (cases_eq other place);
  given = ((place, within, get_or_default declared place array nameless within ∙ e), holds.given);
  once = (none_named (get_or declared place nameless).name array.name found (ap (λ d. d.name) e) own.1, holds.once);
}
  where
    own : (values ≡ get_or arrays place []) × NoneNamed (get_or declared place nameless).name found
    own = placed_at (get_or (set came place (Some values)) place None) (Some values) (get_or declared place nameless) (get_or arrays place []) found
        (get_or-set_same came place (Some values) None (let h : place < length came = omega (arith, counted, within) in h)) (holds.places place within)

    by : (other : ℕ) → other < length declared → (other ≡ place) ⊎ (other ≡ place → ⊥)
        → Placed (get_or came other None) (get_or declared other nameless) (get_or arrays other []) ((array, values) ∷ found)
    by other there (inl same) =
        let P : ℕ → Type 0 = λ n. Placed (get_or came n None) (get_or declared n nameless) (get_or arrays n []) ((array, values) ∷ found) in
        subst P (sym same) (placed_at None (get_or came place None) (get_or declared place nameless) (get_or arrays place []) ((array, values) ∷ found) (sym none)
        (inl (ap (λ d. (d, values)) (sym e) ∙ ap (λ v. (get_or declared place nameless, v)) own.0)))
    by other there (inr differs) =
        placed_more (get_or came other None) (get_or declared other nameless) (get_or arrays other []) (array, values) found
        (λ same. differs (differ other place there within (sym same ∙ sym (ap (λ d. d.name) e))))
        (placed_at (get_or (set came place (Some values)) other None) (get_or came other None) (get_or declared other nameless) (get_or arrays other []) found
        (get_or-set_other came place other (Some values) None differs) (holds.places other there))

all_held : (came : Came) (arrays : List (List ℤ)) → length arrays ≡ length came
    → ((place : ℕ) → place < length came → get_or came place None ≡ Some (get_or arrays place [])) → all_of came ≡ Some arrays
all_held [] [] same each = refl
all_held [] (values ∷ arrays) same each = absurd (omega (arith, same))
all_held (here ∷ came) [] same each = absurd (omega (arith, same))
all_held (None ∷ came) (values ∷ arrays) same each = absurd (cc (each 0 (omega arith)))
all_held (Some held ∷ came) (values ∷ arrays) same each =
    let first : Some held ≡ Some values = each 0 (omega arith) in
    let e : held ≡ values = cc first in
    ap (option_map (λ lists. held ∷ lists)) (all_held came arrays (omega (arith, same)) (λ place within. each (suc place) (omega (arith, within))))
    ∙ ap (λ v. Some (v ∷ arrays)) e

held_at : (came : Came) (arrays : List (List ℤ)) → all_of came ≡ Some arrays
    → (length arrays ≡ length came) × ((place : ℕ) → place < length came → get_or came place None ≡ Some (get_or arrays place []))
held_at [] arrays e = let h : [] ≡ arrays = cc e in (ap length (sym h), λ place within. absurd (omega (arith, within)))
held_at (None ∷ came) arrays e = absurd (cc e)
held_at (Some held ∷ came) arrays e = by (all_of came) refl e (λ lists g. held_at came lists g)
  where
    further : (lists : List (List ℤ)) → ((place : ℕ) → place < length came → get_or came place None ≡ Some (get_or lists place []))
        → (place : ℕ) → place < suc (length came) → get_or (Some held ∷ came) place None ≡ Some (get_or (held ∷ lists) place [])
    further lists each zero within = refl
    further lists each (suc place) within = each place (omega (arith, within))

    by : (others : Option (List (List ℤ))) → all_of came ≡ others → option_map (λ lists. held ∷ lists) others ≡ Some arrays
        → ((lists : List (List ℤ)) → all_of came ≡ Some lists
        → (length lists ≡ length came) × ((place : ℕ) → place < length came → get_or came place None ≡ Some (get_or lists place [])))
        → (length arrays ≡ suc (length came)) × ((place : ℕ) → place < suc (length came) → get_or (Some held ∷ came) place None ≡ Some (get_or arrays place []))
    by None g h behind = absurd (cc h)
    by (Some lists) g h behind =
        let rest = behind lists g in
        let same : held ∷ lists ≡ arrays = cc h in
        let P : List (List ℤ) → Type 0 = λ those. (length those ≡ suc (length came))
        × ((place : ℕ) → place < suc (length came) → get_or (Some held ∷ came) place None ≡ Some (get_or those place [])) in
        subst P same (ap suc rest.0, further lists rest.1)

-- each array came where none is still to be found
pub ends_all : (declared : List Declared) (arrays : List (List ℤ)) (came : Came) → Holds declared arrays came [] → all_of came ≡ Some arrays
ends_all declared arrays came holds =
    all_held came arrays (holds.counted ∙ sym holds.held) (λ place within. by (get_or came place None) (get_or declared place nameless) (get_or arrays place [])
    (holds.places place (omega (arith, within, holds.held))))
  where
    by : (here : Option (List ℤ)) (array : Declared) (values : List ℤ) → Placed here array values [] → here ≡ Some values
    by None array values placed = absurd placed
    by (Some held) array values placed = ap Some placed.0

pub ends_holds : (declared : List Declared) (arrays : List (List ℤ)) (came : Came) → length came ≡ length declared → all_of came ≡ Some arrays
    → Holds declared arrays came []
ends_holds declared arrays came counted e =
    let held = held_at came arrays e in
    record {
      counted = held.0 ∙ counted;
      held = counted;
      places = λ place within. placed_at (Some (get_or arrays place [])) (get_or came place None) (get_or declared place nameless) (get_or arrays place []) []
          (sym (held.1 place (omega (arith, within, counted)))) (refl, tt);
      given = tt;
      once = tt;
    }

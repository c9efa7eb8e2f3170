-- The arrays that came, by whether each came and by their values.
use Rattle.std.proofs.Common.{◌≡◌, ℕ, zero, suc, ℤ, ◌+◌, ◌<◌, Bool, true, false, List, [], ◌∷◌, ◌++◌, length, map, get_or, set, replicate, refl, ap, ◌∙◌, arith}
use Rattle.std.proofs.lemmas.List.{length-map, map-append, replicate-append-replicate}
use Rattle.std.specs.Prelude.{if◌then◌else◌, is_some, option_map}
use Rattle.std.specs.declared.option.Option.{Option}
use Rattle.std.specs.declared.option.Option.TheVariants.{None, Some}
use Rattle.std.specs.List.{list_all}
use Rattle.array_text.specs.Outcome.{all_of}
use Rattle.array_text.specs.Slots.{slots_of}

pub one_more : (came : List Bool) (lists : List (List ℤ)) (values : List ℤ) → length came ≡ length lists
    → slots_of (came ++ false ∷ []) (lists ++ values ∷ []) ≡ slots_of came lists ++ None ∷ []
one_more [] [] values same = refl
one_more [] (first ∷ lists) values same = absurd (omega arith)
one_more (here ∷ came) [] values same = absurd (omega arith)
one_more (here ∷ came) (first ∷ lists) values same = ap (λ slots. (if here then Some first else None) ∷ slots) (one_more came lists values (omega arith))

pub slots_len : (came : List Bool) (lists : List (List ℤ)) → length came ≡ length lists → length (slots_of came lists) ≡ length came
slots_len [] lists same = refl
slots_len (here ∷ came) [] same = absurd (omega arith)
slots_len (here ∷ came) (first ∷ lists) same = ap suc (slots_len came lists (omega arith))

some_if : (here : Bool) (values : List ℤ) → is_some (if here then Some values else None) ≡ here
some_if true values = refl
some_if false values = refl

pub slot_at : (came : List Bool) (lists : List (List ℤ)) (place : ℕ) (other : Bool) → length came ≡ length lists → place < length came
    → is_some (get_or (slots_of came lists) place None) ≡ get_or came place other
slot_at [] lists place other same there = absurd (omega arith)
slot_at (here ∷ came) [] place other same there = absurd (omega arith)
slot_at (here ∷ came) (first ∷ lists) zero other same there = some_if here first
slot_at (here ∷ came) (first ∷ lists) (suc place) other same there = slot_at came lists place other (omega arith) (omega arith)

pub slots_set : (came : List Bool) (lists : List (List ℤ)) (place : ℕ) (values : List ℤ) → length came ≡ length lists
    → slots_of (set came place true) (set lists place values) ≡ set (slots_of came lists) place (Some values)
slots_set [] lists place values same = refl
slots_set (here ∷ came) [] place values same = absurd (omega arith)
slots_set (here ∷ came) (first ∷ lists) zero values same = refl
slots_set (here ∷ came) (first ∷ lists) (suc place) values same = ap (λ slots. (if here then Some first else None) ∷ slots) (slots_set came lists place values (omega arith))

pub all_if : (came : List Bool) (lists : List (List ℤ)) → length came ≡ length lists
    → all_of (slots_of came lists) ≡ (if list_all (λ here. here) came then Some lists else None)
all_if [] [] same = refl
all_if [] (first ∷ lists) same = absurd (omega arith)
all_if (here ∷ came) [] same = absurd (omega arith)
all_if (false ∷ came) (first ∷ lists) same = refl
all_if (true ∷ came) (first ∷ lists) same = ap (option_map (λ arrays. first ∷ arrays)) (all_if came lists (omega arith)) ∙ mapped (list_all (λ here. here) came) first lists
  where
    mapped : (test : Bool) (first : List ℤ) (lists : List (List ℤ))
        → option_map (λ arrays. first ∷ arrays) (if test then Some lists else None) ≡ (if test then Some (first ∷ lists) else None)
    mapped true first lists = refl
    mapped false first lists = refl

pub counted : {X : Type 0} (f : X → List ℤ) (came : List Bool) (lists : List X) → length came ≡ length lists → length came ≡ length (map f lists)
counted f came lists same = simp length-map same

none_more : (place : ℕ) → replicate {A = Option (List ℤ)} place None ++ None ∷ [] ≡ replicate (place + 1) None
none_more place = replicate-append-replicate place 1 None

pub none_yet : {X : Type 0} (f : X → List ℤ) (came more : List Bool) (lists longer : List X) (values : X) (place : ℕ)
    → more ≡ came ++ false ∷ [] → longer ≡ lists ++ values ∷ [] → length came ≡ length lists
    → slots_of came (map f lists) ≡ replicate place None
    → slots_of more (map f longer) ≡ replicate (place + 1) None
none_yet f came more lists longer values place e g same none =
    ap (λ here. slots_of here (map f longer)) e ∙ ap (λ those. slots_of (came ++ false ∷ []) (map f those)) g
    ∙ ap (λ those. slots_of (came ++ false ∷ []) those) (map-append f lists (values ∷ []))
    ∙ one_more came (map f lists) (f values) (counted f came lists same)
    ∙ ap (λ slots. slots ++ None ∷ []) none ∙ none_more place

pub all_there : (came : List Bool) (lists : List (List ℤ)) → length came ≡ length lists → list_all (λ here. here) came ≡ true
    → all_of (slots_of came lists) ≡ Some lists
all_there came lists same all = all_if came lists same ∙ ap (λ test. if test then Some lists else None) all

pub one_missing : (came : List Bool) (lists : List (List ℤ)) → length came ≡ length lists → list_all (λ here. here) came ≡ false
    → all_of (slots_of came lists) ≡ None
one_missing came lists same all = all_if came lists same ∙ ap (λ test. if test then Some lists else None) all

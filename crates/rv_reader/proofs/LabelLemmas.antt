-- Labels and names as a map keeps them.
use Rattle.std.proofs.Common.{◌≡◌, ℕ, List, [], ◌∷◌, ◌++◌, refl, ap}
use Rattle.std.specs.Prelude.{Bool, true, false, ◌||◌, cond, is_some, map, Vec}
use Rattle.std.specs.Borrow.{Bor}
use Rattle.std.specs.List.{find, list_any}
use Rattle.std.specs.Map.{lookup}
use Rattle.std.specs.Option.{option_map}
use Rattle.std.specs.declared.option.Option.{Option}
use Rattle.std.specs.declared.option.Option.TheVariants.{None, Some}
use Rattle.rv_reader.specs.Cuts.{same}
use Rattle.rv_reader.specs.Refusals.{stands_for}

-- labels as a map keeps them
abbrev pub numbered : List (Bor (List ℕ) × ℕ) → List (List ℕ × ℕ)
numbered entries = map (λ e. (e.0.now, e.1)) entries

pub lookup_stands : (entries : List (Bor (List ℕ) × ℕ)) (name : List ℕ) → lookup (λ (key : Bor (List ℕ)). same name key.now) entries ≡ stands_for (numbered entries) name
lookup_stands [] name = refl
lookup_stands (entry ∷ entries) name = by_test (same name entry.0.now) (lookup_stands entries name)
  where
    by_test : (b : Bool) → lookup (λ (key : Bor (List ℕ)). same name key.now) entries ≡ stands_for (numbered entries) name
        → cond b (Some entry.1) (lookup (λ (key : Bor (List ℕ)). same name key.now) entries) ≡ option_map (λ label. label.1) (cond b (Some (entry.0.now, entry.1)) (find (λ label. same name label.0) (numbered entries)))
    by_test true e = refl
    by_test false e = e

pub numbered-push : (entries : List (Bor (List ℕ) × ℕ)) (key : Bor (List ℕ)) (number : ℕ) → numbered (entries ++ (key, number) ∷ []) ≡ numbered entries ++ (key.now, number) ∷ []
numbered-push [] key number = refl
numbered-push (entry ∷ entries) key number = ap (λ rest. (entry.0.now, entry.1) ∷ rest) (numbered-push entries key number)

pub none_from : {A : Type 0} (found : Option A) → is_some found ≡ false → found ≡ None
none_from None h = refl
none_from (Some x) h = absurd (cc)

-- names as a map keeps them
abbrev pub named : {A : Type 0} → List (Vec ℕ A × Unit {0}) → List (List ℕ)
named entries = map (λ e. e.0.items) entries

pub known_names : {A : Type 0} (entries : List (Vec ℕ A × Unit {0})) (name : List ℕ) → is_some (lookup (λ (key : Vec ℕ A). same name key.items) entries) ≡ list_any (same name) (named entries)
known_names [] name = refl
known_names {A} (entry ∷ entries) name = by_test (same name entry.0.items) (known_names entries name)
  where
    by_test : (b : Bool) → is_some (lookup (λ (key : Vec ℕ A). same name key.items) entries) ≡ list_any (same name) (named entries)
        → is_some (cond b (Some entry.1) (lookup (λ (key : Vec ℕ A). same name key.items) entries)) ≡ (b || list_any (same name) (named entries))
    by_test true e = refl
    by_test false e = e

pub named-push : {A : Type 0} (entries : List (Vec ℕ A × Unit {0})) (key : Vec ℕ A) (value : Unit {0}) → named (entries ++ (key, value) ∷ []) ≡ named entries ++ key.items ∷ []
named-push [] key value = refl
named-push (entry ∷ entries) key value = ap (λ rest. entry.0.items ∷ rest) (named-push entries key value)

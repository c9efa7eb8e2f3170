-- What holds of the items of lists that are joined, turned round or mapped, and which items stand at their places.
use Rattle.std.specs.Prelude.{◌≡◌, ℕ, zero, suc, ◌+◌, List, [], ◌∷◌, ◌++◌, length, map, reverse, slice_get, Some}
use Rattle.std.specs.List.{AllByRecursion, AllZip}
use Rattle.std.specs.Option.{option_map}
use Rattle.std.proofs.Common.{refl, ap, sym, subst, ◌∙◌, arith}
use Rattle.std.proofs.lemmas.Grind.{reverse_onto}
use Rattle.std.proofs.lemmas.List.{map-append}
use Rattle.std.proofs.lemmas.Option.{none-some, same_Some, slice_get-map}
use Rattle.psi_rules.specs.Blocks.{AreAt}

-- ---- the items of one list

pub each-append : {X : Type 0} (P : X → Type 0) (xs ys : List X) → AllByRecursion P xs → AllByRecursion P ys → AllByRecursion P (xs ++ ys)
each-append P [] ys h k = k
each-append P (x ∷ xs) ys h k = (h.0, each-append P xs ys h.1 k)

pub each-cut : {X : Type 0} (P : X → Type 0) (xs ys : List X) → AllByRecursion P (xs ++ ys) → AllByRecursion P xs × AllByRecursion P ys
each-cut P [] ys h = (tt, h)
each-cut P (x ∷ xs) ys h = let rest = each-cut P xs ys h.1 in ((h.0, rest.0), rest.1)

pub each-reverse : {X : Type 0} (P : X → Type 0) (xs : List X) → AllByRecursion P xs → AllByRecursion P (reverse xs)
each-reverse P [] h = tt
each-reverse P (x ∷ xs) h =
    subst (AllByRecursion P) (sym (reverse_onto xs x [])) (each-append P (reverse xs) (x ∷ []) (each-reverse P xs h.1) (h.0, tt))

pub each-follows : {X : Type 0} (P Q : X → Type 0) → ((x : X) → P x → Q x) → (xs : List X) → AllByRecursion P xs → AllByRecursion Q xs
each-follows P Q f [] h = tt
each-follows P Q f (x ∷ xs) h = (f x h.0, each-follows P Q f xs h.1)

pub each-mapped : {X Y : Type 0} (P : X → Type 0) (Q : Y → Type 0) (f : X → Y) → ((x : X) → P x → Q (f x)) → (xs : List X)
    → AllByRecursion P xs → AllByRecursion Q (map f xs)
each-mapped P Q f one [] h = tt
each-mapped P Q f one (x ∷ xs) h = (one x h.0, each-mapped P Q f one xs h.1)

-- what holds of all that a function makes
pub each-made : {X Y : Type 0} (P : Y → Type 0) (f : X → Y) → ((x : X) → P (f x)) → (xs : List X) → AllByRecursion P (map f xs)
each-made P f one [] = tt
each-made P f one (x ∷ xs) = (one x, each-made P f one xs)

pub each-at : {X : Type 0} (P : X → Type 0) (xs : List X) → AllByRecursion P xs → (number : ℕ) (x : X) → slice_get xs number ≡ Some x → P x
each-at P [] h number x e = absurd (none-some x e)
each-at P (front ∷ xs) h zero x e = subst P (same_Some front x e) h.0
each-at P (front ∷ xs) h (suc number) x e = each-at P xs h.1 number x e

-- ---- the items of two lists, place by place

pub zip-append : {X Y : Type 0} (R : X → Y → Type 0) (xs more : List X) (ys others : List Y)
    → AllZip R xs ys → AllZip R more others → AllZip R (xs ++ more) (ys ++ others)
zip-append R [] more [] others h k = k
zip-append R [] more (y ∷ ys) others h k = absurd h
zip-append R (x ∷ xs) more [] others h k = absurd h
zip-append R (x ∷ xs) more (y ∷ ys) others h k = (h.0, zip-append R xs more ys others h.1 k)

pub zip-reverse : {X Y : Type 0} (R : X → Y → Type 0) (xs : List X) (ys : List Y) → AllZip R xs ys → AllZip R (reverse xs) (reverse ys)
zip-reverse R [] [] h = tt
zip-reverse R [] (y ∷ ys) h = absurd h
zip-reverse R (x ∷ xs) [] h = absurd h
zip-reverse R (x ∷ xs) (y ∷ ys) h =
    let more = zip-append R (reverse xs) (x ∷ []) (reverse ys) (y ∷ []) (zip-reverse R xs ys h.1) (h.0, tt) in
    subst (AllZip R (reverse (x ∷ xs))) (sym (reverse_onto ys y []))
    (subst (λ list. AllZip R list (reverse ys ++ y ∷ [])) (sym (reverse_onto xs x [])) more)

-- a relation with what a function makes of the second items
pub zip-map : {X Y Z : Type 0} (R : X → Z → Type 0) (f : Y → Z) (xs : List X) (ys : List Y) → AllZip (λ x y. R x (f y)) xs ys
    → AllZip R xs (map f ys)
zip-map R f [] [] h = tt
zip-map R f [] (y ∷ ys) h = absurd h
zip-map R f (x ∷ xs) [] h = absurd h
zip-map R f (x ∷ xs) (y ∷ ys) h = (h.0, zip-map R f xs ys h.1)

-- a relation between what two functions make of the same items
pub zip-mapped : {X Y Z : Type 0} (P : X → Type 0) (R : Y → Z → Type 0) (f : X → Y) (g : X → Z) → ((x : X) → P x → R (f x) (g x))
    → (xs : List X) → AllByRecursion P xs → AllZip R (map f xs) (map g xs)
zip-mapped P R f g one [] h = tt
zip-mapped P R f g one (x ∷ xs) h = (one x h.0, zip-mapped P R f g one xs h.1)

pub zip-at : {X Y : Type 0} (R : X → Y → Type 0) (xs : List X) (ys : List Y) → AllZip R xs ys → (number : ℕ) (x : X) (y : Y)
    → slice_get xs number ≡ Some x → slice_get ys number ≡ Some y → R x y
zip-at R [] ys h number x y e g = absurd (none-some x e)
zip-at R (front ∷ xs) [] h number x y e g = absurd (none-some y g)
zip-at R (front ∷ xs) (other ∷ ys) h zero x y e g = subst (λ z. R z y) (same_Some front x e) (subst (R front) (same_Some other y g) h.0)
zip-at R (front ∷ xs) (other ∷ ys) h (suc number) x y e g = zip-at R xs ys h.1 number x y e g

-- ---- lists that are mapped

-- items that are mapped to the same, and then others
pub map-both : {X Y Z : Type 0} (f : X → Z) (g : Y → Z) (xs more : List X) (ys others : List Y) → map f xs ≡ map g ys
    → map f more ≡ map g others → map f (xs ++ more) ≡ map g (ys ++ others)
map-both f g xs more ys others h k =
    map-append f xs more ∙ ap (λ l. l ++ map f more) h ∙ ap (λ l. map g ys ++ l) k ∙ sym (map-append g ys others)

pub at-mapped : {X Y : Type 0} (f : X → Y) (xs : List X) (number : ℕ) (x : X) → slice_get xs number ≡ Some x
    → slice_get (map f xs) number ≡ Some (f x)
at-mapped f xs number x e = slice_get-map f xs number ∙ ap (option_map f) e

-- the item that is mapped to this one
pub mapped-at : {X Y : Type 0} (f : X → Y) (xs : List X) (number : ℕ) (y : Y) → slice_get (map f xs) number ≡ Some y
    → (x : X) × (slice_get xs number ≡ Some x) × (f x ≡ y)
mapped-at f [] number y e = absurd (none-some y e)
mapped-at f (front ∷ xs) zero y e = (front, refl, same_Some (f front) y e)
mapped-at f (front ∷ xs) (suc number) y e = mapped-at f xs number y e

-- ---- items at their places

at-later : {X : Type 0} (x : X) (all : List X) (start : ℕ) (items : List X) → AreAt all start items → AreAt (x ∷ all) (suc start) items
at-later x all start [] h = tt
at-later x all start (item ∷ items) h = (h.0, at-later x all (suc start) items h.1)

pub at-here : {X : Type 0} (all : List X) → AreAt all 0 all
at-here [] = tt
at-here (x ∷ all) = (refl, at-later x all 0 all (at-here all))

pub at-both : {X : Type 0} (all : List X) (start : ℕ) (front back : List X) → AreAt all start (front ++ back)
    → AreAt all start front × AreAt all (start + length front) back
at-both all start [] back h = (tt, let e : start ≡ start + 0 = omega arith in subst (λ n. AreAt all n back) e h)
at-both all start (item ∷ front) back h =
    let rest = at-both all (suc start) front back h.1 in
    let e : suc start + length front ≡ start + suc (length front) = omega arith in
    ((h.0, rest.0), subst (λ n. AreAt all n back) e rest.1)

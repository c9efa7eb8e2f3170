-- What holds of the items of lists that are joined or mapped, and which items stand at their places.
use Rattle.std.specs.Prelude.{◌≡◌, ℕ, zero, suc, ◌+◌, List, [], ◌∷◌, ◌++◌, length, map, slice_get, Some}
use Rattle.std.specs.List.{AllByRecursion, AllZip}
use Rattle.std.specs.Option.{option_map}
use Rattle.std.proofs.Common.{refl, ap, sym, subst, ◌∙◌, arith}
use Rattle.std.proofs.lemmas.List.{map-append}
use Rattle.std.proofs.lemmas.Option.{none-some, same_Some, slice_get-map}
use Rattle.psi_rules.specs.Blocks.{AreAt}

-- ---- the items of one list

pub each-append : {X : Type 0} (P : X → Type 0) (xs ys : List X) → AllByRecursion P xs → AllByRecursion P ys → AllByRecursion P (xs ++ ys)
each-append P [] ys h k = k
each-append P (x ∷ xs) ys h k = (h.0, each-append P xs ys h.1 k)

pub each-cut : {X : Type 0} (P : X → Type 0) (xs ys : List X) → AllByRecursion P (xs ++ ys) → AllByRecursion P xs × AllByRecursion P ys
each-cut P [] ys h = (tt, h)
each-cut P (x ∷ xs) ys h = let rest = each-cut P xs ys h.1 in ((h.0, rest.0), rest.1)

pub each-follows : {X : Type 0} (P Q : X → Type 0) → ((x : X) → P x → Q x) → (xs : List X) → AllByRecursion P xs → AllByRecursion Q xs
each-follows P Q f [] h = tt
each-follows P Q f (x ∷ xs) h = (f x h.0, each-follows P Q f xs h.1)

pub each-both : {X : Type 0} (P Q R : X → Type 0) → ((x : X) → P x → Q x → R x) → (xs : List X) → AllByRecursion P xs → AllByRecursion Q xs
    → AllByRecursion R xs
each-both P Q R f [] h k = tt
each-both P Q R f (x ∷ xs) h k = (f x h.0 k.0, each-both P Q R f xs h.1 k.1)

pub each-at : {X : Type 0} (P : X → Type 0) (xs : List X) → AllByRecursion P xs → (number : ℕ) (x : X) → slice_get xs number ≡ Some x → P x
each-at P [] h number x e = absurd (none-some x e)
each-at P (front ∷ xs) h zero x e = subst P (same_Some front x e) h.0
each-at P (front ∷ xs) h (suc number) x e = each-at P xs h.1 number x e

pub each-from : {X : Type 0} (P : X → Type 0) (xs : List X) → ((number : ℕ) (x : X) → slice_get xs number ≡ Some x → P x)
    → AllByRecursion P xs
each-from P [] f = tt
each-from P (x ∷ xs) f = (f 0 x refl, each-from P xs (λ number y e. f (suc number) y e))

-- ---- lists that are mapped

pub at-mapped : {X Y : Type 0} (f : X → Y) (xs : List X) (number : ℕ) (x : X) → slice_get xs number ≡ Some x
    → slice_get (map f xs) number ≡ Some (f x)
at-mapped f xs number x e = slice_get-map f xs number ∙ ap (option_map f) e

-- the item that is mapped to this one
pub mapped-at : {X Y : Type 0} (f : X → Y) (xs : List X) (number : ℕ) (y : Y) → slice_get (map f xs) number ≡ Some y
    → (x : X) × (slice_get xs number ≡ Some x) × (f x ≡ y)
mapped-at f [] number y e = absurd (none-some y e)
mapped-at f (front ∷ xs) zero y e = (front, refl, same_Some (f front) y e)
mapped-at f (front ∷ xs) (suc number) y e = mapped-at f xs number y e

-- the item that stands in a list of what items are mapped to
pub mapped-here : {X Y : Type 0} (f : X → Y) (xs : List X) (ys : List Y) (number : ℕ) (x : X) → ys ≡ map f xs → slice_get xs number ≡ Some x
    → slice_get ys number ≡ Some (f x)
mapped-here f xs ys number x same e = ap (λ l. slice_get l number) same ∙ at-mapped f xs number x e

pub mapped-same : {X Y : Type 0} (f : X → Y) (xs : List X) (ys : List Y) (number : ℕ) (x : X) (y : Y) → ys ≡ map f xs
    → slice_get xs number ≡ Some x → slice_get ys number ≡ Some y → f x ≡ y
mapped-same f xs ys number x y same e g = same_Some (f x) y (sym (mapped-here f xs ys number x same e) ∙ g)

-- items that are mapped to the same, and then others
pub map-more : {X Y : Type 0} (f : X → Y) (xs more : List X) (ys others : List Y) → ys ≡ map f xs → others ≡ map f more
    → ys ++ others ≡ map f (xs ++ more)
map-more f xs more ys others h k = ap (λ l. l ++ others) h ∙ ap (λ l. map f xs ++ l) k ∙ sym (map-append f xs more)

-- ---- items at their places

-- the items from a place on are some and then others
pub at-both : {X : Type 0} (all : List X) (start : ℕ) (front back : List X) → AreAt all start (front ++ back)
    → AreAt all start front × AreAt all (start + length front) back
at-both all start [] back h = (tt, let e : start ≡ start + 0 = omega arith in subst (λ n. AreAt all n back) e h)
at-both all start (item ∷ front) back h =
    let rest = at-both all (suc start) front back h.1 in
    let e : suc start + length front ≡ start + suc (length front) = omega arith in
    ((h.0, rest.0), subst (λ n. AreAt all n back) e rest.1)

-- ---- the items of two lists, place by place

pub zip-at : {X Y : Type 0} (R : X → Y → Type 0) (xs : List X) (ys : List Y) → AllZip R xs ys → (number : ℕ) (x : X) (y : Y)
    → slice_get xs number ≡ Some x → slice_get ys number ≡ Some y → R x y
zip-at R [] ys h number x y e g = absurd (none-some x e)
zip-at R (front ∷ xs) [] h number x y e g = absurd (none-some y g)
zip-at R (front ∷ xs) (other ∷ ys) h zero x y e g = subst (λ z. R z y) (same_Some front x e) (subst (R front) (same_Some other y g) h.0)
zip-at R (front ∷ xs) (other ∷ ys) h (suc number) x y e g = zip-at R xs ys h.1 number x y e g

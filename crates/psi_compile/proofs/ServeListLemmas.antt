-- What holds of the items of lists that are joined, filtered, turned round or mapped.
use Rattle.std.specs.Prelude.{◌≡◌, ◌&&◌, ℕ, zero, suc, ◌+◌, ◌-◌, ◌<◌, ◌≤◌, Bool, true, false, All, List, [], ◌∷◌, ◌++◌, length, map, filter}
use Rattle.std.specs.Prelude.{reverse, slice_get, slice_index_or, Some}
use Rattle.std.specs.List.{AllByRecursion, list_any, range_with_len}
use Rattle.std.proofs.Common.{refl, ap, sym, subst, ◌∙◌, arith, cond}
use Rattle.std.proofs.lemmas.List.{get_or-reverse, length-reverse}
use Rattle.std.proofs.lemmas.List.Elements.{All-from_recursion, recursion_from_All}
use Rattle.std.proofs.lemmas.Bool.{false≢true}
use Rattle.std.proofs.lemmas.Option.{none-some, same_Some}

-- ---- the items of one list

pub each-append : {X : Type 0} (P : X → Type 0) (xs ys : List X) → AllByRecursion P xs → AllByRecursion P ys → AllByRecursion P (xs ++ ys)
each-append P [] ys h k = k
each-append P (x ∷ xs) ys h k = (h.0, each-append P xs ys h.1 k)

pub each-follows : {X : Type 0} (P Q : X → Type 0) → ((x : X) → P x → Q x) → (xs : List X) → AllByRecursion P xs → AllByRecursion Q xs
each-follows P Q f [] h = tt
each-follows P Q f (x ∷ xs) h = (f x h.0, each-follows P Q f xs h.1)

pub each-both : {X : Type 0} (P Q R : X → Type 0) → ((x : X) → P x → Q x → R x) → (xs : List X) → AllByRecursion P xs → AllByRecursion Q xs
    → AllByRecursion R xs
each-both P Q R f [] h k = tt
each-both P Q R f (x ∷ xs) h k = (f x h.0 k.0, each-both P Q R f xs h.1 k.1)

pub each-at : {X : Type 0} (P : X → Type 0) (xs : List X) → AllByRecursion P xs → (number : ℕ) (x : X) → slice_get xs number ≡ Some x → P x
each-at P [] h number x e = absurd (none-some x e)
each-at P (front ∷ xs) h zero x e = subst P (same_Some front x e) h.0
each-at P (front ∷ xs) h (suc number) x e = each-at P xs h.1 number x e

pub each-mapped : {X Y : Type 0} (P : Y → Type 0) (f : X → Y) (xs : List X) → AllByRecursion (λ x. P (f x)) xs → AllByRecursion P (map f xs)
each-mapped P f [] h = tt
each-mapped P f (x ∷ xs) h = (h.0, each-mapped P f xs h.1)

all-reverse : {X : Type 0} (P : X → Type 0) (xs : List X) → All P xs → All P (reverse xs)
all-reverse P xs h k d below =
    let inside : k < length xs = omega (arith, length-reverse xs, below) in
    subst P (sym (get_or-reverse xs k d inside)) (h (length xs - 1 - k) d (omega (arith, inside)))

pub each-reverse : {X : Type 0} (P : X → Type 0) (xs : List X) → AllByRecursion P xs → AllByRecursion P (reverse xs)
each-reverse P xs h = recursion_from_All P (reverse xs) (all-reverse P xs (All-from_recursion P xs h))

-- an item of a list that stands behind another one
pub each-behind : {X : Type 0} (P : X → Type 0) (xs ys : List X) → AllByRecursion P ys → (number : ℕ) (x : X)
    → slice_get (xs ++ ys) number ≡ Some x → length xs ≤ number → P x
each-behind P [] ys h number x e from = each-at P ys h number x e
each-behind P (front ∷ xs) ys h zero x e from = absurd (omega (arith, from))
each-behind P (front ∷ xs) ys h (suc number) x e from = each-behind P xs ys h number x e (omega (arith, from))

-- ---- tests

pub both : (a b : Bool) → (a && b) ≡ true → (a ≡ true) × (b ≡ true)
both true b h = (refl, h)
both false b h = absurd (false≢true h)

-- ---- filters

rest-of : {X : Type 0} (P : X → Type 0) (test : X → Bool) (x : X) (others : List X) (passes : Bool) → test x ≡ passes
    → (test x ≡ false → P x) → AllByRecursion P (cond passes (x ∷ others) others) → P x × AllByRecursion P others
rest-of P test x others true e f h = h
rest-of P test x others false e f h = (f e, h)

-- what holds of each item that passes a test, and of each that does not
pub each-filtered : {X : Type 0} (P : X → Type 0) (test : X → Bool) → ((x : X) → test x ≡ false → P x) → (xs : List X)
    → AllByRecursion P (filter test xs) → AllByRecursion P xs
each-filtered P test f [] h = tt
each-filtered P test f (x ∷ xs) h =
    let parts = rest-of P test x (filter test xs) (test x) refl (f x) h in
    (parts.0, each-filtered P test f xs parts.1)

-- an item that passes a test stands among those that do
abbrev pub IsThere : {X : Type 0} → List X → X → Type 0
IsThere xs x = (number : ℕ) × (slice_get xs number ≡ Some x)

there-first : {X : Type 0} (front : X) (others : List X) (passes : Bool) → passes ≡ true
    → IsThere (cond passes (front ∷ others) others) front
there-first front others true e = (0, refl)
there-first front others false e = absurd (false≢true e)

there-later : {X : Type 0} (x front : X) (others : List X) (passes : Bool) → IsThere others x
    → IsThere (cond passes (front ∷ others) others) x
there-later x front others true h = (suc h.0, h.1)
there-later x front others false h = h

pub there-filtered : {X : Type 0} (test : X → Bool) (xs : List X) (number : ℕ) (x : X) → slice_get xs number ≡ Some x → test x ≡ true
    → IsThere (filter test xs) x
there-filtered test [] number x e passes = absurd (none-some x e)
there-filtered test (front ∷ xs) zero x e passes =
    let same = same_Some front x e in
    subst (IsThere (filter test (front ∷ xs))) same (there-first front (filter test xs) (test front) (ap test same ∙ passes))
there-filtered test (front ∷ xs) (suc number) x e passes =
    there-later x front (filter test xs) (test front) (there-filtered test xs number x e passes)

-- a test that an item passes is passed by one
pub some-passes : {X : Type 0} (test : X → Bool) (xs : List X) (number : ℕ) (x : X) → slice_get xs number ≡ Some x → test x ≡ true
    → list_any test xs ≡ true
some-passes test [] number x e passes = absurd (none-some x e)
some-passes test (front ∷ xs) zero x e passes =
    let here : test front ≡ true = ap test (same_Some front x e) ∙ passes in rw here refl
some-passes test (front ∷ xs) (suc number) x e passes =
    let later = some-passes test xs number x e passes in grind (arith, later)

-- ---- lists that are mapped

-- two functions that agree at the numbers of a range
pub same-range : {X : Type 0} (f g : ℕ → X) (start count : ℕ) → ((k : ℕ) → start ≤ k → k < start + count → f k ≡ g k)
    → map f (range_with_len start count) ≡ map g (range_with_len start count)
same-range f g start zero same = refl
same-range f g start (suc count) same =
    let here = same start (omega arith) (omega arith) in
    let rest = same-range f g (start + 1) count (λ k low high. same k (omega (arith, low)) (omega (arith, high))) in
    rw (here, rest) refl

-- items that are mapped to those of a list with others in front and behind
front-mapped : {X Y : Type 0} (f : X → Y) (d : Y) (xs behind : List X) (ys others : List Y) → length ys ≡ length xs
    → ((number : ℕ) (x : X) → slice_get (xs ++ behind) number ≡ Some x → f x ≡ slice_index_or (ys ++ others) number d) → map f xs ≡ ys
front-mapped f d [] behind [] others long same = refl
front-mapped f d [] behind (y ∷ ys) others long same = absurd (omega (arith, long))
front-mapped f d (x ∷ xs) behind [] others long same = absurd (omega (arith, long))
front-mapped f d (x ∷ xs) behind (y ∷ ys) others long same =
    let here : f x ≡ y = same 0 x refl in
    let rest = front-mapped f d xs behind ys others (omega (arith, long)) (λ number z e. same (suc number) z e) in
    ap (λ z. z ∷ map f xs) here ∙ ap (λ l. y ∷ l) rest

pub middle-mapped : {X Y : Type 0} (f : X → Y) (d : Y) (front xs behind : List X) (before ys others : List Y) → length before ≡ length front
    → length ys ≡ length xs
    → ((number : ℕ) (x : X) → slice_get (front ++ (xs ++ behind)) number ≡ Some x
    → f x ≡ slice_index_or (before ++ (ys ++ others)) number d)
    → map f xs ≡ ys
middle-mapped f d [] xs behind [] ys others short long same = front-mapped f d xs behind ys others long same
middle-mapped f d [] xs behind (y ∷ before) ys others short long same = absurd (omega (arith, short))
middle-mapped f d (x ∷ front) xs behind [] ys others short long same = absurd (omega (arith, short))
middle-mapped f d (x ∷ front) xs behind (y ∷ before) ys others short long same =
    middle-mapped f d front xs behind before ys others (omega (arith, short)) long (λ number z e. same (suc number) z e)

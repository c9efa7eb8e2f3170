-- What holds of each entry of a list, and how many pass a test.
use Rattle.std.specs.Prelude.{◌≡◌, ℕ, suc, ◌+◌, ◌<◌, Bool, false, cond, List, [], ◌∷◌, ◌++◌, length, slice_index_or, All}
use Rattle.std.specs.List.{AllByRecursion, count_by, flat_map}
use Rattle.std.proofs.Common.{refl, ap, sym, subst, ◌∙◌, arith, inl, inr, length-append}
use Rattle.std.proofs.Math.Seq.{get_or-append_seam}
use Rattle.std.proofs.lemmas.Bool.{cases_eq}
use Rattle.std.proofs.lemmas.Grind.{flat_map-append}
use Rattle.std.proofs.lemmas.List.{append-nil, get_or_append_left}
use Rattle.std.proofs.lemmas.List.Sums.{sum_by-append, sum_by-cons}

pub all-map : {X : Type 0} (P Q : X → Type 0) → ((x : X) → P x → Q x) → (xs : List X) → AllByRecursion P xs → AllByRecursion Q xs
all-map P Q f [] h = tt
all-map P Q f (x ∷ xs) h = (f x h.0, all-map P Q f xs h.1)

pub all-join : {X : Type 0} (P : X → Type 0) (xs ys : List X) → AllByRecursion P xs → AllByRecursion P ys → AllByRecursion P (xs ++ ys)
all-join P [] ys h k = k
all-join P (x ∷ xs) ys h k = (h.0, all-join P xs ys h.1 k)

pub all-cut : {X : Type 0} (P : X → Type 0) (xs ys : List X) → AllByRecursion P (xs ++ ys) → AllByRecursion P xs × AllByRecursion P ys
all-cut P [] ys h = (tt, h)
all-cut P (x ∷ xs) ys h = let rest = all-cut P xs ys h.1 in ((h.0, rest.0), rest.1)

-- of each entry of each part
pub all-parts : {X Y : Type 0} (P : Y → Type 0) (f : X → List Y) (xs : List X) → All (λ x. AllByRecursion P (f x)) xs → AllByRecursion P (flat_map f xs)
all-parts P f [] h = tt
all-parts P f (x ∷ xs) h = all-join P (f x) (flat_map f xs) (h 0 x (omega arith)) (all-parts P f xs (λ k d within. h (suc k) d (omega (arith, within))))

-- of each entry with its number, where one comes last
pub each-more : {X : Type 0} (P : ℕ → X → Type 0) (xs : List X) (x : X) → ((number : ℕ) (other : X) → number < length xs → P number (slice_index_or xs number other))
    → P (length xs) x → (number : ℕ) (other : X) → number < length (xs ++ x ∷ []) → P number (slice_index_or (xs ++ x ∷ []) number other)
each-more P xs x h last number other within = elim (cases_eq number (length xs)) [
  | inl e ↦
      subst (λ k. P k (slice_index_or (xs ++ x ∷ []) k other)) (sym e)
      (subst (P (length xs)) (sym (get_or-append_seam xs x [] other)) last)
  | inr e ↦
      let below : number < length xs = omega (arith, e, within, length-append xs (x ∷ [])) in
      subst (P number) (sym (get_or_append_left xs (x ∷ []) other number below)) (h number other below)
]

module _ {X : Type 0} (p : X → Bool) where
  pub count-append : (xs ys : List X) → count_by p (xs ++ ys) ≡ count_by p xs + count_by p ys
  count-append xs ys = sum_by-append (λ x. cond (p x) 1 0) xs ys

  pub count-cons : (x : X) (xs : List X) (b : Bool) → p x ≡ b → count_by p (x ∷ xs) ≡ cond b 1 0 + count_by p xs
  count-cons x xs b e = sum_by-cons (λ y. cond (p y) 1 0) x xs ∙ ap (λ c. cond c 1 0 + count_by p xs) e

  pub count-none : (xs : List X) → AllByRecursion (λ x. p x ≡ false) xs → count_by p xs ≡ 0
  count-none [] h = refl
  count-none (x ∷ xs) h = let e = count-cons x xs false h.0 in let none = count-none xs h.1 in omega (arith, e, none)

  count-more : {Y : Type 0} (f : Y → List X) (ys : List Y) (y : Y) → count_by p (flat_map f (ys ++ y ∷ [])) ≡ count_by p (flat_map f ys) + count_by p (f y)
  count-more f ys y = ap (count_by p) (flat_map-append f ys (y ∷ []) ∙ ap (λ l. flat_map f ys ++ l) (append-nil (f y))) ∙ count-append (flat_map f ys) (f y)

  -- what comes with a further part was in front
  pub count-part : {Y : Type 0} (f : Y → List X) (ys : List Y) (y : Y) (xs zs : List X)
      → count_by p (xs ++ (flat_map f (ys ++ y ∷ []) ++ zs)) ≡ count_by p ((f y ++ xs) ++ (flat_map f ys ++ zs))
  count-part f ys y xs zs =
      omega (
        arith,
        count-more f ys y,
        count-append xs (flat_map f (ys ++ y ∷ []) ++ zs),
        count-append (flat_map f (ys ++ y ∷ [])) zs,
        count-append (f y ++ xs) (flat_map f ys ++ zs),
        count-append (f y) xs,
        count-append (flat_map f ys) zs,
      )

  pub count-last : {Y : Type 0} (f : Y → List X) (ys : List Y) (y : Y) (xs zs : List X)
      → count_by p (xs ++ (zs ++ flat_map f (ys ++ y ∷ []))) ≡ count_by p ((f y ++ xs) ++ (zs ++ flat_map f ys))
  count-last f ys y xs zs =
      omega (
        arith,
        count-more f ys y,
        count-append xs (zs ++ flat_map f (ys ++ y ∷ [])),
        count-append zs (flat_map f (ys ++ y ∷ [])),
        count-append (f y ++ xs) (zs ++ flat_map f ys),
        count-append (f y) xs,
        count-append zs (flat_map f ys),
      )

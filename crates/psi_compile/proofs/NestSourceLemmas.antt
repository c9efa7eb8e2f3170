-- The literals of a program's forms fit 64 signed bits, since the numbers of its source do.
use Rattle.std.specs.Prelude.{◌≡◌, ◌^◌, nat_lt, Bool, true, false, ◌&&◌, ℤ, pos, negsuc, List, [], ◌∷◌, ◌++◌}
use Rattle.std.specs.List.{AllByRecursion, flat_map}
use Rattle.std.proofs.Common.{refl}
use Rattle.std.proofs.lemmas.Bool.{false≢true}
use Rattle.std.proofs.lemmas.Bool.Decides.{Decides-ltb}
use Rattle.moa_tree.specs.declared.operator.Op.{Op}
use Rattle.moa_tree.specs.declared.tree.Version.{Version}
use Rattle.moa_tree.specs.Canonical.{IsBuiltItem, IsSpelled, IsWritable, expr_lexemes}
use Rattle.moa_tree.specs.Expr.{Expr, Number, Use, Iota, One, Two, Psi, Take, Drop, Reverse, Rotate, Transpose, Permute, Cat, Reshape, Ravel, Outer, Inner, Reduce, Scan, Item, Input, Let, Output}
use Rattle.moa_tree.specs.Readings.{list_lexemes}
use Rattle.moa_tree.specs.Subexpressions.{subexpressions, subexpressions_of}
use Rattle.moa_tree.specs.Vocabulary.{Lexeme}
use Rattle.normal_form.specs.Forms.{Lit, Index, Get, Un, Bin, Case, Fold, Let as Bound}
use Rattle.stride_form.specs.Operational.{Operational}
use Rattle.loop_ir.specs.Fitting.{Fits64}
use Rattle.nest_build.specs.Parts.{literals}
use Rattle.nest_jobs.specs.Sources.{EachPasses, form_passes, passes}

-- ---- tests

-- any operator, and a number of 64 signed bits
abbrev pub any_op : Op → Bool
any_op op = true

abbrev pub fits_test : ℤ → Bool
fits_test (pos n) = nat_lt n (2 ^ 63)
fits_test (negsuc n) = nat_lt n (2 ^ 63)

passed-fits : (value : ℤ) → fits_test value ≡ true → Fits64 value
passed-fits (pos n) e = record { sfits = (Decides-ltb n (2 ^ 63)).0 e }
passed-fits (negsuc n) e = record { sfits = (Decides-ltb n (2 ^ 63)).0 e }

fits-passed : (value : ℤ) → Fits64 value → fits_test value ≡ true
fits-passed (pos n) h = (Decides-ltb n (2 ^ 63)).1 h.sfits
fits-passed (negsuc n) h = (Decides-ltb n (2 ^ 63)).1 h.sfits

-- ---- lists

pub each-append : {X : Type 0} (P : X → Type 0) (xs ys : List X) → AllByRecursion P xs → AllByRecursion P ys → AllByRecursion P (xs ++ ys)
each-append P [] ys h k = k
each-append P (x ∷ xs) ys h k = (h.0, each-append P xs ys h.1 k)

pub each-cut : {X : Type 0} (P : X → Type 0) (xs ys : List X) → AllByRecursion P (xs ++ ys) → AllByRecursion P xs × AllByRecursion P ys
each-cut P [] ys h = (tt, h)
each-cut P (x ∷ xs) ys h = let rest = each-cut P xs ys h.1 in ((h.0, rest.0), rest.1)

-- ---- literals

both-true : (left right : Bool) → (left && right) ≡ true → (left ≡ true) × (right ≡ true)
both-true true right e = (refl, e)
both-true false right e = absurd (false≢true e)

pub literals-fit : (form : Operational) → form_passes any_op fits_test form ≡ true → AllByRecursion Fits64 (literals form)
literals-fit (Lit value) e = (passed-fits value e, tt)
literals-fit (Index entry) e = tt
literals-fit (Get access) e = tt
literals-fit (Un op of) e = literals-fit of e
literals-fit (Bin op left right) e =
    let parts = both-true (form_passes any_op fits_test left) (form_passes any_op fits_test right) e in
    each-append Fits64 (literals left) (literals right) (literals-fit left parts.0) (literals-fit right parts.1)
literals-fit (Case entry below first second) e = tt
literals-fit (Fold op var low high of) e = tt
literals-fit (Bound var bind of) e = tt

-- ---- numbers of a source

module _ (version : Version) where
  abbrev Spelled : List Lexeme → Type 0
  Spelled lexemes = AllByRecursion (IsSpelled version) lexemes

  abbrev Pass : List Expr → Type 0
  Pass exprs = AllByRecursion (λ expr. passes any_op fits_test expr ≡ true) exprs

  -- what stands behind a list
  behind : (list : List ℤ) (of : List Lexeme) → Spelled (list_lexemes list ++ of) → Spelled of
  behind list of h = (each-cut (IsSpelled version) (list_lexemes list) of h).1

  both : (left right : Expr) → (Spelled (expr_lexemes left) → Pass (subexpressions left))
      → (Spelled (expr_lexemes right) → Pass (subexpressions right))
      → Spelled (expr_lexemes left ++ expr_lexemes right) → Pass (subexpressions left ++ subexpressions right)
  both left right f g h =
      let parts = each-cut (IsSpelled version) (expr_lexemes left) (expr_lexemes right) h in
      each-append (λ expr. passes any_op fits_test expr ≡ true) (subexpressions left) (subexpressions right) (f parts.0) (g parts.1)

  numbers-fit : (expr : Expr) → Spelled (expr_lexemes expr) → Pass (subexpressions expr)
  numbers-fit (Number value) h = (fits-passed value h.0, tt)
  numbers-fit (Use name) h = (refl, tt)
  numbers-fit (Iota extent) h = (refl, tt)
  numbers-fit (One op of) h = (refl, numbers-fit of h.1)
  numbers-fit (Two op left right) h = (refl, both left right (numbers-fit left) (numbers-fit right) h.1)
  numbers-fit (Psi list of) h = (refl, numbers-fit of (behind list (expr_lexemes of) h.1))
  numbers-fit (Take list of) h = (refl, numbers-fit of (behind list (expr_lexemes of) h.1))
  numbers-fit (Drop list of) h = (refl, numbers-fit of (behind list (expr_lexemes of) h.1))
  numbers-fit (Reverse of) h = (refl, numbers-fit of h.1)
  numbers-fit (Rotate by of) h = (refl, numbers-fit of h.1.1)
  numbers-fit (Transpose of) h = (refl, numbers-fit of h.1)
  numbers-fit (Permute list of) h = (refl, numbers-fit of (behind list (expr_lexemes of) h.1))
  numbers-fit (Cat left right) h = (refl, both left right (numbers-fit left) (numbers-fit right) h.1)
  numbers-fit (Reshape list of) h = (refl, numbers-fit of (behind list (expr_lexemes of) h.1))
  numbers-fit (Ravel of) h = (refl, numbers-fit of h.1)
  numbers-fit (Outer op left right) h = (refl, both left right (numbers-fit left) (numbers-fit right) h.1.1)
  numbers-fit (Inner fold op left right) h = (refl, both left right (numbers-fit left) (numbers-fit right) h.1.1.1)
  numbers-fit (Reduce fold of) h = (refl, numbers-fit of h.1.1)
  numbers-fit (Scan fold of) h = (refl, numbers-fit of h.1.1)

  item-fits : (item : Item) → IsWritable version item → Pass (subexpressions_of item)
  item-fits (Input name extents) h = tt
  item-fits (Let name of) h = numbers-fit of h.spelled.1.1.1
  item-fits (Output name of) h = numbers-fit of h.spelled.1.1.1

  pub source-fits : (items : List Item) → AllByRecursion (IsWritable version) items → EachPasses any_op fits_test items
  source-fits [] h = tt
  source-fits (item ∷ items) h =
      each-append (λ expr. passes any_op fits_test expr ≡ true) (subexpressions_of item) (flat_map subexpressions_of items)
      (item-fits item h.0) (source-fits items h.1)

  pub items-built : (items : List Item) → AllByRecursion (IsWritable version) items → AllByRecursion IsBuiltItem items
  items-built [] h = tt
  items-built (item ∷ items) h = (h.0.built, items-built items h.1)

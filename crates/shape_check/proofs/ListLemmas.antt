-- The lists that a program denotes have as many elements as the shapes of their expressions say.
use Rattle.std.specs.Prelude.{◌≡◌, ℕ, ℤ, List, [], ◌∷◌, ◌++◌, length, map}
use Rattle.std.specs.List.{AllZip, fold}
use Rattle.std.proofs.Common.{refl, ap, subst, ◌∙◌}
use Rattle.std.proofs.lemmas.List.{length-map}
use Rattle.shapes_core.specs.declared.area.AreaKind.TheVariants as area
use Rattle.shapes_core.specs.Gamma.{rows}
use Rattle.shapes_core.specs.Shape.{total}
use Rattle.moa_tree.specs.Denotation.{Store, env_after, env_after_all, denote_from, denote_scans_from, outputs_of, scans_of, values}
use Rattle.moa_tree.specs.Expr.{Expr, Item, Input, Let, Output}
use Rattle.moa_tree.specs.ShapeOf.{shape_of}
use Rattle.moa_tree.specs.Values.{Env, shape_in, shapes_of, value}
use Rattle.shape_check.specs.Layout.{Array, gathered, output_of, scan_shapes, shapes_after}

-- there are as many index vectors as elements
abbrev pub AreCounted : Type 0
AreCounted = (shape : List ℕ) → length (rows shape) ≡ total shape

pub values-counted : AreCounted → (env : Env) (expr : Expr) → length (values env expr) ≡ total (shape_in env expr)
values-counted counted env expr = length-map (rows (shape_in env expr)) (value env expr) ∙ counted (shape_in env expr)

-- ---- the shapes of the names after some statements

shapes-after-one : (inputs : Store) (env : Env) (item : Item) → shapes_of (env_after inputs env item) ≡ shapes_after (shapes_of env) item
shapes-after-one inputs env (Input name extents) = refl
shapes-after-one inputs env (Let name of) = refl
shapes-after-one inputs env (Output name of) = refl

pub shapes-after-all : (inputs : Store) (env : Env) (items : List Item) → shapes_of (env_after_all inputs env items) ≡ fold shapes_after (shapes_of env) items
shapes-after-all inputs env [] = refl
shapes-after-all inputs env (item ∷ items) =
    shapes-after-all inputs (env_after inputs env item) items ∙ ap (λ shapes. fold shapes_after shapes items) (shapes-after-one inputs env item)

-- ---- list by list

abbrev pub IsCounted : List ℕ × List ℤ → Array → Type 0
IsCounted output array = (array.0 ≡ area.Out output.0) × (length output.1 ≡ total array.1)

abbrev pub HasTotal : List ℤ → List ℕ → Type 0
HasTotal list shape = length list ≡ total shape

zip-append : {A B : Type 0} (R : A → B → Type 0) (xs : List A) (ys : List B) (us : List A) (vs : List B) → AllZip R xs ys → AllZip R us vs → AllZip R (xs ++ us) (ys ++ vs)
zip-append R [] [] us vs h k = k
zip-append R [] (y ∷ ys) us vs h k = absurd h
zip-append R (x ∷ xs) [] us vs h k = absurd h
zip-append R (x ∷ xs) (y ∷ ys) us vs h k = (h.0, zip-append R xs ys us vs h.1 k)

one-output : AreCounted → (env : Env) (item : Item) → AllZip IsCounted (outputs_of env item) (output_of (shapes_of env) item)
one-output counted env (Input name extents) = tt
one-output counted env (Let name of) = tt
one-output counted env (Output name of) = ((refl, values-counted counted env of), tt)

pub outputs-counted : AreCounted → (inputs : Store) (env : Env) (items : List Item)
    → AllZip IsCounted (denote_from inputs env items) (gathered output_of (shapes_of env) items)
outputs-counted counted inputs env [] = tt
outputs-counted counted inputs env (item ∷ items) =
    zip-append IsCounted (outputs_of env item) (output_of (shapes_of env) item)
    (denote_from inputs (env_after inputs env item) items) (gathered output_of (shapes_after (shapes_of env) item) items) (one-output counted env item)
    (subst (λ shapes. AllZip IsCounted (denote_from inputs (env_after inputs env item) items) (gathered output_of shapes items)) (shapes-after-one inputs env item)
    (outputs-counted counted inputs (env_after inputs env item) items))

some-counted : AreCounted → (env : Env) (exprs : List Expr) → AllZip HasTotal (map (values env) exprs) (map (shape_of (shapes_of env)) exprs)
some-counted counted env [] = tt
some-counted counted env (expr ∷ exprs) = (values-counted counted env expr, some-counted counted env exprs)

pub scans-counted : AreCounted → (inputs : Store) (env : Env) (items : List Item)
    → AllZip HasTotal (denote_scans_from inputs env items) (gathered scan_shapes (shapes_of env) items)
scans-counted counted inputs env [] = tt
scans-counted counted inputs env (item ∷ items) =
    zip-append HasTotal (map (values env) (scans_of item)) (scan_shapes (shapes_of env) item)
    (denote_scans_from inputs (env_after inputs env item) items) (gathered scan_shapes (shapes_after (shapes_of env) item) items) (some-counted counted env (scans_of item))
    (subst (λ shapes. AllZip HasTotal (denote_scans_from inputs (env_after inputs env item) items) (gathered scan_shapes shapes items)) (shapes-after-one inputs env item)
    (scans-counted counted inputs (env_after inputs env item) items))

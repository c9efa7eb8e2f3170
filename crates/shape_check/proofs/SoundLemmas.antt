-- What the verdict on an expression amounts to: at each node the tests of its rules hold, and its shape is within the limits.
use Rattle.std.specs.Prelude.{◌≡◌, ◌==◌, ◌||◌, ℕ, suc, ◌+◌, ◌-◌, ◌≤◌, Bool, true, false, not, nat_le, nat_lt, List, [], ◌∷◌, ◌++◌, drop, length, reverse, slice_index, unsigned_abs, Result, Ok, if◌then◌else◌}
use Rattle.std.specs.List.{flat_map, list_all, remove}
use Rattle.std.proofs.Common.{refl, ap, sym, ◌∙◌}
use Rattle.std.proofs.lemmas.Bool.{and_from, and_parts, le-ltb, le-leb, leb-true, ltb-false}
use Rattle.shapes_core.specs.Limits.{greatest_extent}
use Rattle.shapes_core.specs.Shape.{IsShape, are_small, span, total}
use Rattle.moa_tree.specs.Axes.{but_last, common, each_extent, joined, naturals, remaining, selected, taken}
use Rattle.moa_tree.specs.Expr.{Expr, Number, Use, Iota, One, Two, Psi, Take, Drop, Reverse, Rotate, Transpose, Permute, Cat, Reshape, Ravel, Outer, Inner, Reduce, Scan}
use Rattle.moa_tree.specs.ShapeOf.{beside, Shapes, shape_of}
use Rattle.shape_check.specs.Rules.{Failure, Place, rule, shape_limits, is_natural, is_declared, is_scalar, are_equal, each_entry, is_place, is_part, is_permutation}
use Rattle.shape_check.specs.Verdict.{and_then, judged, node_count, shaped, verdict}
use Rattle.shape_check.proofs.VerdictLemmas.{and_then-ok, verdict-shape}

-- an expression that is accepted among these names
abbrev pub IsWell : Shapes → Expr → Type 0
IsWell shapes (Number value) = IsShape []
IsWell shapes (Use name) = (is_declared shapes name ≡ true) × IsShape (beside [] shapes name)
IsWell shapes (Iota extent) = (is_natural extent ≡ true) × IsShape (unsigned_abs extent ∷ [])
IsWell shapes (One op of) = IsWell shapes of × IsShape (shape_of shapes of)
IsWell shapes (Two op left right) =
    IsWell shapes left × IsWell shapes right
    × ((are_equal (shape_of shapes left) (shape_of shapes right) || is_scalar (shape_of shapes left) || is_scalar (shape_of shapes right)) ≡ true)
    × IsShape (common (shape_of shapes left) (shape_of shapes right))
IsWell shapes (Psi list of) =
    IsWell shapes of × (nat_le (length list) (length (shape_of shapes of)) ≡ true) × (each_entry is_place list (shape_of shapes of) ≡ true)
    × IsShape (drop (length list) (shape_of shapes of))
IsWell shapes (Take list of) =
    IsWell shapes of × (nat_le (length list) (length (shape_of shapes of)) ≡ true) × (each_entry is_part list (shape_of shapes of) ≡ true)
    × IsShape (each_extent taken list (shape_of shapes of))
IsWell shapes (Drop list of) =
    IsWell shapes of × (nat_le (length list) (length (shape_of shapes of)) ≡ true) × (each_entry is_part list (shape_of shapes of) ≡ true)
    × IsShape (each_extent remaining list (shape_of shapes of))
IsWell shapes (Reverse of) = IsWell shapes of × (not (is_scalar (shape_of shapes of)) ≡ true) × IsShape (shape_of shapes of)
IsWell shapes (Rotate by of) = IsWell shapes of × (not (is_scalar (shape_of shapes of)) ≡ true) × IsShape (shape_of shapes of)
IsWell shapes (Transpose of) = IsWell shapes of × IsShape (reverse (shape_of shapes of))
IsWell shapes (Permute list of) =
    IsWell shapes of × ((length list == length (shape_of shapes of)) ≡ true) × (is_permutation list ≡ true)
    × IsShape (selected (naturals list) (shape_of shapes of))
IsWell shapes (Cat left right) =
    IsWell shapes left × IsWell shapes right
    × ((length (shape_of shapes left) == length (shape_of shapes right)) ≡ true) × (not (is_scalar (shape_of shapes left)) ≡ true)
    × (are_equal (drop 1 (shape_of shapes left)) (drop 1 (shape_of shapes right)) ≡ true)
    × IsShape (joined 0 (shape_of shapes left) (shape_of shapes right))
IsWell shapes (Reshape list of) =
    IsWell shapes of × (list_all is_natural list ≡ true) × ((total (naturals list) == total (shape_of shapes of)) ≡ true) × IsShape (naturals list)
IsWell shapes (Ravel of) = IsWell shapes of × IsShape (total (shape_of shapes of) ∷ [])
IsWell shapes (Outer op left right) = IsWell shapes left × IsWell shapes right × IsShape (shape_of shapes left ++ shape_of shapes right)
IsWell shapes (Inner fold op left right) =
    IsWell shapes left × IsWell shapes right
    × (not (is_scalar (shape_of shapes left) || is_scalar (shape_of shapes right)) ≡ true)
    × ((slice_index (shape_of shapes left) (length (shape_of shapes left) - 1) == slice_index (shape_of shapes right) 0) ≡ true)
    × IsShape (but_last (shape_of shapes left) ++ drop 1 (shape_of shapes right))
IsWell shapes (Reduce fold of) = IsWell shapes of × (not (is_scalar (shape_of shapes of)) ≡ true) × IsShape (remove (shape_of shapes of) 0)
IsWell shapes (Scan fold of) = IsWell shapes of × (not (is_scalar (shape_of shapes of)) ≡ true) × IsShape (shape_of shapes of)

-- its shape is within the limits
pub well-shape : (shapes : Shapes) (expr : Expr) → IsWell shapes expr → IsShape (shape_of shapes expr)
well-shape shapes (Number value) h = h
well-shape shapes (Use name) h = h.1
well-shape shapes (Iota extent) h = h.1
well-shape shapes (One op of) h = h.1
well-shape shapes (Two op left right) h = h.3
well-shape shapes (Psi list of) h = h.3
well-shape shapes (Take list of) h = h.3
well-shape shapes (Drop list of) h = h.3
well-shape shapes (Reverse of) h = h.2
well-shape shapes (Rotate by of) h = h.2
well-shape shapes (Transpose of) h = h.1
well-shape shapes (Permute list of) h = h.3
well-shape shapes (Cat left right) h = h.5
well-shape shapes (Reshape list of) h = h.3
well-shape shapes (Ravel of) h = h.1
well-shape shapes (Outer op left right) h = h.2
well-shape shapes (Inner fold op left right) h = h.4
well-shape shapes (Reduce fold of) h = h.2
well-shape shapes (Scan fold of) h = h.2

-- ---- nothing fails

pub neither : {A : Type 0} (xs ys : List A) → xs ++ ys ≡ [] → (xs ≡ []) × (ys ≡ [])
neither [] ys h = (refl, h)
neither (x ∷ xs) ys h = absurd cc

pub both-none : {A : Type 0} (xs ys : List A) → xs ≡ [] → ys ≡ [] → xs ++ ys ≡ []
both-none xs ys h k = ap (λ l. l ++ ys) h ∙ k

-- a failure that a test lets pass, and one that it forbids
passes : (test : Bool) (failure : Failure) → (if test then [] else failure ∷ []) ≡ [] → test ≡ true
passes true failure h = refl
passes false failure h = absurd cc

passed : (test : Bool) (failure : Failure) → test ≡ true → (if test then [] else failure ∷ []) ≡ []
passed true failure h = refl
passed false failure h = absurd cc

fails : (test : Bool) (failure : Failure) → (if test then failure ∷ [] else []) ≡ [] → test ≡ false
fails true failure h = absurd cc
fails false failure h = refl

failed : (test : Bool) (failure : Failure) → test ≡ false → (if test then failure ∷ [] else []) ≡ []
failed true failure h = absurd cc
failed false failure h = refl

pub rule-holds : (place : Place) (number : ℕ) (test : Bool) → rule place number test ≡ [] → test ≡ true
rule-holds place number test h = passes test (Failure.Rule place number) h

pub rule-kept : (place : Place) (number : ℕ) (test : Bool) → test ≡ true → rule place number test ≡ []
rule-kept place number test h = passed test (Failure.Rule place number) h

pub two-hold : (place : Place) (m n : ℕ) (a b : Bool) → rule place m a ++ rule place n b ≡ [] → (a ≡ true) × (b ≡ true)
two-hold place m n a b h = let parts = neither (rule place m a) (rule place n b) h in (rule-holds place m a parts.0, rule-holds place n b parts.1)

pub two-kept : (place : Place) (m n : ℕ) (a b : Bool) → a ≡ true → b ≡ true → rule place m a ++ rule place n b ≡ []
two-kept place m n a b h k = both-none (rule place m a) (rule place n b) (rule-kept place m a h) (rule-kept place n b k)

three-hold : (place : Place) (l m n : ℕ) (a b c : Bool) → rule place l a ++ rule place m b ++ rule place n c ≡ [] → (a ≡ true) × (b ≡ true) × (c ≡ true)
three-hold place l m n a b c h =
    let parts = neither (rule place l a ++ rule place m b) (rule place n c) h in
    let front = two-hold place l m a b parts.0 in
    (front.0, front.1, rule-holds place n c parts.1)

three-kept : (place : Place) (l m n : ℕ) (a b c : Bool) → a ≡ true → b ≡ true → c ≡ true → rule place l a ++ rule place m b ++ rule place n c ≡ []
three-kept place l m n a b c h i j = both-none (rule place l a ++ rule place m b) (rule place n c) (two-kept place l m a b h i) (rule-kept place n c j)

-- ---- limits

pub limited : (greatest value : ℕ) (failure : Failure) → (if nat_lt greatest value then failure ∷ [] else []) ≡ [] → value ≤ greatest
limited greatest value failure h = ltb-false greatest value (fails (nat_lt greatest value) failure h)

unlimited : (greatest value : ℕ) (failure : Failure) → value ≤ greatest → (if nat_lt greatest value then failure ∷ [] else []) ≡ []
unlimited greatest value failure h = failed (nat_lt greatest value) failure (le-ltb greatest value h)

each-limited : (greatest : ℕ) (failure : ℕ → Failure) (shape : List ℕ) → flat_map (λ n. if nat_lt greatest n then failure n ∷ [] else []) shape ≡ []
    → list_all (λ n. nat_le n greatest) shape ≡ true
each-limited greatest failure [] h = refl
each-limited greatest failure (n ∷ shape) h =
    let parts = neither (if nat_lt greatest n then failure n ∷ [] else []) (flat_map (λ n. if nat_lt greatest n then failure n ∷ [] else []) shape) h in
    and_from (nat_le n greatest) _ (le-leb n greatest (limited greatest n (failure n) parts.0)) (each-limited greatest failure shape parts.1)

each-unlimited : (greatest : ℕ) (failure : ℕ → Failure) (shape : List ℕ) → list_all (λ n. nat_le n greatest) shape ≡ true
    → flat_map (λ n. if nat_lt greatest n then failure n ∷ [] else []) shape ≡ []
each-unlimited greatest failure [] h = refl
each-unlimited greatest failure (n ∷ shape) h =
    let parts = and_parts (nat_le n greatest) (list_all (λ n. nat_le n greatest) shape) h in
    both-none (if nat_lt greatest n then failure n ∷ [] else []) (flat_map (λ n. if nat_lt greatest n then failure n ∷ [] else []) shape)
    (unlimited greatest n (failure n) (leb-true n greatest parts.0)) (each-unlimited greatest failure shape parts.1)

pub limits-shape : (place : Place) (shape : List ℕ) → shape_limits place shape ≡ [] → IsShape shape
limits-shape place shape h =
    let parts = neither _ _ h in
    let front = neither _ _ parts.0 in
    and_from (nat_le (length shape) 6) (are_small shape) (le-leb (length shape) 6 (limited 6 (length shape) _ front.0))
    (and_from (list_all (λ n. nat_le n greatest_extent) shape) (nat_le (span shape) greatest_extent) (each-limited greatest_extent _ shape front.1)
    (le-leb (span shape) greatest_extent (limited greatest_extent (span shape) _ parts.1)))

pub shape-limits : (place : Place) (shape : List ℕ) → IsShape shape → shape_limits place shape ≡ []
shape-limits place shape h =
    let parts = and_parts (nat_le (length shape) 6) (are_small shape) h in
    let small = and_parts (list_all (λ n. nat_le n greatest_extent) shape) (nat_le (span shape) greatest_extent) parts.1 in
    both-none _ _
    (both-none _ _
    (unlimited 6 (length shape) _ (leb-true (length shape) 6 parts.0)) (each-unlimited greatest_extent _ shape small.0))
    (unlimited greatest_extent (span shape) _ (leb-true (span shape) greatest_extent small.1))

pub extent-small : (n : ℕ) → IsShape (n ∷ []) → n ≤ greatest_extent
extent-small n h =
    let small = (and_parts (nat_le (length (n ∷ [])) 6) (are_small (n ∷ [])) h).1 in
    let each = (and_parts (list_all (λ m. nat_le m greatest_extent) (n ∷ [])) (nat_le (span (n ∷ [])) greatest_extent) small).0 in
    leb-true n greatest_extent (and_parts (nat_le n greatest_extent) (list_all (λ m. nat_le m greatest_extent) []) each).0

-- ---- a node after its operands

pub judged-none : {A : Type 0} (broken : List Failure) (made a : A) → judged broken made ≡ Ok a → broken ≡ []
judged-none [] made a h = refl
judged-none (first ∷ others) made a h = absurd cc

pub judged-kept : {A : Type 0} (broken : List Failure) (made : A) → broken ≡ [] → judged broken made ≡ Ok made
judged-kept [] made h = refl
judged-kept (first ∷ others) made h = absurd cc

shaped-sound : (at : ℕ) (broken : List Failure) (shape s : List ℕ) → shaped at broken shape ≡ Ok s → (broken ≡ []) × IsShape shape
shaped-sound at broken shape s h =
    let parts = neither broken (shape_limits (Place.Node at) shape) (judged-none (broken ++ shape_limits (Place.Node at) shape) shape s h) in
    (parts.0, limits-shape (Place.Node at) shape parts.1)

shaped-kept : (at : ℕ) (broken : List Failure) (shape : List ℕ) → broken ≡ [] → IsShape shape → shaped at broken shape ≡ Ok shape
shaped-kept at broken shape h k =
    judged-kept (broken ++ shape_limits (Place.Node at) shape) shape (both-none broken (shape_limits (Place.Node at) shape) h (shape-limits (Place.Node at) shape k))

one-sound : (at : ℕ) (broken : List ℕ → List Failure) (shape : List ℕ → List ℕ) (before : Result (List ℕ) Failure) (operand b : List ℕ)
    → ((s : List ℕ) → before ≡ Ok s → s ≡ operand) → and_then before (λ s. shaped at (broken s) (shape s)) ≡ Ok b
    → (before ≡ Ok operand) × (broken operand ≡ []) × IsShape (shape operand)
one-sound at broken shape before operand b h e =
    let parts = and_then-ok before (λ s. shaped at (broken s) (shape s)) b e in
    let same = h parts.made parts.first in
    let sound = shaped-sound at (broken parts.made) (shape parts.made) b parts.second in
    (parts.first ∙ ap (λ s. Ok s) same, ap broken (sym same) ∙ sound.0, rw same at sound.1)

one-kept : (at : ℕ) (broken : List ℕ → List Failure) (shape : List ℕ → List ℕ) (before : Result (List ℕ) Failure) (operand : List ℕ)
    → before ≡ Ok operand → broken operand ≡ [] → IsShape (shape operand) → and_then before (λ s. shaped at (broken s) (shape s)) ≡ Ok (shape operand)
one-kept at broken shape before operand e h k =
    ap (λ r. and_then r (λ s. shaped at (broken s) (shape s))) e ∙ shaped-kept at (broken operand) (shape operand) h k

both-sound : (at : ℕ) (broken : List ℕ → List ℕ → List Failure) (shape : List ℕ → List ℕ → List ℕ) (before next : Result (List ℕ) Failure) (left right b : List ℕ)
    → ((s : List ℕ) → before ≡ Ok s → s ≡ left) → ((s : List ℕ) → next ≡ Ok s → s ≡ right)
    → and_then before (λ s. and_then next (λ t. shaped at (broken s t) (shape s t))) ≡ Ok b
    → (before ≡ Ok left) × (next ≡ Ok right) × (broken left right ≡ []) × IsShape (shape left right)
both-sound at broken shape before next left right b h k e =
    let parts = and_then-ok before (λ s. and_then next (λ t. shaped at (broken s t) (shape s t))) b e in
    let same = h parts.made parts.first in
    let later = one-sound at (broken parts.made) (shape parts.made) next right b k parts.second in
    (parts.first ∙ ap (λ s. Ok s) same, later.0, ap (λ s. broken s right) (sym same) ∙ later.1, rw same at later.2)

both-kept : (at : ℕ) (broken : List ℕ → List ℕ → List Failure) (shape : List ℕ → List ℕ → List ℕ) (before next : Result (List ℕ) Failure) (left right : List ℕ)
    → before ≡ Ok left → next ≡ Ok right → broken left right ≡ [] → IsShape (shape left right)
    → and_then before (λ s. and_then next (λ t. shaped at (broken s t) (shape s t))) ≡ Ok (shape left right)
both-kept at broken shape before next left right e f h k =
    ap (λ r. and_then r (λ s. and_then next (λ t. shaped at (broken s t) (shape s t)))) e ∙ one-kept at (broken left) (shape left) next right f h k

-- ---- the verdict

-- what is accepted keeps the rules
pub verdict-sound : (shapes : Shapes) (at : ℕ) (expr : Expr) (s : List ℕ) → verdict shapes at expr ≡ Ok s → IsWell shapes expr
verdict-sound shapes at (Number value) b h = (shaped-sound at [] [] b h).1
verdict-sound shapes at (Use name) b h =
    let parts = shaped-sound at (rule (Place.Node at) 2 (is_declared shapes name)) (beside [] shapes name) b h in
    (rule-holds (Place.Node at) 2 (is_declared shapes name) parts.0, parts.1)
verdict-sound shapes at (Iota extent) b h =
    let parts = shaped-sound at (rule (Place.Node at) 4 (is_natural extent)) (unsigned_abs extent ∷ []) b h in
    (rule-holds (Place.Node at) 4 (is_natural extent) parts.0, parts.1)
verdict-sound shapes at (One op of) b h =
    let parts = one-sound at (λ s. []) (λ s. s) (verdict shapes (suc at) of) (shape_of shapes of) b
    (verdict-shape shapes (suc at) of) h in
    (verdict-sound shapes (suc at) of (shape_of shapes of) parts.0, parts.2)
verdict-sound shapes at (Two op left right) b h =
    let parts = both-sound at (λ s t. rule (Place.Node at) 5 (are_equal s t || is_scalar s || is_scalar t)) (λ s t. common s t)
    (verdict shapes (suc at) left) (verdict shapes (suc at + node_count left) right) (shape_of shapes left) (shape_of shapes right) b
    (verdict-shape shapes (suc at) left) (verdict-shape shapes (suc at + node_count left) right) h in (
      verdict-sound shapes (suc at) left (shape_of shapes left) parts.0,
      verdict-sound shapes (suc at + node_count left) right (shape_of shapes right) parts.1,
      rule-holds (Place.Node at) 5 (are_equal (shape_of shapes left) (shape_of shapes right) || is_scalar (shape_of shapes left) || is_scalar (shape_of shapes right)) parts.2,
      parts.3,
    )
verdict-sound shapes at (Psi list of) b h =
    let parts = one-sound at (λ s. rule (Place.Node at) 6 (nat_le (length list) (length s)) ++ rule (Place.Node at) 7 (each_entry is_place list s)) (λ s. drop (length list) s) (verdict shapes (suc at) of) (shape_of shapes of) b
    (verdict-shape shapes (suc at) of) h in
    let rules = two-hold (Place.Node at) 6 7 (nat_le (length list) (length (shape_of shapes of))) (each_entry is_place list (shape_of shapes of)) parts.1 in
    (verdict-sound shapes (suc at) of (shape_of shapes of) parts.0, rules.0, rules.1, parts.2)
verdict-sound shapes at (Take list of) b h =
    let parts = one-sound at (λ s. rule (Place.Node at) 8 (nat_le (length list) (length s)) ++ rule (Place.Node at) 9 (each_entry is_part list s)) (λ s. each_extent taken list s) (verdict shapes (suc at) of) (shape_of shapes of) b
    (verdict-shape shapes (suc at) of) h in
    let rules = two-hold (Place.Node at) 8 9 (nat_le (length list) (length (shape_of shapes of))) (each_entry is_part list (shape_of shapes of)) parts.1 in
    (verdict-sound shapes (suc at) of (shape_of shapes of) parts.0, rules.0, rules.1, parts.2)
verdict-sound shapes at (Drop list of) b h =
    let parts = one-sound at (λ s. rule (Place.Node at) 10 (nat_le (length list) (length s)) ++ rule (Place.Node at) 11 (each_entry is_part list s)) (λ s. each_extent remaining list s) (verdict shapes (suc at) of) (shape_of shapes of) b
    (verdict-shape shapes (suc at) of) h in
    let rules = two-hold (Place.Node at) 10 11 (nat_le (length list) (length (shape_of shapes of))) (each_entry is_part list (shape_of shapes of)) parts.1 in
    (verdict-sound shapes (suc at) of (shape_of shapes of) parts.0, rules.0, rules.1, parts.2)
verdict-sound shapes at (Reverse of) b h =
    let parts = one-sound at (λ s. rule (Place.Node at) 12 (not (is_scalar s))) (λ s. s) (verdict shapes (suc at) of) (shape_of shapes of) b
    (verdict-shape shapes (suc at) of) h in
    (verdict-sound shapes (suc at) of (shape_of shapes of) parts.0, rule-holds (Place.Node at) 12 (not (is_scalar (shape_of shapes of))) parts.1, parts.2)
verdict-sound shapes at (Rotate by of) b h =
    let parts = one-sound at (λ s. rule (Place.Node at) 13 (not (is_scalar s))) (λ s. s) (verdict shapes (suc at) of) (shape_of shapes of) b
    (verdict-shape shapes (suc at) of) h in
    (verdict-sound shapes (suc at) of (shape_of shapes of) parts.0, rule-holds (Place.Node at) 13 (not (is_scalar (shape_of shapes of))) parts.1, parts.2)
verdict-sound shapes at (Transpose of) b h =
    let parts = one-sound at (λ s. []) (λ s. reverse s) (verdict shapes (suc at) of) (shape_of shapes of) b
    (verdict-shape shapes (suc at) of) h in
    (verdict-sound shapes (suc at) of (shape_of shapes of) parts.0, parts.2)
verdict-sound shapes at (Permute list of) b h =
    let parts = one-sound at (λ s. rule (Place.Node at) 14 (length list == length s) ++ rule (Place.Node at) 15 (is_permutation list)) (λ s. selected (naturals list) s) (verdict shapes (suc at) of) (shape_of shapes of) b
    (verdict-shape shapes (suc at) of) h in
    let rules = two-hold (Place.Node at) 14 15 (length list == length (shape_of shapes of)) (is_permutation list) parts.1 in
    (verdict-sound shapes (suc at) of (shape_of shapes of) parts.0, rules.0, rules.1, parts.2)
verdict-sound shapes at (Cat left right) b h =
    let parts = both-sound at (λ s t. rule (Place.Node at) 16 (length s == length t) ++ rule (Place.Node at) 17 (not (is_scalar s)) ++ rule (Place.Node at) 18 (are_equal (drop 1 s) (drop 1 t))) (λ s t. joined 0 s t)
    (verdict shapes (suc at) left) (verdict shapes (suc at + node_count left) right) (shape_of shapes left) (shape_of shapes right) b
    (verdict-shape shapes (suc at) left) (verdict-shape shapes (suc at + node_count left) right) h in
    let rules = three-hold (Place.Node at) 16 17 18 (length (shape_of shapes left) == length (shape_of shapes right))
    (not (is_scalar (shape_of shapes left))) (are_equal (drop 1 (shape_of shapes left)) (drop 1 (shape_of shapes right))) parts.2 in (
      verdict-sound shapes (suc at) left (shape_of shapes left) parts.0,
      verdict-sound shapes (suc at + node_count left) right (shape_of shapes right) parts.1,
      rules.0,
      rules.1,
      rules.2,
      parts.3,
    )
verdict-sound shapes at (Reshape list of) b h =
    let parts = one-sound at (λ s. rule (Place.Node at) 19 (list_all is_natural list) ++ rule (Place.Node at) 20 (total (naturals list) == total s)) (λ s. naturals list) (verdict shapes (suc at) of) (shape_of shapes of) b
    (verdict-shape shapes (suc at) of) h in
    let rules = two-hold (Place.Node at) 19 20 (list_all is_natural list) (total (naturals list) == total (shape_of shapes of)) parts.1 in
    (verdict-sound shapes (suc at) of (shape_of shapes of) parts.0, rules.0, rules.1, parts.2)
verdict-sound shapes at (Ravel of) b h =
    let parts = one-sound at (λ s. []) (λ s. total s ∷ []) (verdict shapes (suc at) of) (shape_of shapes of) b
    (verdict-shape shapes (suc at) of) h in
    (verdict-sound shapes (suc at) of (shape_of shapes of) parts.0, parts.2)
verdict-sound shapes at (Outer op left right) b h =
    let parts = both-sound at (λ s t. []) (λ s t. s ++ t)
    (verdict shapes (suc at) left) (verdict shapes (suc at + node_count left) right) (shape_of shapes left) (shape_of shapes right) b
    (verdict-shape shapes (suc at) left) (verdict-shape shapes (suc at + node_count left) right) h in
    (verdict-sound shapes (suc at) left (shape_of shapes left) parts.0, verdict-sound shapes (suc at + node_count left) right (shape_of shapes right) parts.1, parts.3)
verdict-sound shapes at (Inner fold op left right) b h =
    let parts = both-sound at (λ s t. rule (Place.Node at) 21 (not (is_scalar s || is_scalar t)) ++ rule (Place.Node at) 22 (slice_index s (length s - 1) == slice_index t 0)) (λ s t. but_last s ++ drop 1 t)
    (verdict shapes (suc at) left) (verdict shapes (suc at + node_count left) right) (shape_of shapes left) (shape_of shapes right) b
    (verdict-shape shapes (suc at) left) (verdict-shape shapes (suc at + node_count left) right) h in
    let rules = two-hold (Place.Node at) 21 22 (not (is_scalar (shape_of shapes left) || is_scalar (shape_of shapes right)))
    (slice_index (shape_of shapes left) (length (shape_of shapes left) - 1) == slice_index (shape_of shapes right) 0) parts.2 in (
      verdict-sound shapes (suc at) left (shape_of shapes left) parts.0,
      verdict-sound shapes (suc at + node_count left) right (shape_of shapes right) parts.1,
      rules.0,
      rules.1,
      parts.3,
    )
verdict-sound shapes at (Reduce fold of) b h =
    let parts = one-sound at (λ s. rule (Place.Node at) 23 (not (is_scalar s))) (λ s. remove s 0) (verdict shapes (suc at) of) (shape_of shapes of) b
    (verdict-shape shapes (suc at) of) h in
    (verdict-sound shapes (suc at) of (shape_of shapes of) parts.0, rule-holds (Place.Node at) 23 (not (is_scalar (shape_of shapes of))) parts.1, parts.2)
verdict-sound shapes at (Scan fold of) b h =
    let parts = one-sound at (λ s. rule (Place.Node at) 24 (not (is_scalar s))) (λ s. s) (verdict shapes (suc at) of) (shape_of shapes of) b
    (verdict-shape shapes (suc at) of) h in
    (verdict-sound shapes (suc at) of (shape_of shapes of) parts.0, rule-holds (Place.Node at) 24 (not (is_scalar (shape_of shapes of))) parts.1, parts.2)

-- and what keeps the rules is accepted, wherever it stands
pub verdict-kept : (shapes : Shapes) (at : ℕ) (expr : Expr) → IsWell shapes expr → verdict shapes at expr ≡ Ok (shape_of shapes expr)
verdict-kept shapes at (Number value) h = shaped-kept at [] [] refl h
verdict-kept shapes at (Use name) h =
    shaped-kept at (rule (Place.Node at) 2 (is_declared shapes name)) (beside [] shapes name) (rule-kept (Place.Node at) 2 (is_declared shapes name) h.0) h.1
verdict-kept shapes at (Iota extent) h =
    shaped-kept at (rule (Place.Node at) 4 (is_natural extent)) (unsigned_abs extent ∷ []) (rule-kept (Place.Node at) 4 (is_natural extent) h.0) h.1
verdict-kept shapes at (One op of) h =
    one-kept at (λ s. []) (λ s. s) (verdict shapes (suc at) of) (shape_of shapes of)
    (verdict-kept shapes (suc at) of h.0) refl h.1
verdict-kept shapes at (Two op left right) h =
    both-kept at (λ s t. rule (Place.Node at) 5 (are_equal s t || is_scalar s || is_scalar t)) (λ s t. common s t)
    (verdict shapes (suc at) left) (verdict shapes (suc at + node_count left) right) (shape_of shapes left) (shape_of shapes right)
    (verdict-kept shapes (suc at) left h.0) (verdict-kept shapes (suc at + node_count left) right h.1)
    (rule-kept (Place.Node at) 5 (are_equal (shape_of shapes left) (shape_of shapes right) || is_scalar (shape_of shapes left) || is_scalar (shape_of shapes right)) h.2) h.3
verdict-kept shapes at (Psi list of) h =
    one-kept at (λ s. rule (Place.Node at) 6 (nat_le (length list) (length s)) ++ rule (Place.Node at) 7 (each_entry is_place list s)) (λ s. drop (length list) s) (verdict shapes (suc at) of) (shape_of shapes of)
    (verdict-kept shapes (suc at) of h.0) (two-kept (Place.Node at) 6 7 (nat_le (length list) (length (shape_of shapes of))) (each_entry is_place list (shape_of shapes of)) h.1 h.2) h.3
verdict-kept shapes at (Take list of) h =
    one-kept at (λ s. rule (Place.Node at) 8 (nat_le (length list) (length s)) ++ rule (Place.Node at) 9 (each_entry is_part list s)) (λ s. each_extent taken list s) (verdict shapes (suc at) of) (shape_of shapes of)
    (verdict-kept shapes (suc at) of h.0) (two-kept (Place.Node at) 8 9 (nat_le (length list) (length (shape_of shapes of))) (each_entry is_part list (shape_of shapes of)) h.1 h.2) h.3
verdict-kept shapes at (Drop list of) h =
    one-kept at (λ s. rule (Place.Node at) 10 (nat_le (length list) (length s)) ++ rule (Place.Node at) 11 (each_entry is_part list s)) (λ s. each_extent remaining list s) (verdict shapes (suc at) of) (shape_of shapes of)
    (verdict-kept shapes (suc at) of h.0) (two-kept (Place.Node at) 10 11 (nat_le (length list) (length (shape_of shapes of))) (each_entry is_part list (shape_of shapes of)) h.1 h.2) h.3
verdict-kept shapes at (Reverse of) h =
    one-kept at (λ s. rule (Place.Node at) 12 (not (is_scalar s))) (λ s. s) (verdict shapes (suc at) of) (shape_of shapes of)
    (verdict-kept shapes (suc at) of h.0) (rule-kept (Place.Node at) 12 (not (is_scalar (shape_of shapes of))) h.1) h.2
verdict-kept shapes at (Rotate by of) h =
    one-kept at (λ s. rule (Place.Node at) 13 (not (is_scalar s))) (λ s. s) (verdict shapes (suc at) of) (shape_of shapes of)
    (verdict-kept shapes (suc at) of h.0) (rule-kept (Place.Node at) 13 (not (is_scalar (shape_of shapes of))) h.1) h.2
verdict-kept shapes at (Transpose of) h =
    one-kept at (λ s. []) (λ s. reverse s) (verdict shapes (suc at) of) (shape_of shapes of)
    (verdict-kept shapes (suc at) of h.0) refl h.1
verdict-kept shapes at (Permute list of) h =
    one-kept at (λ s. rule (Place.Node at) 14 (length list == length s) ++ rule (Place.Node at) 15 (is_permutation list)) (λ s. selected (naturals list) s) (verdict shapes (suc at) of) (shape_of shapes of)
    (verdict-kept shapes (suc at) of h.0) (two-kept (Place.Node at) 14 15 (length list == length (shape_of shapes of)) (is_permutation list) h.1 h.2) h.3
verdict-kept shapes at (Cat left right) h =
    both-kept at (λ s t. rule (Place.Node at) 16 (length s == length t) ++ rule (Place.Node at) 17 (not (is_scalar s)) ++ rule (Place.Node at) 18 (are_equal (drop 1 s) (drop 1 t))) (λ s t. joined 0 s t)
    (verdict shapes (suc at) left) (verdict shapes (suc at + node_count left) right) (shape_of shapes left) (shape_of shapes right)
    (verdict-kept shapes (suc at) left h.0) (verdict-kept shapes (suc at + node_count left) right h.1)
    (three-kept (Place.Node at) 16 17 18 (length (shape_of shapes left) == length (shape_of shapes right))
    (not (is_scalar (shape_of shapes left))) (are_equal (drop 1 (shape_of shapes left)) (drop 1 (shape_of shapes right))) h.2 h.3 h.4) h.5
verdict-kept shapes at (Reshape list of) h =
    one-kept at (λ s. rule (Place.Node at) 19 (list_all is_natural list) ++ rule (Place.Node at) 20 (total (naturals list) == total s)) (λ s. naturals list) (verdict shapes (suc at) of) (shape_of shapes of)
    (verdict-kept shapes (suc at) of h.0) (two-kept (Place.Node at) 19 20 (list_all is_natural list) (total (naturals list) == total (shape_of shapes of)) h.1 h.2) h.3
verdict-kept shapes at (Ravel of) h =
    one-kept at (λ s. []) (λ s. total s ∷ []) (verdict shapes (suc at) of) (shape_of shapes of)
    (verdict-kept shapes (suc at) of h.0) refl h.1
verdict-kept shapes at (Outer op left right) h =
    both-kept at (λ s t. []) (λ s t. s ++ t)
    (verdict shapes (suc at) left) (verdict shapes (suc at + node_count left) right) (shape_of shapes left) (shape_of shapes right)
    (verdict-kept shapes (suc at) left h.0) (verdict-kept shapes (suc at + node_count left) right h.1) refl h.2
verdict-kept shapes at (Inner fold op left right) h =
    both-kept at (λ s t. rule (Place.Node at) 21 (not (is_scalar s || is_scalar t)) ++ rule (Place.Node at) 22 (slice_index s (length s - 1) == slice_index t 0)) (λ s t. but_last s ++ drop 1 t)
    (verdict shapes (suc at) left) (verdict shapes (suc at + node_count left) right) (shape_of shapes left) (shape_of shapes right)
    (verdict-kept shapes (suc at) left h.0) (verdict-kept shapes (suc at + node_count left) right h.1)
    (two-kept (Place.Node at) 21 22 (not (is_scalar (shape_of shapes left) || is_scalar (shape_of shapes right)))
    (slice_index (shape_of shapes left) (length (shape_of shapes left) - 1) == slice_index (shape_of shapes right) 0) h.2 h.3) h.4
verdict-kept shapes at (Reduce fold of) h =
    one-kept at (λ s. rule (Place.Node at) 23 (not (is_scalar s))) (λ s. remove s 0) (verdict shapes (suc at) of) (shape_of shapes of)
    (verdict-kept shapes (suc at) of h.0) (rule-kept (Place.Node at) 23 (not (is_scalar (shape_of shapes of))) h.1) h.2
verdict-kept shapes at (Scan fold of) h =
    one-kept at (λ s. rule (Place.Node at) 24 (not (is_scalar s))) (λ s. s) (verdict shapes (suc at) of) (shape_of shapes of)
    (verdict-kept shapes (suc at) of h.0) (rule-kept (Place.Node at) 24 (not (is_scalar (shape_of shapes of))) h.1) h.2

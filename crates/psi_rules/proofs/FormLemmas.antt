-- The form of an accepted expression gives its array: one line an operator.
use Rattle.std.specs.Prelude.{◌≡◌, ℕ, suc, ◌+◌, ◌-◌, ◌*◌, Bool, true, false, ℤ, pos, List, [], ◌∷◌, ◌++◌, drop, length, map, reverse, slice_index, slice_index_or, take, unsigned_abs, if◌then◌else◌}
use Rattle.std.specs.List.{flat_map, insert, remove}
use Rattle.std.specs.Str.{bytes_eq}
use Rattle.std.proofs.Common.{refl, ap, sym, subst, ◌∙◌, arith}
use Rattle.std.proofs.lemmas.Grind.{flat_map-append}
use Rattle.shapes_core.specs.Gamma.{IsIndex, gamma, ungamma}
use Rattle.shapes_core.specs.Shape.{total}
use Rattle.moa_tree.specs.Axes.{but_last, common, each_extent, each_place, joined, mirrored, naturals, on_axis, own_index, remaining, remaining_from, restored, selected, taken, taken_from, turned}
use Rattle.moa_tree.specs.Expr.{Expr, Number, Use, Iota, One, Two, Psi, Take, Drop, Reverse, Rotate, Transpose, Permute, Cat, Reshape, Ravel, Outer, Inner, Reduce, Scan}
use Rattle.moa_tree.specs.Folds.{fold_below}
use Rattle.moa_tree.specs.Operators.{apply}
use Rattle.moa_tree.specs.ShapeOf.{beside, shape_of}
use Rattle.moa_tree.specs.Subexpressions.{if_scan, scans_in, subexpressions}
use Rattle.moa_tree.specs.Values.{Env, Known, either_part, shape_in, shapes_of, unknown, value}
use Rattle.normal_form.specs.declared.entry.Entry.{Entry}
use Rattle.normal_form.specs.declared.entry.Entry.TheVariants.{At}
use Rattle.normal_form.specs.Formers.{Former, folding, joining, on_both, reshaping, turning}
use Rattle.normal_form.specs.Forms.{Bin}
use Rattle.normal_form.specs.Meaning.{Store}
use Rattle.normal_form.specs.Moves.{behind_entry, mirrored_entry, remaining_entry, taken_entry}
use Rattle.normal_form.specs.Stands.{Gives, Moves, Represents}
use Rattle.psi_rules.specs.Agrees.{AreNamed, HoldEach}
use Rattle.psi_rules.specs.Operands.{IsAccepted, OperandsMove}
use Rattle.psi_rules.specs.Rules.{Named, Names, form, loading, nameless, scan_behind, shape_in as named_shape, shapes_of as named_shapes}
use Rattle.psi_rules.proofs.LawLemmas.{FormerLaws}

-- ---- arrays that are equal at each index vector

pub represents-same : (s : Store) (of : Former) (shape : List ℕ) (at over : List ℕ → ℤ) → Represents s of shape at
    → ((index : List ℕ) → IsIndex index shape → at index ≡ over index) → Represents s of shape over
represents-same s of shape at over h same = record {
  grows = h.grows;
  gives = λ m entries next index below stand inside.
      subst (Gives s m (of entries next).0) (same index inside) (h.gives m entries next index below stand inside);
}

-- ---- names

pub same-shapes : (s : Store) (names : Names) (env : Env) → AreNamed s names env → shapes_of env ≡ named_shapes names
same-shapes s [] [] h = refl
same-shapes s [] (known ∷ env) h = absurd h
same-shapes s (named ∷ names) [] h = absurd h
same-shapes s (named ∷ names) (known ∷ env) h =
    ap (λ name. (name, known.1.shape) ∷ shapes_of env) (sym h.0.0)
    ∙ ap (λ shape. (named.0, shape) ∷ shapes_of env) (sym h.0.1)
    ∙ ap (λ shapes. (named.0, named.1.shape) ∷ shapes) (same-shapes s names env h.1)

one-named : (s : Store) (test : Bool) (named other : Named) (known another : Known) (shape : List ℕ)
    → Represents s named.form known.shape known.at → Represents s other.form shape another.at
    → Represents s (if test then named else other).form (if test then known.shape else shape) (if test then known else another).at
one-named s true named other known another shape h k = h
one-named s false named other known another shape h k = k

named-represents : (s : Store) → FormerLaws s → (names : Names) (env : Env) (name : List ℕ) → AreNamed s names env
    → Represents s (beside nameless names name).form (beside [] (shapes_of env) name) (beside unknown env name).at
named-represents s law [] [] name h = law.constant (pos 0)
named-represents s law [] (known ∷ env) name h = absurd h
named-represents s law (named ∷ names) [] name h = absurd h
named-represents s law (named ∷ names) (known ∷ env) name h =
    let found = one-named s (bytes_eq known.0 name) named.1 (beside nameless names name) known.1 (beside unknown env name)
    (beside [] (shapes_of env) name)
    h.0.2 (named-represents s law names env name h.1) in
    subst (λ first. Represents s (if bytes_eq first name then named.1 else beside nameless names name).form
    (if bytes_eq known.0 name then known.1.shape else beside [] (shapes_of env) name)
    (if bytes_eq known.0 name then known.1 else beside unknown env name).at)
    (sym h.0.0) found

-- ---- scans

held-front : (s : Store) (env : Env) (scan : ℕ) (front back : List Expr) → HoldEach s env scan (front ++ back)
    → HoldEach s env scan front × HoldEach s env (scan + length front) back
held-front s env scan [] back h = (tt, let e : scan ≡ scan + 0 = omega arith in subst (λ area. HoldEach s env area back) e h)
held-front s env scan (expr ∷ front) back h =
    let rest = held-front s env (suc scan) front back h.1 in
    let e : suc scan + length front ≡ scan + suc (length front) = omega arith in
    ((h.0, rest.0), subst (λ area. HoldEach s env area back) e rest.1)

pub held-both : (s : Store) (env : Env) (scan : ℕ) (left right : Expr)
    → HoldEach s env scan (flat_map if_scan (subexpressions left ++ subexpressions right))
    → HoldEach s env scan (scans_in left) × HoldEach s env (scan_behind scan left) (scans_in right)
held-both s env scan left right h =
    held-front s env scan (scans_in left) (scans_in right)
    (subst (λ scans. HoldEach s env scan scans) (flat_map-append if_scan (subexpressions left) (subexpressions right)) h)

-- ---- the rules

module _ (s : Store) (law : FormerLaws s) (names : Names) (env : Env) (agree : AreNamed s names env) (operand : OperandsMove (shapes_of env)) where
  same-in : (of : Expr) → shape_in env of ≡ named_shape names of
  same-in of = ap (λ shapes. shape_of shapes of) (same-shapes s names env agree)

  -- a view whose move is by the shape that the rules know of the operand
  view : (move : List ℕ → List Entry → List Entry) (places : List ℕ → List ℕ) (scan : ℕ) (of : Expr) (shape : List ℕ)
      → Represents s (form names scan of) (shape_in env of) (value env of) → Moves (move (shape_in env of)) places shape (shape_in env of)
      → Represents s (λ entries. form names scan of (move (named_shape names of) entries)) shape (λ index. value env of (places index))
  view move places scan of shape h moves =
      subst (λ known. Represents s (λ entries. form names scan of (move known entries)) shape (λ index. value env of (places index))) (same-in of)
      (law.moved (form names scan of) shape (shape_in env of) (value env of) (move (shape_in env of)) places h moves)

  pub represented : (scan : ℕ) (expr : Expr) → HoldEach s env scan (scans_in expr) → IsAccepted (shapes_of env) expr
      → Represents s (form names scan expr) (shape_in env expr) (value env expr)
  represented scan (Number number) held h = law.constant number
  represented scan (Use name) held h = named-represents s law names env name agree
  represented scan (Iota extent) held h = law.numbers (unsigned_abs extent)
  represented scan (One op of) held h =
      law.one op (form names scan of) (shape_in env of) (value env of) (represented scan of held (operand.one op of h))
  represented scan (Two op left right) held h =
      let u = shape_in env left in
      let t = shape_in env right in
      let k = operand.two op left right h in
      let both = held-both s env scan left right held in
      law.two op (λ entries. form names scan left (own_index (named_shape names left) entries))
      (λ entries. form names (scan_behind scan left) right (own_index (named_shape names right) entries)) (common u t)
      (λ index. value env left (own_index u index)) (λ index. value env right (own_index t index))
      (view own_index (own_index u) scan left (common u t) (represented scan left both.0 k.0) k.2)
      (view own_index (own_index t) (scan_behind scan left) right (common u t) (represented (scan_behind scan left) right both.1 k.1) k.3)
  represented scan (Psi list of) held h =
      let k = operand.psi list of h in
      view (λ shape entries. map At list ++ entries) (λ index. naturals list ++ index) scan of (drop (length list) (shape_in env of))
      (represented scan of held k.0) k.1
  represented scan (Take list of) held h =
      let k = operand.takes list of h in
      view (each_place taken_entry list) (each_place taken_from list (shape_in env of)) scan of (each_extent taken list (shape_in env of))
      (represented scan of held k.0) k.1
  represented scan (Drop list of) held h =
      let k = operand.drops list of h in
      view (each_place remaining_entry list) (each_place remaining_from list (shape_in env of)) scan of (each_extent remaining list (shape_in env of))
      (represented scan of held k.0) k.1
  represented scan (Reverse of) held h =
      let k = operand.reverses of h in
      view (on_axis 0 mirrored_entry) (on_axis 0 mirrored (shape_in env of)) scan of (shape_in env of) (represented scan of held k.0) k.1
  represented scan (Rotate by of) held h =
      let k = operand.rotates by of h in
      subst (λ known. Represents s
      (λ entries. turning (turned by (slice_index known 0) 0) (slice_index known 0) (slice_index_or entries 0 (At (pos 0)))
      (λ entry. form names scan of (on_axis 0 (λ extent old. entry) known entries)))
      (shape_in env of) (λ index. value env of (on_axis 0 (turned by) (shape_in env of) index))) (same-in of)
      (law.turns by (form names scan of) (shape_in env of) (value env of) k.1 (represented scan of held k.0))
  represented scan (Transpose of) held h =
      let k = operand.transposes of h in
      view (λ shape entries. reverse entries) (λ index. reverse index) scan of (reverse (shape_in env of)) (represented scan of held k.0) k.1
  represented scan (Permute list of) held h =
      let k = operand.permutes list of h in
      view (λ shape. restored (At (pos 0)) (naturals list)) (restored 0 (naturals list)) scan of (selected (naturals list) (shape_in env of))
      (represented scan of held k.0) k.1
  represented scan (Cat left right) held h =
      let u = shape_in env left in
      let t = shape_in env right in
      let k = operand.cat left right h in
      let both = held-both s env scan left right held in
      subst (λ known. Represents s
      (λ entries. joining (slice_index known 0) (slice_index (named_shape names right) 0) (slice_index_or entries 0 (At (pos 0)))
      (form names scan left entries) (form names (scan_behind scan left) right (on_axis 0 behind_entry known entries)))
      (joined 0 u t) (either_part 0 u (value env left) (value env right))) (same-in left)
      (subst (λ known. Represents s
      (λ entries. joining (slice_index u 0) (slice_index known 0) (slice_index_or entries 0 (At (pos 0)))
      (form names scan left entries) (form names (scan_behind scan left) right (on_axis 0 behind_entry u entries)))
      (joined 0 u t) (either_part 0 u (value env left) (value env right))) (same-in right)
      (law.joins (form names scan left) (form names (scan_behind scan left) right) (joined 0 u t) u t (value env left) (value env right)
      k.2.some k.2.extent k.2.front k.2.back (represented scan left both.0 k.0) (represented (scan_behind scan left) right both.1 k.1)))
  represented scan (Reshape list of) held h =
      let k = operand.reshapes list of h in
      subst (λ known. Represents s (λ entries. reshaping (naturals list) known entries (form names scan of))
      (naturals list) (λ index. value env of (ungamma (shape_in env of) (gamma index (naturals list))))) (same-in of)
      (law.reshapes (form names scan of) (naturals list) (shape_in env of) (value env of) k.1 (represented scan of held k.0))
  represented scan (Ravel of) held h =
      let n = total (shape_in env of) in
      let e : n * 1 ≡ n = omega arith in
      subst (λ known. Represents s (λ entries. reshaping (total known ∷ []) known entries (form names scan of))
      (n ∷ []) (λ index. value env of (ungamma (shape_in env of) (gamma index (n ∷ []))))) (same-in of)
      (law.reshapes (form names scan of) (n ∷ []) (shape_in env of) (value env of) e (represented scan of held (operand.ravels of h)))
  represented scan (Outer op left right) held h =
      let u = shape_in env left in
      let t = shape_in env right in
      let k = operand.outer op left right h in
      let both = held-both s env scan left right held in
      subst (λ known. Represents s
      (λ entries. on_both (Bin op) (form names scan left (take (length known) entries))
      (form names (scan_behind scan left) right (drop (length known) entries)))
      (u ++ t) (λ index. apply op (value env left (take (length u) index)) (value env right (drop (length u) index)))) (same-in left)
      (law.two op (λ entries. form names scan left (take (length u) entries))
      (λ entries. form names (scan_behind scan left) right (drop (length u) entries)) (u ++ t)
      (λ index. value env left (take (length u) index)) (λ index. value env right (drop (length u) index))
      (law.moved (form names scan left) (u ++ t) u (value env left) (take (length u)) (take (length u)) (represented scan left both.0 k.0) k.2)
      (law.moved (form names (scan_behind scan left) right) (u ++ t) t (value env right) (drop (length u)) (drop (length u))
      (represented (scan_behind scan left) right both.1 k.1) k.3))
  represented scan (Inner fold op left right) held h =
      let u = shape_in env left in
      let t = shape_in env right in
      let axes = length u - 1 in
      let n = slice_index u axes in
      let shape = but_last u ++ drop 1 t in
      let k = operand.inner fold op left right h in
      let both = held-both s env scan left right held in
      subst (λ known. Represents s
      (λ entries. folding fold (slice_index known (length known - 1))
      (λ i. on_both (Bin op) (form names scan left (take (length known - 1) entries ++ i ∷ []))
      (form names (scan_behind scan left) right (i ∷ drop (length known - 1) entries))))
      shape (λ index. fold_below fold n (λ i. apply op (value env left (take axes index ++ i ∷ [])) (value env right (i ∷ drop axes index)))))
      (same-in left)
      (law.folds fold n
      (λ entries i. on_both (Bin op) (form names scan left (take axes entries ++ i ∷ []))
      (form names (scan_behind scan left) right (i ∷ drop axes entries)))
      shape (λ index i. apply op (value env left (take axes index ++ i ∷ [])) (value env right (i ∷ drop axes index)))
      (law.two op (λ entries. form names scan left (take axes (drop 1 entries) ++ slice_index_or entries 0 (At (pos 0)) ∷ []))
      (λ entries. form names (scan_behind scan left) right (slice_index_or entries 0 (At (pos 0)) ∷ drop axes (drop 1 entries))) (n ∷ shape)
      (λ index. value env left (take axes (drop 1 index) ++ slice_index index 0 ∷ []))
      (λ index. value env right (slice_index index 0 ∷ drop axes (drop 1 index)))
      (law.moved (form names scan left) (n ∷ shape) u (value env left)
      (λ entries. take axes (drop 1 entries) ++ slice_index_or entries 0 (At (pos 0)) ∷ [])
      (λ index. take axes (drop 1 index) ++ slice_index index 0 ∷ []) (represented scan left both.0 k.0) k.2)
      (law.moved (form names (scan_behind scan left) right) (n ∷ shape) t (value env right)
      (λ entries. slice_index_or entries 0 (At (pos 0)) ∷ drop axes (drop 1 entries)) (λ index. slice_index index 0 ∷ drop axes (drop 1 index))
      (represented (scan_behind scan left) right both.1 k.1) k.3)))
  represented scan (Reduce fold of) held h =
      let u = shape_in env of in
      let n = slice_index u 0 in
      let k = operand.reduces fold of h in
      subst (λ known. Represents s (λ entries. folding fold (slice_index known 0) (λ i. form names scan of (insert entries 0 i)))
      (remove u 0) (λ index. fold_below fold n (λ i. value env of (insert index 0 i)))) (same-in of)
      (law.folds fold n (λ entries i. form names scan of (insert entries 0 i)) (remove u 0) (λ index i. value env of (insert index 0 i))
      (law.moved (form names scan of) (n ∷ remove u 0) u (value env of) (λ entries. insert (drop 1 entries) 0 (slice_index_or entries 0 (At (pos 0))))
      (λ index. insert (drop 1 index) 0 (slice_index index 0)) (represented scan of held k.0) k.1))
  represented scan (Scan fold of) held h =
      let u = shape_in env of in
      subst (λ known. Represents s (λ entries. loading scan known entries) u (value env (Scan fold of))) (same-in of)
      (represents-same s (λ entries. loading scan u entries) u (λ index. s scan (gamma index u)) (value env (Scan fold of)) (law.stored scan u)
      held.0)

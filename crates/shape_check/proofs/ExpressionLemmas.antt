-- Where the failure of an expression stands.
use Rattle.std.specs.Prelude.{◌≡◌, ℕ, suc, ◌+◌, ℤ, List, [], ◌∷◌, ◌++◌, map, length, IfOk, OnOk, Some, Result, Ok, Err, slice_get, slice_index_or}
use Rattle.std.proofs.Common.{refl, ap, sym, ◌∙◌, arith, append_assoc, length-append}
use Rattle.std.proofs.Math.Seq.{get_or-append_seam}
use Rattle.std.proofs.lemmas.List.{get_or-map, length-map}
use Rattle.std.proofs.lemmas.Option.{get_or_from_slice_get}
use Rattle.std.proofs.lemmas.Simd.{map-map}
use Rattle.text_tokens.specs.declared.token.Position.{Position}
use Rattle.text_tokens.specs.Tokens.{start}
use Rattle.moa_tree.specs.declared.tree.Node.{Node}
use Rattle.moa_tree.specs.declared.tree.Node.TheVariants as node
use Rattle.moa_tree.specs.Expr.{Expr}
use Rattle.moa_tree.specs.Pool.{expr_of, operands, tree_at, trees, walk_of}
use Rattle.moa_tree.specs.Pools.{Pools}
use Rattle.moa_tree.specs.Positions.{positions_at}
use Rattle.moa_tree.specs.ShapeOf.{Shapes, shape_of}
use Rattle.moa_tree.specs.Subexpressions.{subexpressions}
use Rattle.shape_check.specs.declared.known.Known.{Known}
use Rattle.shape_check.specs.declared.broken.Broken.{Broken}
use Rattle.shape_check.specs.declared.broken.Broken.TheVariants as broken
use Rattle.shape_check.specs.declared.error.CheckError.{CheckError}
use Rattle.shape_check.specs.declared.error.CheckError.TheVariants as error
use Rattle.shape_check.specs.Broken.{failure_at}
use Rattle.shape_check.specs.Costs.{Prices, shapes_of}
use Rattle.shape_check.specs.Judged.{FailsSo, error_in, node_tree}
use Rattle.shape_check.specs.Operated.{error_at, node_at}
use Rattle.shape_check.specs.Rules.{Failure}
use Rattle.shape_check.specs.Kept.{shapes_at}
use Rattle.shape_check.specs.Verdict.{node_count, verdict}
use Rattle.shape_check.specs.Written.{AreWritten}
use Rattle.shape_check.proofs.WrittenLemmas.{shapes-written}

-- ---- an operator fails with its first operand that fails

first-fails : (shapes : Shapes) (at : ℕ) (pool : List ℤ) (t : List Expr) (n : Node) (first : ℕ) (others : List ℕ) (failure : Failure) → operands n ≡ first ∷ others
    → verdict shapes (suc at) (tree_at t first) ≡ Err failure → verdict shapes at (expr_of pool t n) ≡ Err failure
first-fails shapes at pool t (node.Number value) first others failure h e = absurd cc
first-fails shapes at pool t (node.Use name) first others failure h e = absurd cc
first-fails shapes at pool t (node.Iota extent) first others failure h e = absurd cc
first-fails shapes at pool t (node.One op of) first others failure h e = let same : first ≡ of = cc in let moved = rw same at e in rw moved refl
first-fails shapes at pool t (node.Two op left right) first others failure h e = let same : first ≡ left = cc in let moved = rw same at e in rw moved refl
first-fails shapes at pool t (node.Psi list of) first others failure h e = let same : first ≡ of = cc in let moved = rw same at e in rw moved refl
first-fails shapes at pool t (node.Take list of) first others failure h e = let same : first ≡ of = cc in let moved = rw same at e in rw moved refl
first-fails shapes at pool t (node.Drop list of) first others failure h e = let same : first ≡ of = cc in let moved = rw same at e in rw moved refl
first-fails shapes at pool t (node.Reverse of) first others failure h e = let same : first ≡ of = cc in let moved = rw same at e in rw moved refl
first-fails shapes at pool t (node.Rotate by of) first others failure h e = let same : first ≡ of = cc in let moved = rw same at e in rw moved refl
first-fails shapes at pool t (node.Transpose of) first others failure h e = let same : first ≡ of = cc in let moved = rw same at e in rw moved refl
first-fails shapes at pool t (node.Permute list of) first others failure h e = let same : first ≡ of = cc in let moved = rw same at e in rw moved refl
first-fails shapes at pool t (node.Cat left right) first others failure h e = let same : first ≡ left = cc in let moved = rw same at e in rw moved refl
first-fails shapes at pool t (node.Reshape list of) first others failure h e = let same : first ≡ of = cc in let moved = rw same at e in rw moved refl
first-fails shapes at pool t (node.Ravel of) first others failure h e = let same : first ≡ of = cc in let moved = rw same at e in rw moved refl
first-fails shapes at pool t (node.Outer op left right) first others failure h e = let same : first ≡ left = cc in let moved = rw same at e in rw moved refl
first-fails shapes at pool t (node.Inner fold op left right) first others failure h e = let same : first ≡ left = cc in let moved = rw same at e in rw moved refl
first-fails shapes at pool t (node.Reduce fold of) first others failure h e = let same : first ≡ of = cc in let moved = rw same at e in rw moved refl
first-fails shapes at pool t (node.Scan fold of) first others failure h e = let same : first ≡ of = cc in let moved = rw same at e in rw moved refl

second-fails : (shapes : Shapes) (at : ℕ) (pool : List ℤ) (t : List Expr) (n : Node) (first second : ℕ) (s : List ℕ) (failure : Failure) → operands n ≡ first ∷ second ∷ []
    → verdict shapes (suc at) (tree_at t first) ≡ Ok s → verdict shapes (suc at + node_count (tree_at t first)) (tree_at t second) ≡ Err failure
    → verdict shapes at (expr_of pool t n) ≡ Err failure
second-fails shapes at pool t (node.Number value) first second s failure h d e = absurd cc
second-fails shapes at pool t (node.Use name) first second s failure h d e = absurd cc
second-fails shapes at pool t (node.Iota extent) first second s failure h d e = absurd cc
second-fails shapes at pool t (node.One op of) first second s failure h d e = absurd cc
second-fails shapes at pool t (node.Two op left right) first second s failure h d e =
    let one : first ≡ left = cc in let two : second ≡ right = cc in let before = rw one at d in let moved = rw (one, two) at e in rw (before, moved) refl
second-fails shapes at pool t (node.Psi list of) first second s failure h d e = absurd cc
second-fails shapes at pool t (node.Take list of) first second s failure h d e = absurd cc
second-fails shapes at pool t (node.Drop list of) first second s failure h d e = absurd cc
second-fails shapes at pool t (node.Reverse of) first second s failure h d e = absurd cc
second-fails shapes at pool t (node.Rotate by of) first second s failure h d e = absurd cc
second-fails shapes at pool t (node.Transpose of) first second s failure h d e = absurd cc
second-fails shapes at pool t (node.Permute list of) first second s failure h d e = absurd cc
second-fails shapes at pool t (node.Cat left right) first second s failure h d e =
    let one : first ≡ left = cc in let two : second ≡ right = cc in let before = rw one at d in let moved = rw (one, two) at e in rw (before, moved) refl
second-fails shapes at pool t (node.Reshape list of) first second s failure h d e = absurd cc
second-fails shapes at pool t (node.Ravel of) first second s failure h d e = absurd cc
second-fails shapes at pool t (node.Outer op left right) first second s failure h d e =
    let one : first ≡ left = cc in let two : second ≡ right = cc in let before = rw one at d in let moved = rw (one, two) at e in rw (before, moved) refl
second-fails shapes at pool t (node.Inner fold op left right) first second s failure h d e =
    let one : first ≡ left = cc in let two : second ≡ right = cc in let before = rw one at d in let moved = rw (one, two) at e in rw (before, moved) refl
second-fails shapes at pool t (node.Reduce fold of) first second s failure h d e = absurd cc
second-fails shapes at pool t (node.Scan fold of) first second s failure h d e = absurd cc

-- ---- the position of a node in a walk that it stands in

position-there : (positions : List Position) (before behind : List ℕ) (number : ℕ) (at : Position) → slice_get positions number ≡ Some at
    → slice_index_or (positions_at positions (before ++ number ∷ behind)) (length before) start ≡ at
position-there positions before behind number at e =
    get_or-map (λ n. slice_index_or positions n start) (before ++ number ∷ behind) (length before) number start (omega (arith, length-append before (number ∷ behind)))
    ∙ ap (λ n. slice_index_or positions n start) (get_or-append_seam before number behind number)
    ∙ get_or_from_slice_get positions number at start e

error-there : (pools : Pools) (before behind : List ℕ) (number : ℕ) (at : Position) (what : Broken) → slice_get pools.positions number ≡ Some at
    → error_at at what ≡ error_in pools (before ++ number ∷ behind) (failure_at (length before) what)
error-there pools before behind number at (broken.Rule rule) e =
    ap (λ position. error.Rule position rule) (sym (position-there pools.positions before behind number at e))
error-there pools before behind number at (broken.Limit which value) e =
    ap (λ position. error.Limit (Some position) which value) (sym (position-there pools.positions before behind number at e))

pub fails-itself : (pools : Pools) (prices : Prices) (number : ℕ) (rest : List ℕ) (at : Position) (what : Broken) → walk_of pools.nodes number ≡ number ∷ rest
    → slice_get pools.positions number ≡ Some at → ((place : ℕ) → verdict (shapes_of prices) place (node_tree pools number) ≡ Err (failure_at place what))
    → FailsSo pools prices number (error_at at what)
fails-itself pools prices number rest at what walk e h before after = (
  failure_at (length before) what,
  h (length before),
  error-there pools before (rest ++ after) number at what e
      ∙ ap (λ l. error_in pools (before ++ (l ++ after)) (failure_at (length before) what)) (sym walk),
)

-- ---- a failure in an operand is one of the operator

pub fails-first : (pools : Pools) (prices : Prices) (number first : ℕ) (rest others : List ℕ) (error : CheckError)
    → node_tree pools number ≡ expr_of pools.numbers (trees pools.numbers pools.nodes) (node_at pools number) → operands (node_at pools number) ≡ first ∷ others
    → walk_of pools.nodes number ≡ number ∷ (walk_of pools.nodes first ++ rest) → FailsSo pools prices first error → FailsSo pools prices number error
fails-first pools prices number first rest others error tree parts walk h before after =
    let inner = h (before ++ number ∷ []) (rest ++ after) in
    let place : length (before ++ number ∷ []) ≡ suc (length before) = omega (arith, length-append before (number ∷ [])) in
    let failed = ap (λ p. verdict (shapes_of prices) p (node_tree pools first)) (sym place) ∙ inner.1 in
    let list : (before ++ number ∷ []) ++ (walk_of pools.nodes first ++ (rest ++ after)) ≡ before ++ ((number ∷ (walk_of pools.nodes first ++ rest)) ++ after) = simp append_assoc in (
      inner.0,
      ap (λ expr. verdict (shapes_of prices) (length before) expr) tree
          ∙ first-fails (shapes_of prices) (length before) pools.numbers (trees pools.numbers pools.nodes) (node_at pools number) first others inner.0 parts failed,
      inner.2 ∙ ap (λ l. error_in pools l inner.0) (list ∙ ap (λ l. before ++ (l ++ after)) (sym walk)),
    )

pub fails-second : (pools : Pools) (prices : Prices) (number first second : ℕ) (s : List ℕ) (error : CheckError)
    → node_tree pools number ≡ expr_of pools.numbers (trees pools.numbers pools.nodes) (node_at pools number) → operands (node_at pools number) ≡ first ∷ second ∷ []
    → walk_of pools.nodes number ≡ number ∷ (walk_of pools.nodes first ++ walk_of pools.nodes second)
    → length (walk_of pools.nodes first) ≡ node_count (node_tree pools first)
    → ((at : ℕ) → verdict (shapes_of prices) at (node_tree pools first) ≡ Ok s) → FailsSo pools prices second error → FailsSo pools prices number error
fails-second pools prices number first second s error tree parts walk long accepted h before after =
    let w = walk_of pools.nodes first in
    let inner = h (before ++ (number ∷ w)) after in
    let place : length (before ++ (number ∷ w)) ≡ suc (length before) + node_count (node_tree pools first) = omega (arith, length-append before (number ∷ w), long) in
    let failed = ap (λ p. verdict (shapes_of prices) p (node_tree pools second)) (sym place) ∙ inner.1 in
    let list : (before ++ (number ∷ w)) ++ (walk_of pools.nodes second ++ after) ≡ before ++ ((number ∷ (w ++ walk_of pools.nodes second)) ++ after) = simp append_assoc in (
      inner.0,
      ap (λ expr. verdict (shapes_of prices) (length before) expr) tree
          ∙ second-fails (shapes_of prices) (length before) pools.numbers (trees pools.numbers pools.nodes) (node_at pools number) first second s inner.0 parts (accepted (suc (length before))) failed,
      inner.2 ∙ ap (λ l. error_in pools l inner.0) (list ∙ ap (λ l. before ++ (l ++ after)) (sym walk)),
    )

-- ---- an expression that is accepted

-- a walk is as long as its tree has expressions
pub walk-length : (pools : Pools) (number : ℕ) → map (node_tree pools) (walk_of pools.nodes number) ≡ subexpressions (node_tree pools number)
    → length (walk_of pools.nodes number) ≡ node_count (node_tree pools number)
walk-length pools number e = sym (length-map (walk_of pools.nodes number) (node_tree pools)) ∙ ap length e

pub all-shaped : (pools : Pools) (prices : Prices) (number : ℕ) (shapes : List (List ℕ)) (result : Result Known CheckError)
    → map (node_tree pools) (walk_of pools.nodes number) ≡ subexpressions (node_tree pools number)
    → OnOk result (AreWritten pools prices (walk_of pools.nodes number) shapes)
    → IfOk result (λ known. shapes_at shapes (walk_of pools.nodes number) ≡ map (shape_of (shapes_of prices)) (subexpressions (node_tree pools number)))
all-shaped pools prices number shapes (Err error) e written = tt
all-shaped pools prices number shapes (Ok known) e written =
    shapes-written (λ n. slice_index_or shapes n []) (λ n. shape_of (shapes_of prices) (node_tree pools n)) (walk_of pools.nodes number) written
    ∙ sym (map-map (shape_of (shapes_of prices)) (node_tree pools) (walk_of pools.nodes number))
    ∙ ap (map (shape_of (shapes_of prices))) e

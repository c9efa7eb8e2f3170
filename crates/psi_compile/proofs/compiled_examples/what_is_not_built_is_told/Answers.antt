use Rattle.std.proofs.Common.{◌≡◌, ℕ, List, Option, Some, None, not, position, slice_get, refl, sym, ap, ◌∙◌, arith, codes}
use Rattle.text_tokens.specs.declared.token.Position.{Position}
use Rattle.moa_tree.specs.Expr.{Tree}
use Rattle.moa_tree.specs.Outcome.{tree_in}
use Rattle.moa_tree.specs.Positions.{expression_positions}
use Rattle.nest_jobs.specs.Plain.{is_plain}
use Rattle.psi_compile.specs.Built.{expressions}
use Rattle.psi_compile.proofs.compiled_examples.what_is_not_built_is_told.Goals as goal

abbrev source : List ℕ
source = codes "psi 1\nout C = neg ravel A"

abbrev first_in : Tree → Option ℕ
first_in tree = position (λ expr. not (is_plain expr)) (expressions tree)

-- the column of a position
abbrev column_of : Option Position → ℕ
column_of None = 0
column_of (Some at) = at.column

pub returns-clause-first : goal.returns-clause-first
returns-clause-first c = record { tree = tree_in source; read = (c.outcomes.ensures.read source (tree_in source)).0 refl; number = 1; first = refl; there = refl }

pub returns-clause-built : goal.returns-clause-built
returns-clause-built c = λ unbuilt.
    let read = (c.outcomes.ensures.read source (tree_in source)).0 refl in
    let same = c.one_reading.ensures source (tree_in source) unbuilt.tree read unbuilt.read in
    let first : Some 1 ≡ Some unbuilt.number = ap first_in same ∙ unbuilt.first in
    let number : 1 ≡ unbuilt.number = cc in
    let column : 13 ≡ 9 = ap column_of (ap (slice_get (expression_positions source)) number ∙ unbuilt.there) in
    omega (arith, column)

pub returns-clause-before_shapes : goal.returns-clause-before_shapes
returns-clause-before_shapes c = λ built.
    let plain = (built (tree_in source) ((c.outcomes.ensures.read source (tree_in source)).0 refl)).1.0 in cc

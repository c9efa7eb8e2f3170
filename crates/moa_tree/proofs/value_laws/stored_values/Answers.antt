use Rattle.std.specs.Prelude.{pos}
use Rattle.std.proofs.Common.{ap, ◌∙◌, arith}
use Rattle.std.proofs.lemmas.List.{get_or-map}
use Rattle.shapes_core.specs.Gamma.{gamma, rows}
use Rattle.moa_tree.specs.Values.{shape_in, value}
use Rattle.moa_tree.proofs.value_laws.stored_values.Goals as goal

pub returns : goal.returns
returns c = λ env expr index h.
    let law = c.gamma_laws.ensures in
    let shape = shape_in env expr in
    get_or-map (value env expr) (rows shape) (gamma index shape) index (pos 0) (omega (arith, law.below index shape h, law.rows_len shape))
    ∙ ap (value env expr) (law.row_at index shape index h)

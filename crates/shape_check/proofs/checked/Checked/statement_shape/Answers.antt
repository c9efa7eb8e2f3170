use Rattle.std.proofs.Common.{[], ◌∙◌, ap, arith, length, slice_index_or}
use Rattle.std.proofs.lemmas.List.{get_or_read}
use Rattle.shape_check.proofs.BlockLemmas.{statement_there}
use Rattle.shape_check.proofs.checked.Checked.statement_shape.Goals as goal

pub index-requires : goal.index-requires
index-requires c =
    let v = ap (λ v. length v.pools.statements) c.self.view_is in
    let w = statement_there _ c.self.invariant c.args.statement (omega (arith, c.requires, v)) in
    omega (arith, w, c.self.inside.statement_shapes.ok.0)

pub returns : goal.returns
returns c =
    let v = ap (λ v. length v.pools.statements) c.self.view_is in
    let w = statement_there _ c.self.invariant c.args.statement (omega (arith, c.requires, v)) in
    get_or_read c.self.inside.statement_shapes.items c.args.statement c.index.result.now w c.index.ensures []
    ∙ ap (λ v. slice_index_or v.statement_shapes c.args.statement []) c.self.view_is

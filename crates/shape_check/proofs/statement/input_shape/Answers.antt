use Rattle.std.proofs.Common.{◌≡◌, true, ◌++◌, ap, sym, ◌∙◌}
use Rattle.std.specs.List.{list_all}
use Rattle.moa_tree.specs.Axes.{naturals}
use Rattle.shape_check.specs.Rules.{Place, is_natural, rule, shape_limits}
use Rattle.shape_check.specs.Verdict.{judged}
use Rattle.shape_check.proofs.InputLemmas.{limited_named}
use Rattle.shape_check.proofs.statement.input_shape.Goals as goal

pub returns : goal.returns
returns c = λ statement.
    let list = c.args.extents.now in
    let natural : list_all is_natural list ≡ true = sym c.are_natural.ensures ∙ c.if-not-are_natural.false in
    limited_named c.write_extents.new.buffer c.limited.result c.limited.ensures statement
    ∙ ap (λ l. judged (shape_limits (Place.Name statement) l) l) c.write_extents.ensures
    ∙ ap (λ b. judged (rule (Place.Name statement) 3 b ++ shape_limits (Place.Name statement) (naturals list)) (naturals list)) (sym natural)

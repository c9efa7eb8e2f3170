use Rattle.std.proofs.Common.{◌≡◌, sym, ◌∙◌, subst}
use Rattle.std.proofs.lemmas.List.{take_all}
use Rattle.shape_check.specs.Blocks.{IsLayout}
use Rattle.rv_emit.proofs.AreaLemmas.{areas-fit}
use Rattle.rv_emit.proofs.emission.areas_of.Goals as goal

pub returns-clause-fit : goal.returns-clause-fit
returns-clause-fit c =
    let copies = c.loop-area.copies.items in
    let same : copies ≡ c.args.layout.now =
    c.loop-area.invariant.0 ∙ take_all c.loop-area.area-index c.areas-areas.result.now c.loop-area-test.false ∙
    c.areas-areas.ensures.value in
    areas-fit copies (subst IsLayout (sym same) c.areas-areas.ensures.laid_out) c.loop-area.invariant.1

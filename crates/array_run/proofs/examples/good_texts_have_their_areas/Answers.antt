use Rattle.std.proofs.Common.{List, length, ap, sym, ◌∙◌, arith}
use Rattle.shapes_core.specs.declared.area.Area.{Area}
use Rattle.rv_line.specs.Parts.{Parts}
use Rattle.array_run.proofs.examples.good_texts_have_their_areas.Goals as goal

pub returns-clause-spelled : goal.returns-clause-spelled
returns-clause-spelled c = λ text areas demand made good spelled. ap (λ (p : Parts). p.areas) (good.only made spelled) ∙ good.layout

pub returns-clause-other_areas : goal.returns-clause-other_areas
returns-clause-other_areas c = λ text demand made good spelled five.
    let same = sym five ∙ ap (λ (p : Parts). p.areas) (good.only made spelled) ∙ good.layout in
    omega (arith, ap (λ (areas : List Area). length areas) same)

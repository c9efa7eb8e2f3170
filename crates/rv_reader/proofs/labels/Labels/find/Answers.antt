use Rattle.std.proofs.Common.{◌∙◌, ap}
use Rattle.rv_reader.specs.Refusals.{stands_for}
use Rattle.rv_reader.proofs.LabelLemmas.{lookup_stands}
use Rattle.rv_reader.proofs.labels.Labels.find.Goals as goal

pub returns : goal.returns
returns c =
    c.copied.ensures
    ∙ c.get.ensures.value
    ∙ lookup_stands c.self.inside.numbers.entries c.args.name.now
    ∙ ap (λ labels. stands_for labels c.args.name.now) c.self.view_is

use Rattle.std.proofs.Common.{◌∙◌, ap}
use Rattle.std.specs.List.{list_any}
use Rattle.rv_reader.specs.Cuts.{same}
use Rattle.rv_reader.proofs.LabelLemmas.{known_names}
use Rattle.rv_reader.proofs.names.Names.contains.Goals as goal

pub returns : goal.returns
returns c =
    c.contains_key.ensures
    ∙ known_names c.self.inside.names.entries c.args.name.now
    ∙ ap (list_any (same c.args.name.now)) c.self.view_is

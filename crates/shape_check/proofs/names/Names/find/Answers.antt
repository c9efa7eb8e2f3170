use Rattle.std.proofs.Common.{◌∙◌, ap, sym}
use Rattle.shape_check.specs.Judged.{found}
use Rattle.shape_check.proofs.NameLemmas.{found_lookup}
use Rattle.shape_check.proofs.names.Names.find.Goals as goal

pub returns : goal.returns
returns c =
    c.copied.ensures ∙ c.get.ensures.value ∙ sym (found_lookup c.self.inside.known.entries c.args.name) ∙ ap (λ entries. found entries c.args.name) c.self.view_is

use Rattle.std.proofs.Common.{◌++◌, ◌∷◌, [], ◌∙◌, ap, sym}
use Rattle.std.specs.Str.{bytes_eq}
use Rattle.indexmap.proofs.CallerLemmas.{insert_entry-new}
use Rattle.shape_check.specs.Judged.{found}
use Rattle.shape_check.proofs.NameLemmas.{found_lookup}
use Rattle.shape_check.proofs.names.Names.insert.Goals as goal

pub returns : goal.returns
returns c =
    c.in_ok-insert.ensures.entries
    ∙ insert_entry-new bytes_eq c.self.inside.known c.args.name c.args.known
    (sym (found_lookup c.self.inside.known.entries c.args.name) ∙ ap (λ entries. found entries c.args.name) c.self.view_is ∙ c.requires)
    ∙ ap (λ entries. entries ++ (c.args.name, c.args.known) ∷ []) c.self.view_is

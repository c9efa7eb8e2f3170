use Rattle.std.proofs.Common.{ℕ, List, ◌++◌, ◌∷◌, [], ◌∙◌, ap}
use Rattle.std.specs.Borrow.{Bor}
use Rattle.indexmap.proofs.CallerLemmas.{insert_entry-new}
use Rattle.rv_reader.specs.Cuts.{same}
use Rattle.rv_reader.specs.Refusals.{stands_for}
use Rattle.rv_reader.proofs.LabelLemmas.{lookup_stands, numbered, numbered-push}
use Rattle.rv_reader.proofs.labels.Labels.insert.Goals as goal

pub returns : goal.returns
returns c =
    ap numbered (
    c.in_ok-insert.ensures.entries
    ∙ insert_entry-new (λ (one other : Bor (List ℕ)). same one.now other.now) c.self.inside.numbers c.args.name c.args.number
    (lookup_stands c.self.inside.numbers.entries c.args.name.now ∙ ap (λ labels. stands_for labels c.args.name.now) c.self.view_is ∙ c.requires)
    )
    ∙ numbered-push c.self.inside.numbers.entries c.args.name c.args.number
    ∙ ap (λ labels. labels ++ (c.args.name.now, c.args.number) ∷ []) c.self.view_is

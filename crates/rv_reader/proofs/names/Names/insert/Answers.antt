use Rattle.std.proofs.Common.{ℕ, ◌++◌, ◌∷◌, [], ◌∙◌, ap, Vec, Global}
use Rattle.std.specs.List.{list_any}
use Rattle.indexmap.proofs.CallerLemmas.{insert_entry-new}
use Rattle.rv_reader.specs.Cuts.{same}
use Rattle.rv_reader.proofs.LabelLemmas.{known_names, named, named-push, none_from}
use Rattle.rv_reader.proofs.names.Names.insert.Goals as goal

pub returns : goal.returns
returns c =
    let entries = c.self.inside.names.entries in
    let key = c.extend_from_slice.new.self in
    let key_is = c.in_ok-extend_from_slice.ensures.items ∙ ap (λ l. l ++ c.args.name.now) c.new-key.ensures.items in
    let absent = known_names entries key.items ∙ ap (λ k. list_any (same k) (named entries)) key_is ∙ ap (list_any (same c.args.name.now)) c.self.view_is ∙ c.requires in
    ap named (
    c.in_ok-insert.ensures.entries
    ∙ insert_entry-new (λ (one other : Vec ℕ Global). same one.items other.items) c.self.inside.names key tt (none_from _ absent)
    )
    ∙ named-push entries key tt
    ∙ ap (λ k. named entries ++ k ∷ []) key_is
    ∙ ap (λ names. names ++ c.args.name.now ∷ []) c.self.view_is

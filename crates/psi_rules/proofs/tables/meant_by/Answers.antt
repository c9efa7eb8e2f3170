use Rattle.std.specs.Prelude.{◌≡◌, ◌<◌, slice_get, IsSome, Some}
use Rattle.std.proofs.Common.{ap, refl, subst, sym, ◌∙◌}
use Rattle.std.proofs.lemmas.Option.{same_Some}
use Rattle.moa_tree.specs.ShapeOf.{beside}
use Rattle.shape_check.specs.Judged.{items_in}
use Rattle.psi_rules.specs.Rules.{nameless}
use Rattle.psi_rules.specs.Scopes.{names_at}
use Rattle.psi_rules.specs.Tables.{IsMeant, meant_at}
use Rattle.psi_rules.proofs.tables.meant_by.Goals as goal

pub declared_by-declared-requires : goal.declared_by-declared-requires
declared_by-declared-requires c = subst IsSome (sym c.requires.found) refl

pub returns-clause-meant : goal.returns-clause-meant
returns-clause-meant c = λ meant.
    let checking = c.args.checked.now in
    let tables = c.args.tables.now in
    let known = c.requires in
    let number = c.args.number in
    let name = c.args.name.now in
    let declared = c.declared_by-declared.result in
    let statement = c.statement_of.result in
    let same : known.declared ≡ declared = same_Some known.declared declared (sym known.found ∙ c.declared_by-declared.ensures) in
    subst (IsMeant checking tables (beside nameless (names_at (items_in checking.pools) number) name).form)
    (sym (c.meant_at.ensures ∙ ap (λ end. meant_at end statement) c.end_at-end.ensures))
    (meant number declared name statement c.declared_by-declared.ensures (subst (λ n. n < number) same known.before)
    (subst (λ end. slice_get checking.pools.statements end ≡ Some statement) c.end_at-end.ensures c.statement_of.ensures.there))

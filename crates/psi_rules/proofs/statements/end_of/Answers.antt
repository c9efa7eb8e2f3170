use Rattle.std.specs.Prelude.{Some}
use Rattle.std.proofs.Common.{ap, sym, inr, ◌∙◌}
use Rattle.shape_check.specs.Layout.{name_of}
use Rattle.psi_rules.specs.Rows.{item_in}
use Rattle.psi_rules.proofs.RowLemmas.{item-there}
use Rattle.psi_rules.proofs.statements.end_of.Goals as goal

pub returns : goal.returns
returns c =
    let pools = c.args.checked.now.pools in
    let other = c.in-Some.other in
    let declared = c.in-Some-number_of.declared in
    let found = c.requires.names other declared (sym c.number_of.ensures ∙ c.in-Some-number_of.is) in
    inr (
    record {
      name = name_of (item_in pools c.args.statement.now);
      other = other;
      declared = declared;
      same = item-there pools c.args.number c.args.statement.now c.requires.there ∙ ap (λ item. Some item) c.in-Some.ensures;
      declares = found.1;
      before = found.0;
      leads = c.end_at.ensures;
    }
    )

use Rattle.std.proofs.Common.{◌≡◌, true, ap, ◌∙◌, rules}
use Rattle.std.specs.Prelude.{codes}
use Rattle.std.specs.Option.{option_map}
use Rattle.std.specs.declared.option.Option.TheVariants.{None}
use Rattle.rv_reader.specs.Cuts.{same}
use Rattle.rv_reader.specs.Parts.{parts_left}
use Rattle.rv_reader.specs.Refusals.{cause_in, refused_or}
use Rattle.rv_reader.proofs.KindLemmas.{row_read}
use Rattle.rv_reader.proofs.rows.read_row.Goals as goal

pub returns-in-Ok-clause-fine : goal.returns-in-Ok-clause-fine
returns-in-Ok-clause-fine c =
    let before = c.args.before.now in
    let parts = c.in-Some.parts in
    let marked : same parts.mark.now (codes "#") ≡ true = search rules in
    row_read before.areas.items c.deref.result.now c.args.spill before.words before.next c.args.row.now parts.mark.now parts.tag.now parts.word.now parts.offset.now (parts_left parts.rest) c.kind_of-kind.result c.number-offset.result (option_map (λ v. v.items) c.in_ok-extents.extents) c.checked.result
    c.in-Some.ensures marked c.requires.small c.requires.tracked.words_are c.requires.tracked.next_is c.deref.ensures.value c.kind_of-kind.ensures c.number-offset.ensures c.in_ok-extents.ensures c.checked.ensures
    ∙ c.in-Ok.is

pub returns-clause-refused : goal.returns-clause-refused
returns-clause-refused c =
    let before = c.args.before.now in
    let parts = c.in-Some.parts in
    let marked : same parts.mark.now (codes "#") ≡ true = search rules in
    rw c.at-in-Err.ensures (ap (λ found. refused_or c.args.place (cause_in found) None) (
    row_read before.areas.items c.deref.result.now c.args.spill before.words before.next c.args.row.now parts.mark.now parts.tag.now parts.word.now parts.offset.now (parts_left parts.rest) c.kind_of-kind.result c.number-offset.result (option_map (λ v. v.items) c.in_ok-extents.extents) c.checked.result
    c.in-Some.ensures marked c.requires.small c.requires.tracked.words_are c.requires.tracked.next_is c.deref.ensures.value c.kind_of-kind.ensures c.number-offset.ensures c.in_ok-extents.ensures c.checked.ensures
    ∙ c.in-Err.is
    ))

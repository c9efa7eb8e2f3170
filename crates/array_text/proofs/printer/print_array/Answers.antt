use Rattle.std.proofs.Common.{◌≡◌, ◌∷◌, [], rules, ap, ◌∙◌}
use Rattle.array_text.specs.Outcome.{outcome_of}
use Rattle.array_text.specs.Printed.{printed}
use Rattle.array_text.proofs.printer.print_array.Goals as goal

pub returns-clause-again : goal.returns-clause-again
returns-clause-again c =
    let text : c.push_rows.new.out.items ≡ printed c.args.declared.now c.args.values.now = search (rules, c.in_ok-push_rows.ensures, c.in_ok-push_head.ensures) in
    ap (outcome_of (c.args.declared.now ∷ [])) text
    ∙ c.printed_arrays_read_back.ensures c.args.declared.now c.args.values.now c.bytes-name.ensures.name c.extents-extents.ensures.shape c.are_words.ensures c.requires

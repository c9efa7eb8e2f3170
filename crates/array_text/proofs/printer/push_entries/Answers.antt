use Rattle.std.proofs.Common.{rules}
use Rattle.array_text.proofs.PrintLemmas.{entries_printed}
use Rattle.array_text.proofs.printer.push_entries.Goals as goal

pub returns-in_ok-push_numbers : goal.returns-in_ok-push_numbers
returns-in_ok-push_numbers c =
    rw (c.in_ok-push_numbers.ensures, c.in_ok-push_number.ensures)
    (entries_printed c.args.out.now.items c.args.numbers.now c.in-Some.first.now _ c.in-Some.others.now (search rules) (search rules))

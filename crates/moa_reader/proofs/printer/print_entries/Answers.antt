use Rattle.std.proofs.Common.{rules}
use Rattle.moa_reader.proofs.LineLemmas.{entries-printed}
use Rattle.moa_reader.proofs.printer.print_entries.Goals as goal

pub returns-in_ok-print_numbers : goal.returns-in_ok-print_numbers
returns-in_ok-print_numbers c =
    rw (c.in_ok-print_numbers.ensures, c.in_ok-append_number.ensures)
    (entries-printed c.args.out.now.items c.args.list.now c.in-Some.first.now _ c.in-Some.others.now (search rules) (search rules))

use Rattle.std.proofs.Common.{◌≡◌, ◌++◌, codes, OnOk, subst}
use Rattle.moa_tree.specs.Readings.{list_lexemes}
use Rattle.moa_reader.specs.Printed.{spaced}
use Rattle.moa_reader.proofs.LineLemmas.{list-printed}
use Rattle.moa_reader.proofs.printer.print_list.Goals as goal

pub returns : goal.returns
returns c =
    let e : c.print_entries.new.out.items ++ codes ">" ≡ c.args.out.now.items ++ spaced (list_lexemes c.args.list.now)
    = rw (c.in_ok-print_entries.ensures, c.in_ok-append.ensures) (list-printed c.args.out.now.items c.args.list.now) in
    subst (λ t. OnOk c.append-2.result (c.append-2.new.out.items ≡ t)) e c.append-2.ensures

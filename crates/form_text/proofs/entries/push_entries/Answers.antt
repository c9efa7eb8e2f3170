use Rattle.std.proofs.Common.{rules}
use Rattle.form_text.specs.Spelling.{entry_text}
use Rattle.form_text.proofs.JoinLemmas.{list_put}
use Rattle.form_text.proofs.entries.push_entries.Goals as goal

pub returns-in_ok-push_more_entries : goal.returns-in_ok-push_more_entries
returns-in_ok-push_more_entries c =
    rw (c.in_ok-push_more_entries.ensures, c.in_ok-push_entry.ensures)
    (list_put entry_text c.args.out.now.items c.args.entries.now c.in-Some.first.now _ c.in-Some.others.now (search rules) (search rules))

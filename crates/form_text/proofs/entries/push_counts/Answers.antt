use Rattle.std.proofs.Common.{rules}
use Rattle.std.specs.Fmt.{decimal}
use Rattle.form_text.proofs.JoinLemmas.{list_put}
use Rattle.form_text.proofs.entries.push_counts.Goals as goal

pub returns-in_ok-push_more_counts : goal.returns-in_ok-push_more_counts
returns-in_ok-push_more_counts c =
    rw (c.in_ok-push_more_counts.ensures, c.in_ok-push_count.ensures)
    (list_put decimal c.args.out.now.items c.args.extents.now c.in-Some.first.now _ c.in-Some.others.now (search rules) (search rules))

use Rattle.stride_form.specs.Rules.{is_over}
use Rattle.stride_form.specs.Small.{flag_at}
use Rattle.stride_form.proofs.TableLemmas.{all-marked}
use Rattle.stride_form.proofs.flags.Flags.+mark_list.Goals as goal

pub returns : goal.returns
returns t c =
    all-marked is_over c.in-Some.entry.now c.in-Some.others.now c.args.entries.now (flag_at c.args.self.now) (flag_at c.mark.new.self)
    (flag_at c.mark_list.new.self) c.mark_list.result c.in-Some.ensures.cases.0 c.in_ok-mark.ensures c.mark_list.ensures

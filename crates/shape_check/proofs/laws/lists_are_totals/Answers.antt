use Rattle.shape_check.proofs.ListLemmas.{outputs-counted, scans-counted, shapes-after-all, values-counted}
use Rattle.shape_check.proofs.laws.lists_are_totals.Goals as goal

pub returns : goal.returns
returns c =
    let counted = c.gamma_laws.ensures.rows_len in
    record {
      after = shapes-after-all;
      values = values-counted counted;
      outputs = outputs-counted counted;
      scans = scans-counted counted;
    }

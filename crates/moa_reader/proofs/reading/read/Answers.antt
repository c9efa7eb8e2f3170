use Rattle.std.proofs.lemmas.Result.{IfErr-at_err, IfOk-weaker}
use Rattle.moa_tree.specs.Pools.{tree_of}
use Rattle.moa_reader.specs.Outcomes.{Explains}
use Rattle.moa_reader.proofs.reading.read.Goals as goal

pub returns-clause-refusal : goal.returns-clause-refusal
returns-clause-refusal c = λ at other cause why refused e.
    c.one_refusal.ensures c.args.text.now other at why cause (IfErr-at_err (Explains c.args.text.now) e c.read_once.ensures.refused) refused

pub returns-clause-never_read : goal.returns-clause-never_read
returns-clause-never_read c = λ at cause refused.
    IfOk-weaker c.read_once.result _ _ (λ program reads. c.never_both.ensures c.args.text.now (tree_of program) at cause reads refused) c.read_once.ensures.read

use Rattle.std.specs.Prelude.{[]}
use Rattle.std.proofs.Common.{refl}
use Rattle.shape_check.specs.Jobs.{jobs}
use Rattle.psi_rules.specs.Areas.{given}
use Rattle.psi_rules.specs.Jobs.{first}
use Rattle.psi_rules.specs.Rules.{shape_in, shapes_of}
use Rattle.psi_rules.proofs.FoldJobLemmas.{FoldsOver, program-folds}
use Rattle.psi_rules.proofs.JobLemmas.{items-accepted}
use Rattle.psi_rules.proofs.LawLemmas.{some-axis}
use Rattle.psi_rules.proofs.ListLemmas.{zip-at}
use Rattle.psi_rules.proofs.keeping_laws.scans_fold.Goals as goal

pub returns : goal.returns
returns c = λ inputs items shapes number tree_job array accepted built.
    let known = c.verdicts_are_shapes.ensures in
    zip-at FoldsOver (jobs items) (given inputs items)
    (program-folds (λ names fold of h. some-axis (shape_in names of) (c.operands_are_accepted.ensures.scans (shapes_of names) 0 0 fold of _ h).1)
    (λ names. c.operands_move.ensures (shapes_of names)) inputs items [] [] (first items) 0 refl
    (items-accepted known.lets known.outputs c.lists_are_totals.ensures.after inputs [] items shapes accepted) built)
    number tree_job array

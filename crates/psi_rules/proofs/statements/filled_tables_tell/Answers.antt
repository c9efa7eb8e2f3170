use Rattle.std.proofs.Common.{subst}
use Rattle.moa_tree.specs.Pools.{IsProgram}
use Rattle.psi_rules.proofs.KnownLemmas.{are-tables}
use Rattle.psi_rules.proofs.statements.filled_tables_tell.Goals as goal

pub returns : goal.returns
returns c =
    let known = c.verdicts_are_shapes.ensures in
    are-tables c.nodes_have_shapes.ensures.statements known.differ known.lets known.outputs known.limits c.args.checked.now
    (subst IsProgram c.program.ensures.value c.statements-statements.ensures.program) c.program.ensures.checked

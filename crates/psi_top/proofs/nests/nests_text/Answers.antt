use Rattle.std.proofs.Common.{◌≤◌, ap, length, min, ◌∙◌, arith}
use Rattle.psi_top.proofs.ShownLemmas.{nests-all}
use Rattle.psi_top.proofs.nests.nests_text.Goals as goal

pub returns-clause-made : goal.returns-clause-made
returns-clause-made c =
    let checking = c.args.checked.now in
    let made = c.in_ok-made.made.items in
    let enough : min (length checking.jobs) (length made) ≤ c.loop-number.number =
    grind (arith, ap length c.jobs.ensures, c.len.ensures, c.min-count.ensures, c.loop-number-test.false) in
    c.loop-number.invariant ∙ nests-all checking c.loop-number.number made c.program-program.ensures.checked c.in_ok-made.ensures enough

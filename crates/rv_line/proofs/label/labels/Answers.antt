use Rattle.std.proofs.Common.{arith, length-set, true}
use Rattle.rv_line.proofs.LabelLemmas.{found_within, labelled_more, labelled_same}
use Rattle.rv_line.proofs.label.labels.Goals as goal
use Rattle.rv_line.proofs.label.labels.Goals.{in-Some, in_default}

pub index_mut-requires : goal.index_mut-requires
index_mut-requires c =
    let known = found_within _ c.args.lines.now c.loop-line.line-index _ _ c.in-Some.target c.requires.targets c.loop-line-test.true c.target.ensures c.in-Some.is in
    omega arith

pub loop-line-preserved : goal.loop-line-preserved
loop-line-preserved c =
    elim c.match-target.branch [
      | in-Some w ↦
          rw w.labelled-is (
            omega (arith, length-set c.loop-line.labelled.items w.in-Some.target true),
            λ number within. labelled_more c.args.lines.now c.loop-line.line-index _ c.loop-line.labelled.items _ w.in-Some.target number c.loop-line-test.true c.target.ensures w.in-Some.is (omega arith) (c.loop-line.invariant.1 number within),
          )
      | in_default w ↦
          rw w.labelled-is (
            c.loop-line.invariant.0,
            λ number within. labelled_same c.args.lines.now c.loop-line.line-index _ c.loop-line.labelled.items _ number c.loop-line-test.true c.target.ensures w.in_default.is (c.loop-line.invariant.1 number within),
          )
    ]

use Rattle.std.proofs.Common.{length, arith, ap, refl, ◌∙◌}
use Rattle.std.proofs.lemmas.Result.{err_from_is_err_and}
use Rattle.psi_edges.proofs.FrontLemmas.{asked_more, front_next, none_asked}
use Rattle.psi_edges.proofs.whole.read_whole.Goals as goal

pub loop-shelf-init : goal.loop-shelf-init
loop-shelf-init g c =
    let empty = c.new-bytes.ensures.len in
    record {
      within = omega (arith, empty);
      front = λ some. absurd (omega (arith, some, ap length c.new-bytes.ensures.items));
      asked = none_asked _ _ _ _ empty;
      given = omega (arith, empty);
      bounded = λ some. absurd (omega (arith, some, empty));
      more_given = omega arith;
      faults = refl;
      failed_name = refl;
      unchanged = refl;
    }

pub loop-shelf-preserved : goal.loop-shelf-preserved
loop-shelf-preserved g c =
    let taken = c.in_ok-count.ensures in
    let before = c.loop-shelf.invariant in
    record {
      within = taken.within;
      front = λ some. front_next _ _ _ _ _ _ before.unchanged before.front taken.next;
      asked = asked_more _ _ _ _ _ _ _ _ before.asked taken.asked.1 (omega (arith, taken.grown, taken.asked.2));
      given = omega (arith, taken.given, taken.grown, before.given);
      bounded = λ some. omega (arith, taken.most_given);
      more_given = omega (arith, taken.more_given, before.more_given);
      faults = taken.faults (λ wrong. cc) ∙ before.faults;
      failed_name = taken.failed_name (λ wrong. cc) ∙ before.failed_name;
      unchanged = taken.unchanged ∙ before.unchanged;
    }

pub returns-in_err-count-clause-asked : goal.returns-in_err-count-clause-asked
returns-in_err-count-clause-asked g c =
    let p = err_from_is_err_and c.from_residual.result c.from_residual.ensures.1 in
    let asked = c.in_err-count.ensures.asked in
    (_, asked_more _ _ _ _ _ _ _ _ c.loop-shelf.invariant.asked asked.1 refl, rw p.1 tt)

pub returns-then-count-eq0-clause-asked : goal.returns-then-count-eq0-clause-asked
returns-then-count-eq0-clause-asked g c =
    let asked = c.in_ok-count.ensures.asked in
    (_, asked_more _ _ _ _ _ _ _ _ c.loop-shelf.invariant.asked asked.1 refl, omega (arith, c.in_ok-count.ensures.grown, asked.2))

pub returns-clause-asked : goal.returns-clause-asked
returns-clause-asked g c = (_, c.loop-shelf.invariant.asked, tt)

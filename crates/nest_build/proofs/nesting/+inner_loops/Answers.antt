use Rattle.std.proofs.Common.{sym, subst}
use Rattle.nest_build.specs.Coding.{loop_of, loops_of, spots_of}
use Rattle.nest_build.specs.Nests.{inner_loops}
use Rattle.nest_build.specs.Standing.{Stands, tree_in}
use Rattle.nest_build.proofs.StandLemmas.{inner-next}
use Rattle.nest_build.proofs.nesting.+inner_loops.Goals as goal

pub returns : goal.returns
returns t c =
    subst (λ axes. Stands c.around.new.lists c.push_rewinds.new.steps.items
    (inner_loops (spots_of c.args.stands.now) (loops_of axes) (tree_in c.args.lists.now c.args.body.items))) (sym c.in-Some.ensures.cases.0)
    (inner-next c.around.new.lists c.in_ok-steps.steps.items c.push_rewinds.new.steps.items (spots_of c.args.stands.now) (loop_of c.in-Some.axis.now)
    (loops_of c.in-Some.others.now) (tree_in c.args.lists.now c.args.body.items) (tree_in c.inner_loops.new.lists c.in_ok-inside.inside.items)
    c.in_ok-push_rewinds.ensures c.in_ok-inside.ensures.same c.in_ok-steps.ensures)

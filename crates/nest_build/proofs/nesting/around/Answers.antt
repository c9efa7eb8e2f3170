use Rattle.std.proofs.Common.{◌++◌, ◌∷◌, [], ◌∙◌, ap, refl, pos}
use Rattle.loop_ir.specs.declared.step.Step.TheVariants as step
use Rattle.nest_build.specs.Coding.{spots_of}
use Rattle.nest_build.specs.Nests.{walks}
use Rattle.nest_build.specs.Standing.{tree_in}
use Rattle.nest_build.proofs.StandLemmas.{looped, walked-behind}
use Rattle.nest_build.proofs.nesting.around.Goals as goal

pub add-requires-clause-inner : goal.add-requires-clause-inner
add-requires-clause-inner c =
    (walked-behind c.args.lists.now c.args.inside.items c.push_walks.new.steps.items (walks (spots_of c.args.stands.now) c.args.axis.var (pos 1))
    (tree_in c.args.lists.now c.args.inside.items) c.in_ok-push_walks.ensures (record { named = c.requires; same = refl })).named

pub returns : goal.returns
returns c =
    looped c.args.lists.now c.add.new.self c.push_walks.new.steps.items c.push.new.self.items c.args.axis.counter c.args.axis.turns
    c.in_ok-body.body _ c.in_ok-body.ensures.added.0 c.in_ok-body.ensures.added.1
    (c.in_ok-push.ensures.items ∙ ap (λ l. l ++ step.For c.args.axis.counter c.args.axis.turns c.in_ok-body.body ∷ []) c.new-steps.ensures.items)
    (walked-behind c.args.lists.now c.args.inside.items c.push_walks.new.steps.items (walks (spots_of c.args.stands.now) c.args.axis.var (pos 1))
    (tree_in c.args.lists.now c.args.inside.items) c.in_ok-push_walks.ensures (record { named = c.requires; same = refl })).same

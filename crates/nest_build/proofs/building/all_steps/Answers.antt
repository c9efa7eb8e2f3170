use Rattle.std.proofs.Common.{◌≡◌, ◌<◌, ◌+◌, ◌++◌, ◌∙◌, ap, length, map, subst, sym}
use Rattle.std.proofs.lemmas.List.{length-map}
use Rattle.stride_form.specs.Pool.{op_form_at, op_forms}
use Rattle.loop_ir.specs.Steps.{Place}
use Rattle.nest_build.specs.Coding.{loop_of, loops_of, plain, spots_of}
use Rattle.nest_build.specs.Nests.{all_loops, sets_from}
use Rattle.nest_build.specs.Standing.{AreNamed, Stands, tree_in}
use Rattle.nest_build.proofs.NestLemmas.{all-stands, turn_of}
use Rattle.nest_build.proofs.StandLemmas.{plain-named}
use Rattle.nest_build.proofs.building.all_steps.Goals as goal

pub all_loops-requires : goal.all_loops-requires
all_loops-requires c =
    let turn = turn_of c.args.form.now.region c.args.form.now.job.area (op_form_at (op_forms c.args.form.now.terms) c.args.top)
    (loops_of c.in_ok-axes.axes.items) c.in_ok-numbers.numbers.literal c.in_ok-numbers.numbers.free c.in_ok-numbers.numbers.place in
    let made : c.in_ok-body.body.items ≡ plain turn = c.in_ok-body.ensures (loops_of c.in_ok-axes.axes.items) (ap loops_of c.deref-3.ensures.value) in
    subst (AreNamed c.args.lists.now) (sym made) (plain-named (λ inner. inner < length c.args.lists.now) turn)

pub returns : goal.returns
returns c =
    let around : Stands c.all_loops.new.lists c.in_ok-loops.loops.items (all_loops (spots_of c.in_ok-stands.stands.items)
    (loops_of c.in_ok-axes.axes.items) (tree_in c.args.lists.now c.in_ok-body.body.items)) =
    subst (λ axes. Stands c.all_loops.new.lists c.in_ok-loops.loops.items (all_loops (spots_of c.in_ok-stands.stands.items)
    (loops_of axes) (tree_in c.args.lists.now c.in_ok-body.body.items))) c.deref-5.ensures.value
    (subst (λ stands. Stands c.all_loops.new.lists c.in_ok-loops.loops.items (all_loops (spots_of stands)
    (loops_of c.deref-5.result.now) (tree_in c.args.lists.now c.in_ok-body.body.items))) c.deref-4.ensures.value c.in_ok-loops.ensures) in
    let literal = c.in_ok-numbers.numbers.literal in
    let whole : c.in_ok-steps.steps.items ≡ plain (sets_from literal c.in_ok-literals.literals.items)
    ++ (plain (map (λ spot. Place spot.place spot.word) (spots_of c.in_ok-stands.stands.items)) ++ c.in_ok-loops.loops.items) =
    c.in_ok-steps.ensures
    ∙ ap (λ values. plain (sets_from literal values)
    ++ (plain (map (λ spot. Place spot.place spot.word) (spots_of c.deref-7.result.now)) ++ c.deref-8.result.now)) c.deref-6.ensures.value
    ∙ ap (λ stands. plain (sets_from literal c.in_ok-literals.literals.items)
    ++ (plain (map (λ spot. Place spot.place spot.word) (spots_of stands)) ++ c.deref-8.result.now)) c.deref-7.ensures.value
    ∙ ap (λ loops. plain (sets_from literal c.in_ok-literals.literals.items)
    ++ (plain (map (λ spot. Place spot.place spot.word) (spots_of c.in_ok-stands.stands.items)) ++ loops)) c.deref-8.ensures.value in
    all-stands c.args.areas.now c.args.form.now.job.area c.args.form.now.shape c.args.form.now.region
    (op_form_at (op_forms c.args.form.now.terms) c.args.top)
    (loops_of c.in_ok-axes.axes.items) c.in_ok-literals.literals.items literal c.in_ok-numbers.numbers.free c.in_ok-numbers.numbers.place
    (spots_of c.in_ok-stands.stands.items) c.in_ok-stands.ensures c.in_ok-numbers.ensures.place
    (c.in_ok-numbers.ensures.free ∙ ap (λ values. literal + length values) c.deref-2.ensures.value)
    (c.in_ok-numbers.ensures.literal ∙ ap length c.deref.ensures.value ∙ sym (length-map c.in_ok-axes.axes.items loop_of))
    c.in_ok-literals.ensures c.in_ok-axes.ensures c.args.lists.now c.all_loops.new.lists c.in_ok-body.body.items c.in_ok-loops.loops.items
    c.in_ok-steps.steps.items (c.in_ok-body.ensures (loops_of c.in_ok-axes.axes.items) (ap loops_of c.deref-3.ensures.value)) around whole

use Rattle.std.specs.Prelude.{◌≡◌, ◌+◌, ◌∷◌, drop, List}
use Rattle.std.proofs.Common.{arith, ap, sym, ◌∙◌, subst, get_or}
use Rattle.loop_ir.specs.declared.step.Step.{Step}
use Rattle.loop_ir.specs.Pool.{tree}
use Rattle.register_map.specs.Fits.{IsFit}
use Rattle.register_map.specs.Homes.{Given}
use Rattle.rv_emit.specs.Programs.{pairs}
use Rattle.rv_emit.proofs.ProgramCodeLemmas.{Leads, at-return, last-made, next-made, next-room, one-nest, pairs-at, pairs-drop, pairs-end}
use Rattle.rv_emit.proofs.emission.emit_nests.Goals as goal

pub emit_nest-requires-clause-fit : goal.emit_nest-requires-clause-fit
emit_nest-requires-clause-fit c =
    let nests = c.args.nests.now in
    let homes = c.args.homes.now in
    let i = c.loop-place.place in
    let nest = c.index-nests-place.result in
    let given = c.index-homes-place.result in
    let found = pairs-at (λ nest. IsFit nest.0 nest.1) nests homes i nest given c.requires.counted c.loop-place-test.true c.requires.fit in
    subst (λ nest. IsFit (tree nest) given) (sym c.index-nests-place.is)
    (subst (λ given. IsFit (tree (get_or nests i nest)) given) (sym c.index-homes-place.is) found)

pub emit_nest-requires-clause-room : goal.emit_nest-requires-clause-room
emit_nest-requires-clause-room c =
    let nests = c.args.nests.now in
    let homes = c.args.homes.now in
    let i = c.loop-place.place in
    let all = pairs nests homes in
    let nest = c.index-nests-place.result in
    let given = c.index-homes-place.result in
    let left = drop (i + 1) all in
    let first : drop i all ≡ (tree nest, given) ∷ left =
    pairs-drop nests homes i nest given c.requires.counted c.loop-place-test.true
    ∙ ap (λ (n : List (List Step)). (tree n, get_or homes i given) ∷ left) (sym c.index-nests-place.is)
    ∙ ap (λ (g : Given). (tree nest, g) ∷ left) (sym c.index-homes-place.is) in
    let so_far = subst (λ rest. Leads c.args.spill all rest c.args.lines.now.items c.loop-place.lines.items c.loop-place.steps) first
    c.loop-place.invariant in
    next-room c.args.spill all left (tree nest) given c.args.lines.now.items c.loop-place.lines.items c.loop-place.steps so_far
    c.requires.room

pub overflow_add-steps : goal.overflow_add-steps
overflow_add-steps c =
    let nests = c.args.nests.now in
    let homes = c.args.homes.now in
    let i = c.loop-place.place in
    let all = pairs nests homes in
    let nest = c.index-nests-place.result in
    let given = c.index-homes-place.result in
    let left = drop (i + 1) all in
    let first : drop i all ≡ (tree nest, given) ∷ left =
    pairs-drop nests homes i nest given c.requires.counted c.loop-place-test.true
    ∙ ap (λ (n : List (List Step)). (tree n, get_or homes i given) ∷ left) (sym c.index-nests-place.is)
    ∙ ap (λ (g : Given). (tree nest, g) ∷ left) (sym c.index-homes-place.is) in
    let so_far = subst (λ rest. Leads c.args.spill all rest c.args.lines.now.items c.loop-place.lines.items c.loop-place.steps) first
    c.loop-place.invariant in
    omega (
      arith,
      next-made c.args.spill all left (tree nest) given c.args.lines.now.items c.loop-place.lines.items c.emit_nest.new.lines.items
          c.loop-place.steps c.in_ok-more.more so_far c.requires.room c.in_ok-more.ensures,
    )

pub overflow_add-result : goal.overflow_add-result
overflow_add-result c =
    let all = pairs c.args.nests.now c.args.homes.now in
    let none = pairs-end c.args.nests.now c.args.homes.now c.loop-place.place c.loop-place-test.false in
    let so_far = subst (λ rest. Leads c.args.spill all rest c.args.lines.now.items c.loop-place.lines.items c.loop-place.steps) none
    c.loop-place.invariant in
    omega (arith, last-made c.args.spill all c.args.lines.now.items c.loop-place.lines.items c.loop-place.steps so_far c.requires.room)

pub loop-place-preserved : goal.loop-place-preserved
loop-place-preserved c =
    let nests = c.args.nests.now in
    let homes = c.args.homes.now in
    let i = c.loop-place.place in
    let all = pairs nests homes in
    let nest = c.index-nests-place.result in
    let given = c.index-homes-place.result in
    let left = drop (i + 1) all in
    let first : drop i all ≡ (tree nest, given) ∷ left =
    pairs-drop nests homes i nest given c.requires.counted c.loop-place-test.true
    ∙ ap (λ (n : List (List Step)). (tree n, get_or homes i given) ∷ left) (sym c.index-nests-place.is)
    ∙ ap (λ (g : Given). (tree nest, g) ∷ left) (sym c.index-homes-place.is) in
    let so_far = subst (λ rest. Leads c.args.spill all rest c.args.lines.now.items c.loop-place.lines.items c.loop-place.steps) first
    c.loop-place.invariant in
    one-nest c.args.spill all left (tree nest) given c.args.lines.now.items c.loop-place.lines.items c.emit_nest.new.lines.items
    c.loop-place.steps c.in_ok-more.more so_far c.in_ok-more.ensures

pub returns : goal.returns
returns c =
    let all = pairs c.args.nests.now c.args.homes.now in
    let none = pairs-end c.args.nests.now c.args.homes.now c.loop-place.place c.loop-place-test.false in
    let so_far = subst (λ rest. Leads c.args.spill all rest c.args.lines.now.items c.loop-place.lines.items c.loop-place.steps) none
    c.loop-place.invariant in
    at-return c.args.spill all c.args.lines.now.items c.loop-place.lines.items c.push.new.self.items c.loop-place.steps so_far
    c.in_ok-push.ensures.items

use Rattle.std.proofs.Common.{ap, ◌∙◌, arith}
use Rattle.nest_build.proofs.PlaceLemmas.{start-none, start-there}
use Rattle.nest_build.proofs.places.start_of.Goals as goal

pub returns-in_default : goal.returns-in_default
returns-in_default c = let h = c.in_default.ensures.lookup in start-none c.args.areas.now c.args.number (omega (arith, h))

pub returns : goal.returns
returns c =
    let h = c.in-Some.ensures.lookup in
    ap (λ area. area.start) h.1 ∙ start-there c.args.areas.now c.args.number c.in-Some.area.now (omega (arith, h))

use Rattle.std.proofs.Common.{sym, subst}
use Rattle.loop_ir.specs.Pool.{tree}
use Rattle.register_map.specs.Fits.{NamesFew}
use Rattle.psi_compile.proofs.MadeLemmas.{home-more, tree-at}
use Rattle.psi_compile.proofs.nests.homes_of.Goals as goal

pub loop-nest-preserved : goal.loop-nest-preserved
loop-nest-preserved c =
    home-more c.args.nests.now c.loop-nest.nest-index c.nest-item.result c.nest-item.is c.loop-nest-test.true c.loop-nest.made.items
    c.push.new.self.items c.in_ok-homes_for.field-0 c.loop-nest.invariant c.in_ok-push.ensures.items c.in_ok-homes_for.ensures

pub homes_for-requires : goal.homes_for-requires
homes_for-requires c =
    subst (λ nest. NamesFew (tree nest)) (sym c.nest-item.is)
    (tree-at NamesFew c.args.nests.now c.loop-nest.nest-index c.nest-item.result c.loop-nest-test.true c.requires)

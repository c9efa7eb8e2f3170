use Rattle.std.proofs.Common.{List, length, ap, sym, subst, arith}
use Rattle.std.proofs.lemmas.Result.{err_from_is_err_and}
use Rattle.moa_reader.specs.declared.frames.Frame.{Frame}
use Rattle.moa_reader.specs.Standing.{IsWanted}
use Rattle.moa_reader.proofs.StandingLemmas.{wanted_first}
use Rattle.moa_reader.proofs.expression.expression.Goals as goal

pub returns-in_err-head-clause-refused : goal.returns-in_err-head-clause-refused
returns-in_err-head-clause-refused c =
    let Wanted : List Frame → Type 0 = λ frames. IsWanted c.args.source.now c.args.builder.now frames c.args.source.now c.args.builder.now in
    let wanted : Wanted c.new-frames.result = subst Wanted (sym c.new-frames.ensures) (wanted_first c.args.source.now c.args.builder.now c.requires.open) in
    let p = err_from_is_err_and c.from_residual.result c.from_residual.ensures.1 in
    rw (p.1, p.2) (c.in_err-head.ensures.refused c.args.source.now c.args.builder.now wanted)

pub forms-init : goal.forms-init
forms-init c =
    let Wanted : List Frame → Type 0 = λ frames. IsWanted c.args.source.now c.args.builder.now frames c.args.source.now c.args.builder.now in
    let wanted : Wanted c.new-frames.result = subst Wanted (sym c.new-frames.ensures) (wanted_first c.args.source.now c.args.builder.now c.requires.open) in
    record {
      stands = c.in_ok-head.ensures.stands c.args.source.now c.args.builder.now wanted;
      spent = omega (arith, c.in_ok-head.ensures.spent, ap length c.new-frames.ensures);
      fewer = omega (arith, c.in_ok-head.ensures.fewer);
    }

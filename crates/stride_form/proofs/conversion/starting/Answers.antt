use Rattle.std.proofs.Common.{◌<◌, ◌∙◌, ap, arith, length}
use Rattle.stride_form.specs.Small.{fact_at}
use Rattle.stride_form.specs.Facts.{knowing}
use Rattle.stride_form.specs.declared.facts.Fact.TheVariants.{Range}
use Rattle.std.specs.Prelude.{slice_index_or}
use Rattle.stride_form.proofs.StartLemmas.{known-next}
use Rattle.stride_form.proofs.conversion.starting.Goals as goal

pub loop-low-preserved : goal.loop-low-preserved
loop-low-preserved c =
    let region = c.list-low-items.result.now in
    let place = c.loop-low.low-index in
    let pair = slice_index_or region place (0, 0) in
    let within : place < length region = grind (arith, c.loop-low-test.true) in (
      omega (arith, c.loop-low.invariant.0),
      known-next region place (fact_at c.loop-low.facts) (fact_at c.set.new.self) within c.loop-low.invariant.1
          (c.in_ok-set.ensures ∙ ap (λ var. knowing (fact_at c.loop-low.facts) var (Range pair.0 pair.1)) c.loop-low.invariant.0),
    )

use Rattle.std.proofs.Common.{◌≡◌, ◌+◌, sym, ◌∙◌, arith}
use Rattle.std.specs.Prelude.{if◌then◌else◌}
use Rattle.rv_line.specs.Emitted.{is_labelled}
use Rattle.rv_line.specs.declared.line.Line.TheVariants.{Fence}
use Rattle.rv_line.proofs.LabelLemmas.{places_more, place_labelled, place_unlabelled}
use Rattle.rv_line.proofs.label.places.Goals as goal
use Rattle.rv_line.proofs.label.places.Goals.{then-labelled-at, else-labelled-at}

pub loop-at-preserved : goal.loop-at-preserved
loop-at-preserved c =
    let known = c.requires.labels.each c.loop-at.at (omega arith) in
    let place : c.if-labelled-at.place ≡ c.loop-at.place + (if is_labelled c.args.lines.now c.loop-at.at then 1 else 0) =
    elim c.if-labelled-at.branch [
      | then-labelled-at w ↦ w.place-is ∙ place_labelled _ c.loop-at.place (sym known ∙ w.if-labelled-at.true)
      | else-labelled-at w ↦ w.place-is ∙ place_unlabelled _ c.loop-at.place (sym known ∙ w.if-labelled-at.false)
    ]
    in (
      rw c.in_ok-push.ensures.items (
          places_more (is_labelled c.args.lines.now) c.args.lines.now c.loop-at.at c.loop-at.place c.if-labelled-at.place Fence c.loop-at.places.items _ c.loop-at-test.true place c.loop-at.invariant.0
          ),
      elim c.if-labelled-at.branch [ then-labelled-at w ↦ omega arith | else-labelled-at w ↦ omega arith ],
    )

use Rattle.std.proofs.Common.{length, subst, arith}
use Rattle.std.specs.Prelude.{map}
use Rattle.std.specs.Str.Lines.{lines}
use Rattle.std.proofs.lemmas.Result.{err_from_is_err_and}
use Rattle.rv_reader.specs.Bodies.{IsSoFar}
use Rattle.rv_reader.specs.BodyLines.{reading_of}
use Rattle.rv_reader.specs.Refusals.{draft_in}
use Rattle.rv_reader.specs.Views.{drafted}
use Rattle.rv_reader.proofs.StepLemmas.{number_new, one_draft, so_far_refused, so_far_same, so_far_step}
use Rattle.rv_reader.proofs.body.read_body.Goals as goal

pub returns-in_err-note-clause-refused : goal.returns-in_err-note-clause-refused
returns-in_err-note-clause-refused c =
    let p = err_from_is_err_and c.from_residual.result c.from_residual.ensures.1 in
    let body = c.loop-line.body in
    let here =
    subst (IsSoFar c.args.first (lines c.args.text.now) c.loop-line.place (length body.drafts.items) body.labels (map drafted body.drafts.items) body.places.items) c.in-Some.ensures.split c.loop-line.invariant.so_far in
    rw (p.1, p.2)
    (so_far_refused c.args.first (lines c.args.text.now) c.loop-line.place (length body.drafts.items) body.labels (map drafted body.drafts.items) body.places.items c.in-Some.line.now (lines c.in-Some.behind.now) c.in_err-note.field-0.0 here c.in_err-note.ensures.refused)

pub loop-line-preserved : goal.loop-line-preserved
loop-line-preserved c =
    let body = c.loop-line.body in
    let new = c.note.new.self in
    let here =
    subst (IsSoFar c.args.first (lines c.args.text.now) c.loop-line.place (length body.drafts.items) body.labels (map drafted body.drafts.items) body.places.items) c.in-Some.ensures.split c.loop-line.invariant.so_far in
    let next = so_far_step c.args.first (lines c.args.text.now) c.loop-line.place (length body.drafts.items) body.labels (map drafted body.drafts.items) body.places.items c.in-Some.line.now (lines c.in-Some.behind.now) here c.in_ok-note.ensures.fine in
    let number = number_new new.drafts.items body.drafts.items (draft_in (reading_of c.in-Some.line.now)) c.in_ok-note.ensures.drafts in
    let most = one_draft (reading_of c.in-Some.line.now) in
    let shorter = c.in-Some.ensures.shorter in
    let small = c.loop-line.invariant.small in
    let count = c.loop-line.invariant.count in
    record {
      so_far = so_far_same _ _ _ _ _ _ _ _ number c.in_ok-note.ensures.labels c.in_ok-note.ensures.drafts c.in_ok-note.ensures.places next;
      small = omega (arith, shorter, small);
      count = omega (arith, shorter, count, number, most);
    }

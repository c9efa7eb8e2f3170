use Rattle.std.proofs.Common.{length, subst}
use Rattle.normal_form.specs.Pool.{forms}
use Rattle.form_text.specs.Pieces.{IsPutting}
use Rattle.form_text.specs.Spelling.{element_text}
use Rattle.form_text.proofs.normal_line.push_term.Goals as goal

pub loop-piece-preserved : goal.loop-piece-preserved
loop-piece-preserved c =
    c.in_ok-push_piece.ensures.put _
    (subst (IsPutting (element_text c.args.areas.now) (forms c.args.form.now.terms) (length c.args.form.now.terms) _ c.loop-piece.out.items) c.in-Some.ensures.items c.loop-piece.invariant)

use Rattle.std.proofs.lemmas.Result.{on_ok_weaker}
use Rattle.normal_form.specs.Pool.{forms}
use Rattle.form_text.specs.Spelling.{element_text}
use Rattle.form_text.proofs.NormalLemmas.{term-made}
use Rattle.form_text.proofs.StackLemmas.{less-so, put-so}
use Rattle.form_text.proofs.normal_line.push_piece.Goals as goal

pub returns-in_ok-push_head-in-Of-clause-put : goal.returns-in_ok-push_head-in-Of-clause-put
returns-in_ok-push_head-in-Of-clause-put c =
    let spelled = element_text c.args.areas.now in
    on_ok_weaker c.push_after.result
    (λ e whole h. put-so spelled (forms c.args.form.now.terms) c.args.waiting.now.items c.push_after.new.waiting.items c.args.piece
    (term-made spelled c.args.form.now.terms c.requires.ordered c.in-Of.number c.term-term.result c.term-term.ensures _ c.operands.ensures)
    c.in-Of.is c.in_ok-push_head-in-Of.ensures e h)
    c.push_after.ensures

pub returns-in_ok-push_head-in-Of-clause-less : goal.returns-in_ok-push_head-in-Of-clause-less
returns-in_ok-push_head-in-Of-clause-less c =
    let spelled = element_text c.args.areas.now in
    on_ok_weaker c.push_after.result
    (λ e. less-so spelled (forms c.args.form.now.terms) c.args.waiting.now.items c.push_after.new.waiting.items c.args.piece
    (term-made spelled c.args.form.now.terms c.requires.ordered c.in-Of.number c.term-term.result c.term-term.ensures _ c.operands.ensures)
    c.in-Of.is e)
    c.push_after.ensures

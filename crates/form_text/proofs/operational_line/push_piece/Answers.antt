use Rattle.std.proofs.lemmas.Result.{on_ok_weaker}
use Rattle.stride_form.specs.Pool.{op_forms}
use Rattle.form_text.specs.Spelling.{access_text}
use Rattle.form_text.proofs.OperationalLemmas.{op-term-made}
use Rattle.form_text.proofs.StackLemmas.{less-so, put-so}
use Rattle.form_text.proofs.operational_line.push_piece.Goals as goal

pub returns-in_ok-push_op_head-in-Of-clause-put : goal.returns-in_ok-push_op_head-in-Of-clause-put
returns-in_ok-push_op_head-in-Of-clause-put c =
    let spelled = access_text c.args.areas.now in
    on_ok_weaker c.push_after.result
    (λ e whole h. put-so spelled (op_forms c.args.form.now.terms) c.args.waiting.now.items c.push_after.new.waiting.items c.args.piece
    (op-term-made spelled c.args.form.now.terms c.in-Of.number c.term-term.result
    (c.terms_are_over_operands.ensures _ _ _ c.requires.ordered c.term-term.ensures) c.term-term.ensures _ c.op_operands.ensures)
    c.in-Of.is c.in_ok-push_op_head-in-Of.ensures e h)
    c.push_after.ensures

pub returns-in_ok-push_op_head-in-Of-clause-less : goal.returns-in_ok-push_op_head-in-Of-clause-less
returns-in_ok-push_op_head-in-Of-clause-less c =
    let spelled = access_text c.args.areas.now in
    on_ok_weaker c.push_after.result
    (λ e. less-so spelled (op_forms c.args.form.now.terms) c.args.waiting.now.items c.push_after.new.waiting.items c.args.piece
    (op-term-made spelled c.args.form.now.terms c.in-Of.number c.term-term.result
    (c.terms_are_over_operands.ensures _ _ _ c.requires.ordered c.term-term.ensures) c.term-term.ensures _ c.op_operands.ensures)
    c.in-Of.is e)
    c.push_after.ensures

use Rattle.stride_form.proofs.TermLemmas.{form-operands}
use Rattle.stride_form.proofs.writing.term_at.Goals as goal

pub returns-clause-form : goal.returns-clause-form
returns-clause-form c =
    (form-operands c.args.normal.now c.args.number c.term.result c.empty.ensures.formed c.requires c.term.ensures).0

pub returns-clause-before : goal.returns-clause-before
returns-clause-before c =
    (form-operands c.args.normal.now c.args.number c.term.result c.empty.ensures.formed c.requires c.term.ensures).1

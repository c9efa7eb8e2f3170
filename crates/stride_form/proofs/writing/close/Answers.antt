use Rattle.std.proofs.Common.{subst, arith}
use Rattle.std.specs.Prelude.{◌||◌}
use Rattle.std.proofs.lemmas.Result.{IfOk-weaker}
use Rattle.stride_form.proofs.ChainLemmas.{closed-in, closed-out}
use Rattle.stride_form.specs.declared.op_term.OpTerm.TheVariants as op
use Rattle.stride_form.specs.Writing.{Flagged, IsClosed, Pushes}
use Rattle.stride_form.proofs.writing.close.Goals as goal

pub returns-then-not-needed : goal.returns-then-not-needed
returns-then-not-needed c =
    closed-out c.args.bound.now c.args.writer.now c.know.new.self c.set_flag.new.self c.args.of
    (grind (arith, c.flag-needed.ensures, c.if-not-needed.true)) c.in_ok-know.ensures
    (subst (λ n. Flagged c.args.bound.now.var (c.args.bound.now.flag || n) c.know.new.self c.set_flag.new.self) c.flag-needed.ensures
    c.in_ok-set_flag.ensures)

pub returns : goal.returns
returns c form there last =
    IfOk-weaker c.push.result (Pushes (op.Let c.args.bound.now.var c.args.bound.now.bind c.args.of) c.mark_bind.new.self c.push.new.self)
    (IsClosed c.args.bound.now form c.args.writer.now c.push.new.self)
    (λ number push.
    closed-in c.args.bound.now c.args.writer.now c.know.new.self c.set_flag.new.self c.mark_bind.new.self c.push.new.self c.args.of number
    (grind (arith, c.flag-needed.ensures, c.if-not-needed.false)) c.in_ok-know.ensures
    (subst (λ n. Flagged c.args.bound.now.var (c.args.bound.now.flag || n) c.know.new.self c.set_flag.new.self) c.flag-needed.ensures
    c.in_ok-set_flag.ensures) c.in_ok-mark_bind.ensures
    push form there last) c.push.ensures

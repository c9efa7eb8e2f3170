use Rattle.std.specs.Int.{w64}
use Rattle.std.proofs.Common.{subst}
use Rattle.std.proofs.lemmas.Int.{to_z-of_z}
use Rattle.std.proofs.lemmas.Result.{IfOk-weaker}
use Rattle.stride_form.specs.declared.op_term.OpTerm.TheVariants as op
use Rattle.stride_form.specs.Writing.{Pushes}
use Rattle.stride_form.proofs.WriteLemmas.{literal-written}
use Rattle.stride_form.proofs.writing.write_literal.Goals as goal

pub returns : goal.returns
returns c =
    IfOk-weaker c.push.result _ _ (λ number push. literal-written c.args.value c.args.writer.now c.push.new.self number
    (subst (λ value. Pushes (op.Lit value) c.args.writer.now c.push.new.self number) (to_z-of_z w64 c.args.value c.ranges.value) push))
    c.push.ensures

use Rattle.std.proofs.Common.{arith}
use Rattle.std.proofs.lemmas.Int.{to_z-of_z}
use Rattle.std.proofs.lemmas.Result.{IfOk-equal}
use Rattle.loop_ir.specs.Running.{Pointer, Register}
use Rattle.rv_emit.specs.Emitting.{home_at}
use Rattle.rv_emit.specs.Programs.{plan_at}
use Rattle.rv_emit.proofs.SiteLemmas.{behind-near, stores}
use Rattle.rv_emit.proofs.actions.write.Goals as goal

pub returns-clause-lines : goal.returns-clause-lines
returns-clause-lines c =
    let plan = plan_at c.args.site.now in
    IfOk-equal c.push_write.result _ _ _ c.push_write.ensures
    (behind-near stores c.args.owed.now.items c.args.lines.now.items c.push_near.new.lines.items (home_at plan (Register
    c.args.from)) c.register.result
    (home_at plan (Pointer c.args.place)) c.place-to.result _ c.in_ok-imm.ensures.lines (grind (arith, to_z-of_z))
    c.register.ensures.home c.place-to.ensures.home)

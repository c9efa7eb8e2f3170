use Rattle.std.specs.Prelude.{◌+◌, List, length}
use Rattle.std.specs.Int.{w64}
use Rattle.std.proofs.Common.{◌∙◌, ap, arith, subst}
use Rattle.std.proofs.lemmas.Int.{to_z-of_z}
use Rattle.std.proofs.lemmas.Result.{IfOk-weaker}
use Rattle.normal_form.specs.Cutting.{terms_in}
use Rattle.normal_form.specs.Pool.{form_at, forms}
use Rattle.stride_form.specs.declared.facts.Fact.TheVariants.{Range}
use Rattle.stride_form.specs.declared.op_term.OpTerm.{OpTerm}
use Rattle.stride_form.specs.declared.op_term.OpTerm.TheVariants as op
use Rattle.stride_form.specs.Facts.{knowing, resolved}
use Rattle.stride_form.specs.Rules.{needed, passed}
use Rattle.stride_form.specs.Small.{fact_at, flag_at}
use Rattle.stride_form.specs.Writing.{Pushes}
use Rattle.stride_form.proofs.ChainLemmas.{chain-begun, chain-ended}
use Rattle.stride_form.proofs.WriteLemmas.{case-written, fold-written, one-written, ready-as, ready-fold, ready-right, ready-second, two-written}
use Rattle.stride_form.proofs.writing.+writing.Goals as goal

pub write_one-returns : goal.write_one-returns
write_one-returns t c =
    IfOk-weaker c.push.result _ _ (λ number push. one-written c.args.op (form_at (forms c.args.normal.now.terms) c.args.of) c.args.writer.now
    c.write.new.writer c.push.new.self c.in_ok-operand.operand number c.in_ok-operand.ensures push) c.push.ensures

pub write_two-write-requires-2 : goal.write_two-write-requires-2
write_two-write-requires-2 t c =
    let left = form_at (forms c.args.normal.now.terms) c.args.left in
    let right = form_at (forms c.args.normal.now.terms) c.args.right in
    let facts = fact_at c.args.writer.now.facts in (
      omega (arith, c.decreases),
      (
        c.requires.second,
        (
          ready-as facts (fact_at c.write.new.writer.facts) right c.in_ok-left.ensures.facts (ready-right c.args.op left right facts c.requires.ready),
          omega (arith, c.in_ok-left.ensures.few, c.requires.room),
        ),
      ),
    )

pub write_two-push-requires-clause-below : goal.write_two-push-requires-clause-below
write_two-push-requires-clause-below t c =
    ((c.in_ok-right.ensures.keeps c.in_ok-left.left _ c.in_ok-left.ensures.stands_there).there, (c.in_ok-right.ensures.stands_there.there, tt))

pub write_two-returns : goal.write_two-returns
write_two-returns t c =
    IfOk-weaker c.push.result _ _ (λ number push. two-written c.args.op (form_at (forms c.args.normal.now.terms) c.args.left)
    (form_at (forms c.args.normal.now.terms) c.args.right) c.args.writer.now c.write.new.writer c.write-2.new.writer c.push.new.self
    c.in_ok-left.left c.in_ok-right.right number c.in_ok-left.ensures c.in_ok-right.ensures push) c.push.ensures

pub write_case-write-requires-2 : goal.write_case-write-requires-2
write_case-write-requires-2 t c =
    let lower = form_at (forms c.args.normal.now.terms) c.args.yes in
    let upper = form_at (forms c.args.normal.now.terms) c.args.no in
    let facts = fact_at c.args.writer.now.facts in (
      omega (arith, c.decreases),
      (
        c.requires.second,
        (
          ready-as facts (fact_at c.write.new.writer.facts) upper (c.in_ok-yes.ensures.facts ∙ ap fact_at c.in_ok-mark.ensures.facts)
              (ready-second c.args.entry c.args.below lower upper facts c.requires.ready),
          omega (arith, c.in_ok-yes.ensures.few, c.requires.room, ap (λ (terms : List OpTerm). length terms) c.in_ok-mark.ensures.terms),
        ),
      ),
    )

pub write_case-push-requires-clause-below : goal.write_case-push-requires-clause-below
write_case-push-requires-clause-below t c =
    ((c.in_ok-no.ensures.keeps c.in_ok-yes.yes _ c.in_ok-yes.ensures.stands_there).there, (c.in_ok-no.ensures.stands_there.there, tt))

pub write_case-returns : goal.write_case-returns
write_case-returns t c =
    let found = c.resolved-left.result in
    IfOk-weaker c.push.result _ _ (λ number push. case-written c.args.entry found c.args.below
    (form_at (forms c.args.normal.now.terms) c.args.yes)
    (form_at (forms c.args.normal.now.terms) c.args.no) c.args.writer.now c.mark.new.self c.write.new.writer c.write-2.new.writer c.push.new.self
    c.in_ok-yes.yes c.in_ok-no.no number (c.resolved-left.ensures ∙ ap (λ facts. resolved (fact_at facts) c.args.entry) c.table.ensures)
    c.in_ok-mark.ensures c.in_ok-yes.ensures c.in_ok-no.ensures
    (subst (λ below. Pushes (op.Case found below c.in_ok-yes.yes c.in_ok-no.no) c.write-2.new.writer c.push.new.self number)
    (to_z-of_z w64 c.args.below c.ranges.below) push)) c.push.ensures

pub write_fold-write-requires : goal.write_fold-write-requires
write_fold-write-requires t c =
    let of = form_at (forms c.args.normal.now.terms) c.args.of in
    let facts = fact_at c.args.writer.now.facts in (
      omega (arith, c.decreases),
      (
        c.requires.there,
        (
          ready-as (knowing facts c.args.var (Range c.args.low c.args.high)) (fact_at c.know.new.self.facts) of c.in_ok-know.ensures.facts
              (ready-fold c.args.op c.args.var c.args.low c.args.high of facts c.requires.ready),
          omega (arith, c.requires.room, ap (λ (terms : List OpTerm). length terms) c.in_ok-know.ensures.terms),
        ),
      ),
    )

pub write_fold-returns : goal.write_fold-returns
write_fold-returns t c =
    IfOk-weaker c.push.result _ _ (λ number push. fold-written c.args.op c.args.var c.args.low c.args.high
    (form_at (forms c.args.normal.now.terms) c.args.of) c.fact-before.result c.args.writer.now c.know.new.self c.write.new.writer c.know-2.new.self
    c.push.new.self c.in_ok-operand.operand number c.fact-before.ensures.value c.in_ok-know.ensures c.in_ok-operand.ensures c.in_ok-know-2.ensures push)
    c.push.ensures

pub write_chain-returns : goal.write_chain-returns
write_chain-returns t c =
    let form = form_at (forms c.args.normal.now.terms) c.args.number in
    let old = c.args.writer.now in
    IfOk-weaker c.close_chain.result _ _ (λ number are. chain-ended form old c.close_chain.new.writer number are)
    (c.close_chain.ensures (fact_at old.facts) (flag_at old.flags) (needed (passed (fact_at old.facts) form)) old.terms (length old.terms + terms_in form)
    (chain-begun form (form_at (forms c.args.normal.now.terms) c.in_ok-body.body) c.open_chain.new.pile.items old c.open_chain.new.writer
    c.write.new.writer c.in_ok-middle.middle c.in_ok-body.ensures.down c.in_ok-middle.ensures))

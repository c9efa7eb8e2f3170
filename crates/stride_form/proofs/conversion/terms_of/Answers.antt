use Rattle.std.proofs.Common.{◌∙◌, ap, arith, subst, sym}
use Rattle.stride_form.specs.Facts.{starting}
use Rattle.stride_form.specs.Kept.{op_form_in}
use Rattle.stride_form.specs.Small.{fact_at}
use Rattle.stride_form.specs.Writing.{Written}
use Rattle.stride_form.proofs.StartLemmas.{AreSmallPairs, region-small, top-ready, top-written}
use Rattle.stride_form.proofs.conversion.terms_of.Goals as goal

pub starting-requires : goal.starting-requires
starting-requires c =
    subst AreSmallPairs (sym c.region.ensures) (region-small c.args.normal.now c.empty.ensures.formed (λ none. grind (arith, none, c.empty.ensures.test, c.if-empty.false)))

pub write-requires-clause-ready : goal.write-requires-clause-ready
write-requires-clause-ready c =
    top-ready c.args.normal.now c.top.result (fact_at c.new-writer.result.facts) c.empty.ensures.formed c.top.ensures
    (ap (λ (w : Written). fact_at w.facts) c.new-writer.ensures ∙ c.in_ok-facts.ensures ∙ ap starting c.region.ensures)

pub returns-clause-tree : goal.returns-clause-tree
returns-clause-tree c =
    ap op_form_in c.into_terms.ensures.same
    ∙ top-written c.args.normal.now.terms c.args.normal.now.region c.top.result c.in_ok-_top._top c.new-writer.result c.write.new.writer c.top.ensures
    (ap (λ (w : Written). fact_at w.facts) c.new-writer.ensures ∙ c.in_ok-facts.ensures ∙ ap starting c.region.ensures)
    c.in_ok-_top.ensures

use Rattle.std.proofs.Common.{◌++◌, ◌∷◌, [], ◌<◌, ◌∙◌, length, sym, ap, subst, arith}
use Rattle.std.specs.List.{AllByRecursion}
use Rattle.stride_form.specs.declared.facts.Fact.TheVariants.{Range}
use Rattle.stride_form.specs.Facts.{knowing}
use Rattle.stride_form.specs.Small.{IsSmallFact, fact_at}
use Rattle.stride_form.proofs.TableLemmas.{longer-facts, set-facts, small-longer}
use Rattle.stride_form.proofs.table.Table.set.Goals as goal

pub loop-self-preserved : goal.loop-self-preserved
loop-self-preserved c =
    let list = c.loop-self.self-inside.list.items in (
      ap fact_at c.in_ok-push.ensures.items ∙ ap (λ fact. fact_at (list ++ fact ∷ [])) c.nothing.ensures ∙ longer-facts list ∙ c.loop-self.invariant.0,
      subst (AllByRecursion IsSmallFact) (sym c.in_ok-push.ensures.items) (subst (λ fact. AllByRecursion IsSmallFact (list ++ fact ∷ [])) (sym c.nothing.ensures)
          (small-longer list (Range 0 0) c.loop-self.invariant.1 (omega arith, omega arith))),
    )

pub returns : goal.returns
returns c =
    let list = c.loop-self.self-inside.list.items in
    let within : c.args.var < length list = grind (arith, c.len.ensures, c.loop-self-test.false) in
    set-facts list c.args.var c.args.fact within ∙ ap (λ facts. knowing facts c.args.var c.args.fact) (c.loop-self.invariant.0 ∙ ap fact_at c.self.view_is)

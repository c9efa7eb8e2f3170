use Rattle.std.proofs.Common.{◌≡◌, ◌++◌, ◌∷◌, [], ◌∙◌, sym, rules}
use Rattle.array_run.proofs.WordLemmas.{values_counted, values_more}
use Rattle.array_run.proofs.outputs.values_at.Goals as goal

pub loop-k-preserved : goal.loop-k-preserved
loop-k-preserved c =
    let pushed : c.push.new.self.items ≡ c.loop-k.values.items ++ c.value_at.result ∷ [] = search (rules, c.in_ok-push.ensures.items) in
    pushed ∙ rw (c.loop-k.invariant, c.value_at.ensures) (sym (values_more c.args.block.now c.args.word c.loop-k.k))

pub returns-clause-count : goal.returns-clause-count
returns-clause-count c = search (rules, values_counted)

use Rattle.std.proofs.Common.{◌≡◌, ◌+◌, ◌+ℤ◌, ◌∙◌, sym, subst, arith, drop, to_z, of_z, w64, ℤ}
use Rattle.std.specs.Int.{int_wrap}
use Rattle.std.proofs.lemmas.Int.{to_z-of_z}
use Rattle.rv_emit.specs.Walks.{owed_at}
use Rattle.rv_emit.proofs.OwedCodeLemmas.{sum-begins, sum-goes}
use Rattle.rv_emit.proofs.owed.owed_at.Goals as goal

pub loop-debt-init : goal.loop-debt-init
loop-debt-init c = sum-begins c.args.owed.now c.args.home

pub loop-debt-preserved : goal.loop-debt-preserved
loop-debt-preserved c =
    let owed = c.args.owed.now in
    let i = c.loop-debt.debt-index in
    let home = c.args.home in
    let total : to_z w64 (of_z w64 c.with_debt-words.result) ≡ c.with_debt-words.result = grind (arith, to_z-of_z) in
    subst (λ (n : ℤ). int_wrap w64 (n +ℤ owed_at (drop (i + 1) owed) home) ≡ owed_at owed home)
    (sym (total ∙ c.with_debt-words.ensures))
    (sum-goes owed i _ home (to_z w64 c.loop-debt.words-bits) c.loop-debt-test.true c.loop-debt.invariant)

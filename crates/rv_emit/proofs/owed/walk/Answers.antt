use Rattle.std.proofs.Common.{arith, ◌≡◌, ap, ◌∙◌, subst, get_or, set, true, ◌<◌, length, drop, take, ◌++◌, ℤ, ◌+ℤ◌, w64, to_z, of_z, List}
use Rattle.std.specs.Int.{int_wrap}
use Rattle.std.proofs.lemmas.Int.{to_z-of_z}
use Rattle.register_map.specs.declared.home.Home.{Home}
use Rattle.rv_emit.specs.Walks.{is_home, with_walk}
use Rattle.rv_emit.proofs.OwedCodeLemmas.{walk-here}
use Rattle.rv_emit.proofs.owed.walk.Goals as goal

pub returns-then-is_home : goal.returns-then-is_home
returns-then-is_home c =
    let owed = c.args.owed.now.items in
    let i = c.loop-place.place in
    let home = c.args.home in
    let debt = c.index-debt.result.now in
    let kept : c.loop-place.owed.items ≡ owed = ap (λ list. list.items) c.loop-place.invariant.0 in
    let within : i < length owed = omega (arith, c.loop-place-test.true, c.len-place-end.ensures) in
    let read : debt ≡ get_or owed i debt = grind (arith, c.loop-place.invariant) in
    let same : is_home (get_or owed i debt).0 home ≡ true = grind (arith, read) in
    let total : to_z w64 (of_z w64 c.sum.result) ≡ int_wrap w64 (debt.1 +ℤ c.args.words) = grind (arith, to_z-of_z) in
    let so_far = subst (λ (n : ℤ). take i owed ++ with_walk (drop i owed) home n ≡ with_walk owed home n)
    (to_z-of_z w64 c.args.words c.ranges.words) c.loop-place.invariant.1 in
    let here = walk-here owed i debt home c.args.words within same so_far in
    ap (λ (list : List (Home × ℤ)). set list i (debt.0, to_z w64 (of_z w64 c.sum.result))) kept
    ∙ ap (λ (n : ℤ). set owed i (debt.0, n)) total
    ∙ ap (λ (d : Home × ℤ). set owed i (d.0, int_wrap w64 (d.1 +ℤ c.args.words))) read
    ∙ here

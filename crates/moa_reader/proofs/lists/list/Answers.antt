use Rattle.std.proofs.Common.{List, ◌∷◌, rules}
use Rattle.std.proofs.lemmas.Result.{err_from_is_err_and}
use Rattle.moa_tree.specs.Expected.{Want}
use Rattle.moa_reader.specs.Outcomes.{IsRefusedWith}
use Rattle.moa_reader.specs.Sources.{all}
use Rattle.moa_reader.proofs.ListLemmas.{list_refused, list_taken}
use Rattle.moa_reader.proofs.lists.list.Goals as goal

pub returns-in_err-sign-2-clause-refused : goal.returns-in_err-sign-2-clause-refused
returns-in_err-sign-2-clause-refused c =
    let refused : (wants : List Want) → IsRefusedWith (Want.AList ∷ wants) (all c.args.source.now) c.in_err-sign-2.field-0.0 =
    list_refused c.args.source.now c.sign.new.self c.numbers.new.source c.args.builder.now c.numbers.new.builder c.in_err-sign-2.field-0.0
    c.in_ok-sign.ensures.taken c.in_ok-numbers.ensures.taken c.in_err-sign-2.ensures.other c.in_err-sign-2.ensures.refused in
    let p = err_from_is_err_and c.from_residual-in_err-sign-2.result c.from_residual-in_err-sign-2.ensures.1 in
    rw (p.1, p.2) refused

pub returns-clause-taken : goal.returns-clause-taken
returns-clause-taken c =
    list_taken c.args.source.now c.sign.new.self c.numbers.new.source c.sign-2.new.self c.args.builder.now c.numbers.new.builder c.list_from.result
    c.in_ok-sign.ensures.taken
    c.in_ok-numbers.ensures.taken
    c.in_ok-sign-2.ensures.taken
    (search rules)
    (search (rules, c.list_from.ensures))

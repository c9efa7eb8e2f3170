use Rattle.std.proofs.Common.{◌≡◌, ◌-◌, ◌+◌, ◌++◌, ◌∷◌, [], rules, length}
use Rattle.std.proofs.lemmas.Result.{err_from_is_err_and, on_ok_weaker}
use Rattle.array_text.proofs.ValueLemmas.{fills_more, refused_value}
use Rattle.array_text.proofs.reading.some_values.Goals as goal

pub returns-in_err-value-clause-refused : goal.returns-in_err-value-clause-refused
returns-in_err-value-clause-refused c =
    let p = err_from_is_err_and c.from_residual.result c.from_residual.ensures.1 in
    rw (p.1, p.2) (λ declared came place.
    refused_value declared came place c.args.values.now.items c.args.count c.args.source.now _ c.requires
    (c.in_err-value.ensures.refused came place c.args.values.now.items (c.args.count - (length c.args.values.now.items + 1))))

pub returns-clause-fills : goal.returns-clause-fills
returns-clause-fills c =
    let added : c.append.new.values.items ≡ c.args.values.now.items ++ c.in_ok-value.value ∷ [] = search
    (rules, c.in_ok-append.ensures.added) in
    on_ok_weaker c.take_values.result
    (λ fills. (fills_more c.args.count c.args.values.now.items c.append.new.values.items c.take_values.new.values.items
    c.in_ok-value.value c.args.source.now c.take_values.new.self c.requires c.in_ok-value.ensures.value added fills).0)
    c.take_values.ensures.fills

pub returns-clause-more : goal.returns-clause-more
returns-clause-more c =
    let added : c.append.new.values.items ≡ c.args.values.now.items ++ c.in_ok-value.value ∷ [] = search
    (rules, c.in_ok-append.ensures.added) in
    on_ok_weaker c.take_values.result
    (λ fills. (fills_more c.args.count c.args.values.now.items c.append.new.values.items c.take_values.new.values.items
    c.in_ok-value.value c.args.source.now c.take_values.new.self c.requires c.in_ok-value.ensures.value added fills).1)
    c.take_values.ensures.fills

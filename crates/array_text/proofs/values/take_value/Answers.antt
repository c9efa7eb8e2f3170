use Rattle.std.proofs.Common.{◌≡◌, ◌++◌, ◌∷◌, [], rules}
use Rattle.text_tokens.specs.declared.token.Token.TheVariants as token
use Rattle.text_tokens.specs.Tokens.{GivesNext}
use Rattle.array_text.proofs.ValueLemmas.{fills_next}
use Rattle.array_text.proofs.values.take_value.Goals as goal

pub returns-in_ok-append-in-Some-clause-fills : goal.returns-in_ok-append-in-Some-clause-fills
returns-in_ok-append-in-Some-clause-fills c =
    let added : c.append.new.values.items ≡ c.args.values.now.items ++ c.in-Some.value ∷ [] = search
    (rules, c.in_ok-append-in-Some.ensures.added) in
    let gives : GivesNext c.args.scanner.now (token.Number c.in-Some.value, c.in-Some.field-0-1) c.next_number.new.self = search
    (rules, c.in-Some.ensures.taken) in
    fills_next c.args.count c.args.values.now.items c.append.new.values.items c.in-Some.value c.in-Some.field-0-1 c.args.scanner.now
    c.next_number.new.self
    c.requires added gives

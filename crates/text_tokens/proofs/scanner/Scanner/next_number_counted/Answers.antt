use Rattle.std.proofs.Common.{ap, arith}
use Rattle.std.proofs.lemmas.Int.{to_z-of_z}
use Rattle.text_tokens.proofs.NumberLemmas.{gives_number, number_cost, stands_first}
use Rattle.text_tokens.proofs.scanner.Scanner.next_number_counted.Goals as goal

pub advance-requires : goal.advance-requires
advance-requires g c =
    (stands_first _ c.skip_separators.new.self _ c.in_ok-number.number c.in_ok-number.len c.self.view_is c.number_in_front.ensures.value
    c.in_ok-number.was).within

pub returns-clause-number : goal.returns-clause-number
returns-clause-number g c =
    let stands = stands_first _ c.skip_separators.new.self _ c.in_ok-number.number c.in_ok-number.len c.self.view_is
    c.number_in_front.ensures.value c.in_ok-number.was in
    let gives = gives_number c.args.self.now c.skip_separators.new.self c.advance.new.self c.in_ok-number.number c.in_ok-number.len
    c.skip_separators.ensures.same c.skip_separators.ensures.no_longer stands c.advance.ensures.left in
    let place = ap (λ left. left.position) c.self.view_is in
    record { taken = grind (arith, to_z-of_z, gives, place); other = λ none. absurd (cc none) }

pub returns-clause-cost : goal.returns-clause-cost
returns-clause-cost g c = λ some.
    let stands = stands_first _ c.skip_separators.new.self _ c.in_ok-number.number c.in_ok-number.len c.self.view_is
    c.number_in_front.ensures.value c.in_ok-number.was in
    let cost = number_cost c.skip_separators.new.self c.advance.new.self c.in_ok-number.number c.in_ok-number.len
    c.skip_separators.new.looks c.number_in_front.new.looks
    stands c.advance.ensures.left (rw (← c.self.view_is) c.number_in_front.ensures.cost) in
    omega (arith, cost, c.skip_separators.ensures.cost)

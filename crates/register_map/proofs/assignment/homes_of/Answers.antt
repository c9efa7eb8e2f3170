use Rattle.std.specs.Prelude.{◌++◌, ◌^◌, drop}
use Rattle.std.proofs.Common.{arith, ap, sym, ◌∙◌, subst, append-nil}
use Rattle.std.proofs.lemmas.List.{drop_all}
use Rattle.register_map.specs.Assigned.{assigned, mark, words_behind}
use Rattle.register_map.specs.Homes.{IsGiven}
use Rattle.register_map.proofs.AssignedLemmas.{fresh, words-least}
use Rattle.register_map.proofs.GivenLemmas.{given-is, words-few}
use Rattle.register_map.proofs.assignment.homes_of.Goals as goal

pub give_home-requires : goal.give_home-requires
give_home-requires c =
    let marks = mark c.args.marked.now in
    let codes = c.args.codes.now in
    let all = words-few marks 0 0 (2 ^ 31) codes (omega arith) (omega arith) c.requires.rising c.requires.low in
    record {
      fresh = fresh codes c.loop-code.code-index c.loop-code.homes.entries c.requires.rising c.loop-code-test.true
          c.loop-code.invariant.keys;
      room = omega (arith, words-least marks c.loop-code.word (drop c.loop-code.code-index codes), c.loop-code.invariant.words, all);
    }

pub new-requires : goal.new-requires
new-requires c =
    let marks = mark c.args.marked.now in
    let codes = c.args.codes.now in
    let entries = c.loop-code.homes.entries in
    let word = c.loop-code.word in
    let none = drop_all c.loop-code.code-index codes c.loop-code-test.false in
    let homes = sym (append-nil entries) ∙ sym (ap (λ rest. entries ++ assigned marks word rest) none) ∙ c.loop-code.invariant.homes in
    let words = sym (ap (words_behind marks word) none) ∙ c.loop-code.invariant.words in
    subst (λ list. IsGiven (record { homes = list; spill = word })) (sym homes)
    (subst (λ number. IsGiven (record { homes = assigned marks 0 codes; spill = number })) (sym words) (given-is c.args.marked.now codes c.requires.rising c.requires.low))

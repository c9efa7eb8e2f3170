use Rattle.std.proofs.Common.{rules, ap, sym, ◌∙◌, arith}
use Rattle.moa_reader.specs.Lexemes.{number_in}
use Rattle.moa_reader.proofs.ListLemmas.{same_number}
use Rattle.moa_reader.proofs.WantLemmas.{number_taken}
use Rattle.moa_reader.proofs.lists.numbers.Goals as goal

pub loop-value-preserved : goal.loop-value-preserved
loop-value-preserved c = record {
  same = same_number c.args.source.now c.loop-value.source c.advance.new.self c.in-Some.value c.args.builder.now c.loop-value.builder
      c.number-in-Some.new.self
      c.loop-value.invariant.same
      (number_taken c.loop-value.source.lexeme c.in-Some.value (ap number_in (sym c.lexeme.ensures) ∙ sym c.number.ensures ∙ c.in-Some.is))
      c.advance.ensures.value
      (search (rules, c.in_ok-number.ensures.added));
  spent = omega (arith, c.loop-value.invariant.spent, c.in_ok-number.ensures.built, c.advance.ensures.fewer);
}

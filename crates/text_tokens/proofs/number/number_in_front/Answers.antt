use Rattle.std.proofs.Common.{◌<◌, ◌∙◌, arith, drop}
use Rattle.text_tokens.proofs.NumberLemmas.{bool_count, digits_in_run, goes_on, short_number}
use Rattle.text_tokens.proofs.number.number_in_front.Goals as goal

pub returns-then-not-ends_at-clause-cost : goal.returns-then-not-ends_at-clause-cost
returns-then-not-ends_at-clause-cost g c =
    omega (
      arith,
      digits_in_run c.args.text.now c.unsigned_part-digits.result c.short_digits-magnitude.result.1 c.unsigned_part-digits.ensures
          c.short_digits-magnitude.ensures.within c.short_digits-magnitude.ensures.digits,
      goes_on (drop c.short_digits-magnitude.result.1 c.unsigned_part-digits.result) c.ends_at.result c.ends_at.ensures.value
          c.if-not-ends_at.true,
    )

pub returns-clause-value : goal.returns-clause-value
returns-clause-value g c =
    let some : 0 < c.short_digits-magnitude.result.1 = omega arith in
    c.with_len.ensures
    ∙ short_number c.args.text.now c.unsigned_part-digits.result c.starts_with_minus-minus.result c.ends_at.result
    c.short_digits-magnitude.result.1
    c.short_digits-magnitude.result.0 c.from.result c.token_of_number.result c.number_of-number.result
    c.starts_with_minus-minus.ensures.value c.unsigned_part-digits.ensures some c.short_digits-magnitude.ensures.within
    c.short_digits-magnitude.ensures.digits c.ends_at.ensures.value c.if-not-ends_at.false c.short_digits-magnitude.ensures.value
    c.token_of_number.ensures c.number_of-number.ensures (c.from.ensures ∙ bool_count c.starts_with_minus-minus.result)

pub returns-clause-cost : goal.returns-clause-cost
returns-clause-cost g c =
    omega (
      arith,
      digits_in_run c.args.text.now c.unsigned_part-digits.result c.short_digits-magnitude.result.1 c.unsigned_part-digits.ensures
          c.short_digits-magnitude.ensures.within c.short_digits-magnitude.ensures.digits,
    )

use Rattle.std.proofs.Common.{◌≡◌, ◌∙◌, ap, sym, arith, true, get_or}
use Rattle.shapes_core.specs.Name.{is_digit}
use Rattle.text_tokens.proofs.DigitLemmas.{all_more, digit_bounds, digit_fits, digit_more, short_fits}
use Rattle.text_tokens.proofs.number.short_digits.Goals as goal

pub overflow_mul-value : goal.overflow_mul-value
overflow_mul-value g c = omega (arith, short_fits c.loop-place.value c.loop-place.place c.loop-place.invariant.fits (omega arith))

pub overflow_add-value : goal.overflow_add-value
overflow_add-value g c =
    omega (
      arith,
      short_fits c.loop-place.value c.loop-place.place c.loop-place.invariant.fits (omega arith),
      digit_bounds c.at-byte.result (sym c.is_digit.ensures ∙ c.if-not-is_digit.false),
    )

pub loop-place-preserved : goal.loop-place-preserved
loop-place-preserved g c =
    let digit : is_digit c.at-byte.result ≡ true = sym c.is_digit.ensures ∙ c.if-not-is_digit.false in
    let bounds = digit_bounds c.at-byte.result digit in
    let here : is_digit (get_or c.args.text.now c.loop-place.place 0) ≡ true = ap is_digit (sym c.at-byte.ensures.value) ∙ digit in
    record {
      digits = all_more c.args.text.now c.loop-place.place (omega arith) c.loop-place.invariant.digits here;
      read = cc (
        c.loop-place.invariant.read,
        c.from.ensures,
        c.at-byte.ensures.value,
        digit_more c.args.text.now c.loop-place.place
            (omega arith) here,
      );
      fits = digit_fits c.loop-place.value c.loop-place.place c.from.result c.loop-place.invariant.fits (omega (arith, bounds));
      cost = omega arith;
    }

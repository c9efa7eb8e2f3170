use Rattle.shapes_core.proofs.DigitLemmas.{digits-IsIndex, digits-again, digits-at, digits-gamma, digits-ungamma, gamma-digits, length-digits}
use Rattle.shapes_core.proofs.laws.digit_laws.Goals as goal

pub returns : goal.returns
returns c = record {
  len = length-digits;
  digit_at = digits-at;
  is_index = digits-IsIndex;
  of_digits = gamma-digits;
  undone = digits-gamma;
  same = digits-ungamma;
  again = digits-again;
}

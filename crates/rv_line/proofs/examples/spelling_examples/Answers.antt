use Rattle.rv_line.proofs.ExampleLemmas.{small_spelled, loose_spelled, misplaced_refused}
use Rattle.rv_line.proofs.NearMissLemmas.{leading_zero_refused, large_imm_refused, no_label_refused, wrong_offset_refused, repeated_label_refused}
use Rattle.rv_line.proofs.examples.spelling_examples.Goals as goal

pub returns : goal.returns
returns c = record {
  small = small_spelled;
  loose = loose_spelled;
  misplaced = misplaced_refused;
  leading_zero = leading_zero_refused;
  large_imm = large_imm_refused;
  no_label = no_label_refused;
  wrong_offset = wrong_offset_refused;
  repeated_label = repeated_label_refused;
}

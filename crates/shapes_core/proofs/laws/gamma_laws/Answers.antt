use Rattle.shapes_core.proofs.GammaLemmas.{gamma-below, gamma-last, gamma-ungamma, length-rows, rows-gamma, total-last, ungamma-IsIndex, ungamma-gamma}
use Rattle.shapes_core.proofs.laws.gamma_laws.Goals as goal

pub returns : goal.returns
returns c = record {
  total_last = total-last;
  last = gamma-last;
  below = gamma-below;
  is_index = ungamma-IsIndex;
  of_ungamma = gamma-ungamma;
  undone = ungamma-gamma;
  rows_len = length-rows;
  row_at = rows-gamma;
}

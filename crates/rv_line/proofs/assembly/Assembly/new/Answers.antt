use Rattle.rv_line.proofs.LabelLemmas.{targets_within, length-places_from}
use Rattle.rv_line.proofs.assembly.Assembly.new.Goals as goal

pub labels-requires-clause-targets : goal.labels-requires-clause-targets
labels-requires-clause-targets c = rw c.deref.ensures.value (targets_within _ 0 c.args.lines.items c.requires.fits.in_form)

pub invariant_of-result : goal.invariant_of-result
invariant_of-result c = record {
  fits = c.requires.fits;
  placed = rw (c.in_ok-places.ensures, c.deref-2.ensures.value) (length-places_from _ _ 0 c.args.lines.items);
}

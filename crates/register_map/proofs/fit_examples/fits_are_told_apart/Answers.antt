use Rattle.register_map.proofs.ExampleLemmas.{eight-is-kept, five-fits, scratch-is-free, shared-is-lost}
use Rattle.register_map.proofs.fit_examples.fits_are_told_apart.Goals as goal

pub returns : goal.returns
returns c = record { given = five-fits; kept = eight-is-kept; scratch = scratch-is-free; shared = shared-is-lost }

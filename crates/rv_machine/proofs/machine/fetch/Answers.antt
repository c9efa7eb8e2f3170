use Rattle.rv_machine.proofs.WalkLemmas.{fits_at}
use Rattle.rv_machine.proofs.machine.fetch.Goals as goal

pub returns-clause-fits : goal.returns-clause-fits
returns-clause-fits c = fits_at _ _ _ _ c.requires.fits c.requires.line

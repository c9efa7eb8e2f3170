use Rattle.moa_reader.proofs.heads.form.Goals as goal

pub returns-in-Iota-clause-refused : goal.returns-in-Iota-clause-refused
returns-in-Iota-clause-refused c = rw c.in-Iota.is c.iota.ensures.refused

use Rattle.std.proofs.Common.{inl, inr, map}
use Rattle.std.specs.Prelude.{string_bytes}
use Rattle.psi_top.proofs.start.run_over.Goals.{in-Ok, in-Err}
use Rattle.psi_top.proofs.start.run_over.Goals as goal

pub returns : goal.returns
returns g c = elim c.match-words.branch [
  | in-Ok w ↦
      let done = w.psi-status.ensures.answered in
      inl (map string_bytes w.deref.result.now, done.0, rw w.shelf-is done.1, rw (w.out-is, w.err-is, c.from.ensures, c.byte.ensures, w.status-is) done.2)
  | in-Err w ↦
      inr (rw (c.from.ensures, c.byte.ensures, w.status-is) w.status_without_words-status.ensures.among, w.shelf-is, w.out-is, w.err-is)
]

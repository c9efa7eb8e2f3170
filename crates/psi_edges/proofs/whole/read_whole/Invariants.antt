use Rattle.std.proofs.Common.{◌≡◌, ◌-◌, ◌^◌, ◌<◌, ◌≤◌, vec_len}
use Rattle.psi_edges.specs.Calls.{AreAsked}
use Rattle.psi_edges.specs.Causes.{raised}
use Rattle.psi_edges.proofs.FrontLemmas.{IsFront}
use Rattle.psi_edges.proofs.whole.read_whole.Given as goal

-- the bytes so far are the front of the file, and were counted
abbrev pub invariant-loop-shelf : goal.invariant-loop-shelf
invariant-loop-shelf g l =
    let shelf = g.F.Shelf in
    record {
      within : vec_len l.bytes ≤ l.most;
      front : IsFront (shelf.files l.fn.shelf) l.name l.bytes.items;
      asked : AreAsked shelf.takes l.most l.fn.shelf (vec_len l.bytes) l.shelf;
      given : raised (shelf.given l.shelf) 0 ≡ raised (shelf.given l.fn.shelf) (vec_len l.bytes);
      bounded : 0 < vec_len l.bytes → shelf.given l.shelf ≤ 2 ^ 64 - 1;
      more_given : shelf.given l.fn.shelf ≤ shelf.given l.shelf;
      faults : shelf.faults l.shelf ≡ shelf.faults l.fn.shelf;
      failed_name : shelf.failed_name l.shelf ≡ shelf.failed_name l.fn.shelf;
      unchanged : shelf.files l.shelf ≡ shelf.files l.fn.shelf;
    }

abbrev pub decreases-loop-shelf : goal.decreases-loop-shelf
decreases-loop-shelf g l = l.most - vec_len l.bytes

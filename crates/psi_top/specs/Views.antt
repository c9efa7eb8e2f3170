-- What a caller sees of the outside. This project's own.
use Rattle.std.specs.Prelude.{ℕ, List, Option}
use Rattle.psi_edges.specs.Files.{Files}
use Rattle.psi_edges.specs.declared.shelf.Shelf as shelves
use Rattle.psi_edges.specs.declared.sink.Sink as sinks

-- of a shelf: its files, where it tells them, its failed reads, the name of the last of them, and the bytes that it gave
pub record ShelfView : Type 0 where
  pub files : Option Files
  pub faults : ℕ
  pub failed_name : List ℕ
  pub given : ℕ

-- of a sink: the bytes that it holds, where it tells them, and its failed puts
pub record SinkView : Type 0 where
  pub held : Option (List ℕ)
  pub faults : ℕ

abbrev pub shelf_view : {T : Type 0} → shelves.Ghosts T → T → ShelfView
shelf_view members shelf = record {
  files = members.files shelf;
  faults = members.faults shelf;
  failed_name = members.failed_name shelf;
  given = members.given shelf;
}

abbrev pub sink_view : {T : Type 0} → sinks.Ghosts T → T → SinkView
sink_view members sink = record { held = members.held sink; faults = members.faults sink }

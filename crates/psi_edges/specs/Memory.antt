-- What is known of a shelf and of a sink in memory, and which of their calls fail. This project's own.
use Rattle.std.specs.Prelude.{ℕ, List, [], Bool, map, nat_eq, nat_le, is_none, ◌||◌, length, refl, Vec, String}
use Rattle.std.specs.List.{list_any}
use Rattle.std.specs.FinMap as finite
use Rattle.std.specs.String.{string_bytes}
use Rattle.std.specs.Coded.{Coded, code_by, coded×, coded_ℕ, coded_list}
use Rattle.psi_edges.specs.Causes.{raised}
use Rattle.psi_edges.specs.Files.{Files}

-- the files of a map from names to bytes
abbrev pub files_of : {Y Z : Type 0} → List (String Y × Vec ℕ Z) → Files
files_of entries = finite.from_entries (map (λ e. (string_bytes e.0, e.1.items)) entries)

-- what is known of a shelf in memory: its files, the numbers of its calls that fail, and its counts
pub record ShelfState : Type 0 where
  pub files : Files
  pub failing : List ℕ
  pub calls : ℕ
  pub faults : ℕ
  pub failed_name : List ℕ
  pub given : ℕ

-- a shelf's state is stored as the tuple of its fields
abbrev pub shelf_code : Coded ShelfState
shelf_code = code_by (Files × (List ℕ × (ℕ × (ℕ × (List ℕ × ℕ)))))
    (coded× (finite.code (coded_list coded_ℕ) (coded_list coded_ℕ)) (coded× (coded_list coded_ℕ) (coded× coded_ℕ (coded× coded_ℕ (coded× (coded_list coded_ℕ) coded_ℕ)))))
    (λ s. (s.files, (s.failing, (s.calls, (s.faults, (s.failed_name, s.given))))))
    (λ p. record { files = p.0; failing = p.1.0; calls = p.1.1.0; faults = p.1.1.1.0; failed_name = p.1.1.1.1.0; given = p.1.1.1.1.1 })
    (λ _. refl)

-- a shelf with no file, of which no call fails
abbrev pub empty_shelf : ShelfState
empty_shelf = record { files = finite.empty; failing = []; calls = 0; faults = 0; failed_name = []; given = 0 }

-- the call of this number is among those that fail
abbrev pub is_named : List ℕ → ℕ → Bool
is_named failing call = list_any (λ n. nat_eq n call) failing

-- the next `take` of this name fails: its number was named, or there is no such file
abbrev pub take_fails : ShelfState → List ℕ → Bool
take_fails shelf name = is_named shelf.failing (raised shelf.calls 1) || is_none (finite.get shelf.files name)

-- what is known of a sink in memory: its bytes, how many it may hold and take at once, the numbers of its
-- calls that fail, and its counts
pub record SinkState : Type 0 where
  pub held : List ℕ
  pub room : ℕ
  pub piece : ℕ
  pub failing : List ℕ
  pub calls : ℕ
  pub faults : ℕ

-- a sink's state is stored as the tuple of its fields
abbrev pub sink_code : Coded SinkState
sink_code = code_by (List ℕ × (ℕ × (ℕ × (List ℕ × (ℕ × ℕ)))))
    (coded× (coded_list coded_ℕ) (coded× coded_ℕ (coded× coded_ℕ (coded× (coded_list coded_ℕ) (coded× coded_ℕ coded_ℕ)))))
    (λ s. (s.held, (s.room, (s.piece, (s.failing, (s.calls, s.faults))))))
    (λ p. record { held = p.0; room = p.1.0; piece = p.1.1.0; failing = p.1.1.1.0; calls = p.1.1.1.1.0; faults = p.1.1.1.1.1 })
    (λ _. refl)

-- a sink that holds nothing, of which no call fails
abbrev pub empty_sink : ℕ → ℕ → SinkState
empty_sink room piece = record { held = []; room = room; piece = piece; failing = []; calls = 0; faults = 0 }

-- the next `put` fails: its number was named, or there is no room
abbrev pub put_fails : SinkState → Bool
put_fails sink = is_named sink.failing (raised sink.calls 1) || nat_le sink.room (length sink.held)

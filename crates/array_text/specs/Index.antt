-- The places of the declared arrays by their names. This project's own.
use Rattle.std.specs.Prelude.{◌≡◌, ℕ, List}
use Rattle.std.specs.HashMap.{HashMap, get_by}
use Rattle.std.specs.Str.{bytes_eq}
use Rattle.shapes_core.specs.declared.area.Declared.{Declared}
use Rattle.array_text.specs.Outcome.{place_of}
use denote.Ref.{Bor}

-- the map has each name's place
abbrev pub IsIndex : {S : Type 0} → List Declared → HashMap (Bor (List ℕ)) ℕ S → Type 0
IsIndex declared index = (name : List ℕ) → get_by (λ key. bytes_eq name key.now) index ≡ place_of declared name

-- What a step leaves as it was, and what it depends on. This project's own.
use Rattle.std.specs.Prelude.{◌≡◌, ℕ, ◌+◌, ◌-◌, ◌<◌, ◌≤◌, ◌⊎◌, List, ⊤, slice_index}
use Rattle.rv_line.specs.declared.line.Line.{Line}
use Rattle.rv_line.specs.declared.line.Line.TheVariants.{Store as StoreLine}
use Rattle.rv_steps.specs.Effects.{store_width}
use Rattle.rv_steps.specs.Machine.{Access, Loads, NoAccess, Stores, address, register_at, with_value}

-- the access leaves this byte of the block as it is
abbrev pub Spares : ℕ → ℕ → Access → Type 0
Spares base place NoAccess = ⊤
Spares base place (Loads at size) = ⊤
Spares base place (Stores at size) = (base + place < at) ⊎ (at + size ≤ base + place)

-- two blocks agree on the bytes that an access loads
abbrev pub AgreeOn : ℕ → Access → List ℕ → List ℕ → Type 0
AgreeOn base NoAccess one other = ⊤
AgreeOn base (Loads at size) one other = (place : ℕ) → at ≤ base + place → base + place < at + size → slice_index one place ≡ slice_index other place
AgreeOn base (Stores at size) one other = ⊤

-- the block after the line's store, if it is one
abbrev pub block_after : ℕ → Line → List ℕ → List ℕ → List ℕ
block_after base (StoreLine code from imm pointer) registers block =
    with_value (store_width code) block (address registers pointer imm - base) (register_at registers from)
block_after base line registers block = block
